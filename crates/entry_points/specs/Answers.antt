-- What the entries answer, in the definition's terms.
use Rattle.std.specs.Prelude.{◌≡◌, Bool, ◌&&◌, List, ℕ, ◌≤◌, leb, ℤ, length, Result, Ok, Err}
use Rattle.definition.specs.Answer.{Answer, got, refused, ◌>>=◌}
use Rattle.definition.specs.Limit.{max_text, max_names}
use Rattle.definition.specs.Place.{place_of}
use Rattle.definition.specs.Text.{Bytes}
use Rattle.definition.specs.Token.{Lexed}
use Rattle.definition.specs.Model.{Model}
use Rattle.definition.specs.Table.{Table}
use Rattle.definition.specs.NameTable.{name_table}
use Rattle.definition.specs.Entry as meant
use Rattle.definition.specs.Lent.{Lent, words, wides, signeds, long_enough, zeroed, left_in}
use Rattle.definition.specs.Region.{words_length, wides_length, signeds_length}
use Rattle.definition_laws.specs.Inside.{WithinLimits}
use Rattle.encoding.specs.Refusals.{number_of}
use Rattle.table.specs.Held.{Encodes, Left as Remains}
use Rattle.table.specs.declared.Cursor.{Cursor}
use Rattle.clearing.specs.Slices.{lent}
use Rattle.lexer.specs.Columns.{RoomIf, Zero, LinksIf}
use Rattle.entry_points.specs.declared.Counts.{Counts}
use Rattle.entry_points.specs.declared.Entry.{Entry}
use Rattle.entry_points.specs.declared.Entry.TheVariants.{WholeHeader, SingleDeclaration}
use Rattle.entry_points.specs.declared.Rejection.{Rejection}

abbrev pub entry_of : Entry → meant.Entry
entry_of WholeHeader = meant.wholeHeader
entry_of SingleDeclaration = meant.singleDeclaration

-- the tokens of a text of some length
abbrev pub lexed : List ℕ → List ℕ → List ℕ → ℕ → Lexed
lexed ks ps ns end = record { tokens = record { kinds = ks; numbers = ns }; places = ps; text_end = end }

-- the cursor at the first token: row 0 is there
abbrev pub first_cursor : Cursor
first_cursor = record { at = 0; rows = 1; members = 0; values = 0; parameters = 0; declarations = 0 }

-- a table was read, or refused at an offset, and what was read of it remains
pub data Parses (a : Answer Table) (r : Answer Cursor) (w d : List ℕ) (v : List ℤ) : Type 0 where
  done : (t : Table) (c : Cursor) → a ≡ got t → r ≡ got c → Encodes t c w d v → Parses a r w d v
  stop : (n p : ℕ) → a ≡ refused n p → r ≡ refused n p → Remains w d v → Parses a r w d v

abbrev pub counts_from : Cursor → ℕ → Counts
counts_from c names = record { rows = c.rows; members = c.members; values = c.values; parameters = c.parameters; declarations = c.declarations; names = names }

-- "the table's counts are its lengths"
abbrev pub counts_of : meant.Accepted → Counts
counts_of a = record {
  rows = length a.table.rows;
  members = length a.table.members;
  values = length a.table.values;
  parameters = length a.table.parameters;
  declarations = length a.table.declarations;
  names = length a.names;
}

-- the slices hold an accepted table
pub record Holds (a : meant.Accepted) (w d : List ℕ) (v : List ℤ) : Type 0 where
  pub words : w ≡ words a
  pub wides : d ≡ wides a.table
  pub signeds : v ≡ signeds a.table
  pub limits : WithinLimits a.table
  pub few : length a.names ≤ max_names

-- a text was read, or refused: before a number was written, or in the midst of a table, which is cleared
pub data Read (a : Answer meant.Accepted) (w d : List ℕ) (v : List ℤ) (r : Answer Counts) (w' d' : List ℕ) (v' : List ℤ) : Type 0 where
  done : (x : meant.Accepted) → a ≡ got x → r ≡ got (counts_of x) → Holds x w' d' v' → Read a w d v r w' d' v'
  same : (n p : ℕ) → a ≡ refused n p → r ≡ refused n p → lent w' d' v' ≡ lent w d v → Read a w d v r w' d' v'
  stop : (n p : ℕ) → a ≡ refused n p → r ≡ refused n p → lent w' d' v' ≡ zeroed (lent w d v) → Read a w d v r w' d' v'

unfoldable pub read_tokens : meant.Entry → Lexed → Model → Answer meant.Accepted
read_tokens entry x m = do
  t ← meant.parse entry x m
  got (record { table = t; names = name_table x t })

abbrev pub Reads : meant.Entry → Lexed → Model → List ℕ → List ℕ → List ℤ → Answer Counts → List ℕ → List ℕ → List ℤ → Type 0
Reads entry x m = Read (read_tokens entry x m)

-- ---- scratch

-- for a text that is not too long, cleared: columns for its tokens, and links of its names
pub record Scratch (text : Bytes) (ks ps ns ls : List ℕ) (heads : ℕ) : Type 0 where
  pub columns : RoomIf text ks ps ns
  pub zero : Zero ks ps ns
  pub links : LinksIf text ls heads

-- a text of some length, that is not too long, is not longer
pub record FitsIf (n size : ℕ) : Type 0 where
  pub run : n ≤ max_text → n ≤ size

-- ---- lent slices of any length

-- all zero
pub record Cleared (w d : List ℕ) (v : List ℤ) : Type 0 where
  pub of : Lent
  pub is : lent w d v ≡ zeroed of

-- whether they are as long as the limits ask, by their lengths
abbrev pub as_long : ℕ → ℕ → ℕ → Bool
as_long words wides signeds = leb words_length words && (leb wides_length wides && leb signeds_length signeds)

-- ---- the outcome

-- the counts of an accepted text; or the number of a refusal, its offset, line and column
pub data Told : Type 0 where
  Accepted : Counts → Told
  Rejected : ℕ → ℕ → ℕ → ℕ → Told

abbrev pub told : Result Counts Rejection → Told
told (Ok c) = Accepted c
told (Err e) = Rejected (number_of e.reason) e.offset e.line e.column

-- a refusal, with the line and the column of its offset
abbrev pub rejected_at : Bytes → ℕ → ℕ → Told
rejected_at text n at = Rejected n at (place_of text at).line (place_of text at).column

-- what the caller is told, and what stands in the slices then
pub data Out : Type 0 where
  out : Told → Lent → Out

unfoldable pub shown : Lent → meant.Outcome → Out
shown l (meant.accepted a) = out (Accepted (counts_of a)) (left_in l (meant.accepted a))
shown l (meant.rejected n at line column) = out (Rejected n at line column) (left_in l (meant.rejected n at line column))

unfoldable pub answered : Lent → ℕ → meant.Entry → Bytes → Out
answered l model entry text = shown l (meant.outcome model (long_enough l) entry text)

-- in cleared slices: so it is whatever stood there before
pub record Answers (model : ℕ) (entry : meant.Entry) (text : Bytes) (w d : List ℕ) (v : List ℤ) (r : Told) (w' d' : List ℕ) (v' : List ℤ) : Type 0 where
  pub run : (l : Lent) → lent w d v ≡ zeroed l → out r (lent w' d' v') ≡ answered l model entry text
