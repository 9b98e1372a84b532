-- What it means that the lent slices and a cursor hold a table. While the text is read an index of names stands in the names' part of the 32-bit slice:
-- the names themselves are written at the end.
use Rattle.std.specs.Prelude.{◌≡◌, List, [], ◌∷◌, ◌++◌, Bool, true, false, ℕ, ◌+◌, ◌-◌, ◌*◌, ◌/◌, ◌%◌, ◌≤◌, ◌<◌, eqb, ℤ, pos, length, get_or}
use Rattle.std.proofs.Math.Option.{none}
use Rattle.definition.specs.Limit.{max_rows, max_members, max_values, max_parameters, max_declarations, max_names}
use Rattle.definition.specs.Row.{Row, void, kind_of, row_name}
use Rattle.definition.specs.RowKind.{typedef_kind}
use Rattle.definition.specs.Table.{Table, Member, Value, Parameter, Declaration, noStorage, State}
use Rattle.definition.specs.Lent.{table_words, wides, signeds}
use Rattle.definition.specs.Region.{words_length, wides_length, signeds_length}
use Rattle.table.specs.declared.Cursor.{Cursor}

-- the 32-bit numbers: the table's, and whatever stands in the names' part
unfoldable pub reading_words : Table → List ℕ → List ℕ
reading_words t rest = table_words t ++ rest

-- an entry past the last one, and a read of it, is all zero
abbrev pub no_member : Member
no_member = record { row = 0; type = 0; name = 0; width = none; offset = 0; first_bit = 0 }

abbrev pub no_value : Value
no_value = record { row = 0; name = 0; value = pos 0 }

abbrev pub no_parameter : Parameter
no_parameter = record { row = 0; type = 0; name = 0 }

abbrev pub no_declaration : Declaration
no_declaration = record { storage = noStorage; type = 0; name = 0 }

abbrev pub member_at : Table → ℕ → Member
member_at t i = get_or t.members i no_member

abbrev pub value_at : Table → ℕ → Value
value_at t i = get_or t.values i no_value

abbrev pub parameter_at : Table → ℕ → Parameter
parameter_at t i = get_or t.parameters i no_parameter

abbrev pub declaration_at : Table → ℕ → Declaration
declaration_at t i = get_or t.declarations i no_declaration

-- the definition's state: the cursor's place, and the table
abbrev pub state : Cursor → Table → State
state c t = record { at = c.at; table = t }

-- the same table, read from another token on
abbrev pub moved_to : Cursor → ℕ → Cursor
moved_to c i = record { at = i; rows = c.rows; members = c.members; values = c.values; parameters = c.parameters; declarations = c.declarations }

-- a table that keeps the limits
pub record Fits (t : Table) : Type 0 where
  pub rows : length t.rows ≤ max_rows
  pub members : length t.members ≤ max_members
  pub values : length t.values ≤ max_values
  pub parameters : length t.parameters ≤ max_parameters
  pub declarations : length t.declarations ≤ max_declarations

-- the cursor's counts are the table's
pub record Counts (t : Table) (c : Cursor) : Type 0 where
  pub rows : c.rows ≡ length t.rows
  pub members : c.members ≡ length t.members
  pub values : c.values ≡ length t.values
  pub parameters : c.parameters ≡ length t.parameters
  pub declarations : c.declarations ≡ length t.declarations

-- each slice holds its numbers of the table
pub record InWords (t : Table) (w : List ℕ) : Type 0 where
  pub fits : Fits t
  pub rest : List ℕ
  pub long : length rest ≡ 2 * max_names
  pub are : w ≡ reading_words t rest

pub record InWides (t : Table) (d : List ℕ) : Type 0 where
  pub fits : Fits t
  pub are : d ≡ wides t

pub record InSigneds (t : Table) (v : List ℤ) : Type 0 where
  pub fits : Fits t
  pub are : v ≡ signeds t

-- The index: two numbers for a name, at twice the half of its offset. Names of a text stand at least two bytes apart, so no two share them there but in the
-- last six bytes of the longest text; for the laws it does not matter.
abbrev pub indexed : ℕ
indexed = max_names - 3

unfoldable pub half_of : ℕ → ℕ
half_of name = name / 2 % max_names % indexed

abbrev pub value_slot : ℕ → ℕ
value_slot name = 2 * half_of name

abbrev pub row_slot : ℕ → ℕ
row_slot name = 2 * half_of name + 1

-- A number at a row's slot is two bounds: one for the rows of type names and, in units of this, one for all others. A tag and a type name are often one word.
abbrev pub tag_bound : ℕ
tag_bound = 65536

unfoldable pub bound_of : Bool → ℕ → ℕ
bound_of true noted = noted % tag_bound
bound_of false noted = noted / tag_bound

abbrev pub bound_for : ℕ → ℕ → ℕ
bound_for kind noted = bound_of (eqb kind typedef_kind) noted

-- A row's bound is from 1 on: no row of its sort before it has the name. Every value of a name has a number below the one at its slot.
-- So both are bounds for a search, and 0 says that there is none. A bound that is too wide costs time and breaks nothing.
pub record Bounded (kind name i noted : ℕ) : Type 0 where
  pub some : 0 < name → 0 < bound_for kind noted
  pub first : 0 < name → bound_for kind noted ≤ i + 1

abbrev pub BoundedAt : Row → ℕ → List ℕ → Type 0
BoundedAt x i rest = Bounded (kind_of x) (row_name x) i (get_or rest (row_slot (row_name x)) 0)

pub record Indexed (rs : List Row) (vs : List Value) (rest : List ℕ) : Type 0 where
  pub rows : (i : ℕ) → i < length rs → BoundedAt (get_or rs i void) i rest
  pub values : (i : ℕ) → i < length vs → i < get_or rest (value_slot (get_or vs i no_value).name) 0

-- After the index stand the marks: the number of the last row, member, value, parameter and declaration that was pushed, and one from which on the index
-- is blank. They say what has to be cleared where the text is refused, and no cursor is left that has the counts.
abbrev pub marks_at : ℕ
marks_at = 2 * indexed

abbrev pub last_row_at : ℕ
last_row_at = marks_at

abbrev pub last_member_at : ℕ
last_member_at = marks_at + 1

abbrev pub last_value_at : ℕ
last_value_at = marks_at + 2

abbrev pub last_parameter_at : ℕ
last_parameter_at = marks_at + 3

abbrev pub last_declaration_at : ℕ
last_declaration_at = marks_at + 4

abbrev pub top_at : ℕ
top_at = marks_at + 5

abbrev pub counts_of : Cursor → List ℕ
counts_of c = c.rows ∷ c.members ∷ c.values ∷ c.parameters ∷ c.declarations ∷ []

pub record Marked (counts rest : List ℕ) : Type 0 where
  pub last : (k : ℕ) → get_or counts k 0 ≤ get_or rest (marks_at + k) 0 + 1
  pub blank : (j : ℕ) → get_or rest top_at 0 ≤ j → j < marks_at → get_or rest j 0 ≡ 0

-- The slices and the cursor are those of a table. Of its log they say nothing.
pub record Encodes (t : Table) (c : Cursor) (w d : List ℕ) (v : List ℤ) : Type 0 where
  pub counts : Counts t c
  pub words : InWords t w
  pub index : Indexed t.rows t.values words.rest
  pub marks : Marked (counts_of c) words.rest
  pub wides : InWides t d
  pub signeds : InSigneds t v

-- The same of a table that is only looked at: whatever stands in the names' part.
pub record Stands (t : Table) (c : Cursor) (w d : List ℕ) (v : List ℤ) : Type 0 where
  pub counts : Counts t c
  pub words : InWords t w
  pub wides : InWides t d
  pub signeds : InSigneds t v

-- as long as the limits ask
pub record Long (w d : List ℕ) (v : List ℤ) : Type 0 where
  pub words : length w ≡ words_length
  pub wides : length d ≡ wides_length
  pub signeds : length v ≡ signeds_length

-- counts within the limits
pub record Room (c : Cursor) : Type 0 where
  pub rows : c.rows ≤ max_rows
  pub members : c.members ≤ max_members
  pub values : c.values ≤ max_values
  pub parameters : c.parameters ≤ max_parameters
  pub declarations : c.declarations ≤ max_declarations

-- Of some table; the lengths and the bounds follow, and are named for the tests of indices.
pub record Held (c : Cursor) (w d : List ℕ) (v : List ℤ) : Type 0 where
  pub table : Table
  pub encodes : Encodes table c w d v
  pub long : Long w d v
  pub room : Room c

-- Of some table, at some cursor: what is left where a text is refused.
pub record Left (w d : List ℕ) (v : List ℤ) : Type 0 where
  pub cursor : Cursor
  pub table : Table
  pub encodes : Encodes table cursor w d v
