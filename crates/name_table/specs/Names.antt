-- What is written: the names of the table that the slice holds.
use Rattle.std.specs.Prelude.{◌≡◌, Bool, ◌&&◌, List, ℕ, ◌*◌, eqb, length, get_or, replicate}
use Rattle.definition.specs.Limit.{max_names}
use Rattle.definition.specs.Kind.{is_name}
use Rattle.definition.specs.Name.{offset_of}
use Rattle.definition.specs.Token.{Lexed}
use Rattle.definition.specs.Table.{Table}
use Rattle.definition.specs.NameTable.{name_table}
use Rattle.definition.specs.Lent.{words}
use Rattle.definition.specs.Region.{words_length}
use Rattle.table.specs.Held.{reading_words, counts_of, Fits, Counts, InWords, Marked, Room}
use Rattle.table.specs.declared.Cursor.{Cursor}

-- a token is a name at the first place of its spelling
abbrev pub is_first : List ℕ → List ℕ → List ℕ → ℕ → Bool
is_first ks ps ns i = is_name (get_or ks i 0) && eqb (offset_of (get_or ns i 0)) (get_or ps i 0)

-- the slice holds a table, and no index any more: the names' part is zero
pub record Plain (t : Table) (w : List ℕ) : Type 0 where
  pub fits : Fits t
  pub are : w ≡ reading_words t (replicate (2 * max_names) 0)

-- the slice and the counts are those of a table, and the marks say how far the index goes
pub record HeldWords (c : Cursor) (w : List ℕ) : Type 0 where
  pub table : Table
  pub counts : Counts table c
  pub words : InWords table w
  pub marks : Marked (counts_of c) words.rest
  pub long : length w ≡ words_length
  pub room : Room c

pub record ColumnsOf (x : Lexed) (ks ps ns : List ℕ) : Type 0 where
  pub kinds : ks ≡ x.tokens.kinds
  pub places : ps ≡ x.places
  pub numbers : ns ≡ x.tokens.numbers

-- the slice holds a table with its names
pub record NamesIn (x : Lexed) (t : Table) (r : ℕ) (w : List ℕ) : Type 0 where
  pub are : w ≡ words (record { table = t; names = name_table x t })
  pub count : r ≡ length (name_table x t)

-- of whatever table the slice held, and whatever text has these columns
pub record Writes (ks ps ns : List ℕ) (c : Cursor) (w : List ℕ) (r : ℕ) (w' : List ℕ) : Type 0 where
  pub run : (x : Lexed) (t : Table) → ColumnsOf x ks ps ns → Counts t c → (h : InWords t w) → Marked (counts_of c) h.rest → NamesIn x t r w'
