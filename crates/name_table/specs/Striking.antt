-- How the code finds the names that are held: they are listed at their first place, and struck out where an entry holds them.
use Rattle.std.specs.Prelude.{◌≡◌, Bool, true, false, ◌&&◌, ◌||◌, List, [], ◌∷◌, ◌++◌, ℕ, zero, suc, ◌+◌, ◌*◌, ◌<◌, eqb, length, get_or}
use Rattle.definition.specs.Name.{offset_of}
use Rattle.definition.specs.Token.{Lexed}
use Rattle.definition.specs.Table.{Table}
use Rattle.definition.specs.NameTable.{held_names, is_held, names_among}
use Rattle.definition.specs.Lent.{words}
use Rattle.definition.specs.Region.{words_length}
use Rattle.table.specs.Held.{Counts, InWords, Room}
use Rattle.table.specs.declared.Cursor.{Cursor}
use Rattle.definition_laws.specs.Columns.{Columns}
use Rattle.name_table.specs.Names.{is_first, Plain, ColumnsOf, NamesIn}

-- the first so many of a column: every number from a place on, in steps of a width
unfoldable pub column : List ℕ → ℕ → ℕ → ℕ → List ℕ
column w start width zero = []
column w start width (suc i) = column w start width i ++ get_or w (start + width * i) 0 ∷ []

-- a list of n numbers has one for every place
pub record PlacesBelow (ps : List ℕ) (n : ℕ) : Type 0 where
  pub at : (i : ℕ) → i < length ps → get_or ps i 0 < n

-- every name at its first place is listed there, by the index of its token and 1
pub record Listed (ks ps ns m : List ℕ) : Type 0 where
  pub at : (i : ℕ) → i < length ks → is_first ks ps ns i ≡ true → get_or m (get_or ps i 0) 0 ≡ i + 1

-- where a name is listed
abbrev pub slot : ℕ → ℕ
slot n = offset_of n

-- what stands there, or 0 where it was struck out
abbrev pub left : Bool → ℕ → ℕ
left b n = elim b [ true ↦ 0 | false ↦ n ]

-- of a text with the numbers ns, the names hs were struck out, and no others
pub record Struck (ns hs m m' : List ℕ) : Type 0 where
  pub at : (j : ℕ) → j < length ns → (b : Bool) → get_or m (slot (get_or ns j 0)) 0 ≡ left b (j + 1) → get_or m' (slot (get_or ns j 0)) 0 ≡ left (b || is_held (get_or ns j 0) hs) (j + 1)

pub record Strikes (w : List ℕ) (c : Cursor) (ns m m' : List ℕ) : Type 0 where
  pub run : (t : Table) → Counts t c → InWords t w → Struck ns (held_names t) m m'

-- a token is a name at its first place, and was struck out
abbrev pub is_found : List ℕ → List ℕ → List ℕ → List ℕ → ℕ → Bool
is_found ks ps ns m i = is_first ks ps ns i && eqb (get_or m (get_or ps i 0) 0) 0

-- a name at its first place was struck out where it is held
pub record Found (ks ps ns m held : List ℕ) : Type 0 where
  pub at : (i : ℕ) → i < length ks → is_first ks ps ns i ≡ true → eqb (get_or m (get_or ps i 0) 0) 0 ≡ is_held (get_or ns i 0) held

pub record Ready (ks ps ns m w : List ℕ) : Type 0 where
  pub columns : Columns ks ps ns
  pub below : PlacesBelow ps (length m)
  pub table : Table
  pub words : Plain table w
  pub found : Found ks ps ns m (held_names table)

pub record Filled (ks ps ns : List ℕ) (t : Table) (r : ℕ) (w : List ℕ) : Type 0 where
  pub are : w ≡ words (record { table = t; names = names_among (held_names t) ks ps ns })
  pub count : r ≡ length (names_among (held_names t) ks ps ns)

pub record Fills (ks ps ns m w : List ℕ) (r : ℕ) (w' : List ℕ) : Type 0 where
  pub run : (t : Table) → Plain t w → Found ks ps ns m (held_names t) → Filled ks ps ns t r w'

-- HeldWords and Writes, once the index is cleared
pub record PlainWords (c : Cursor) (w : List ℕ) : Type 0 where
  pub table : Table
  pub counts : Counts table c
  pub words : Plain table w
  pub long : length w ≡ words_length
  pub room : Room c

pub record WritesPlain (ks ps ns : List ℕ) (c : Cursor) (w : List ℕ) (r : ℕ) (w' : List ℕ) : Type 0 where
  pub run : (x : Lexed) (t : Table) → ColumnsOf x ks ps ns → Counts t c → Plain t w → NamesIn x t r w'
