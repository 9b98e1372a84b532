-- What holds of the columns of every text that is cut into tokens.
use Rattle.std.specs.Prelude.{◌≡◌, true, List, ℕ, ◌≤◌, ◌<◌, ◌^◌, length, get_or}
use Rattle.definition.specs.Kind.{is_name}
use Rattle.definition.specs.Limit.{max_text, max_names}
use Rattle.definition.specs.Text.{Bytes}
use Rattle.definition.specs.Token.{Lexed}
use Rattle.definition.specs.Table.{Table}
use Rattle.definition.specs.NameTable.{held_names, names_among}

pub record Columns (ks ps ns : List ℕ) : Type 0 where
  -- as many of each
  pub places : length ps ≡ length ks
  pub numbers : length ns ≡ length ks
  -- tokens stand one after the other in the text
  pub rising : (i j : ℕ) → i < j → j < length ks → get_or ps i 0 < get_or ps j 0
  pub within : (i : ℕ) → i < length ks → get_or ps i 0 < max_text
  -- the number of a name is none of no name, and fits in 32 bits
  pub some : (i : ℕ) → is_name (get_or ks i 0) ≡ true → 0 < get_or ns i 0
  pub fit : (i : ℕ) → is_name (get_or ks i 0) ≡ true → get_or ns i 0 < 2 ^ 32
  -- "the name table has 16,384 entries, which no text can pass"
  pub few : (t : Table) → length (names_among (held_names t) ks ps ns) ≤ max_names

abbrev pub LexedColumns : Lexed → Type 0
LexedColumns x = Columns x.tokens.kinds x.places x.tokens.numbers

-- a text that is cut is not too long, and its tokens stand in it
pub record PlacedIn (text : Bytes) (x : Lexed) : Type 0 where
  pub short : length text ≤ max_text
  pub below : (i : ℕ) → i < length x.places → get_or x.places i 0 < length text
