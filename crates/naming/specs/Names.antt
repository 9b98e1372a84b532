-- "The name table has 16,384 entries, which no text can pass": the number of a name fits in a column of 32 bits.
use Rattle.std.specs.Prelude.{◌≡◌, true, List, ℕ, ◌<◌, ◌^◌, get_or}
use Rattle.definition.specs.Kind.{is_name}

pub record NamesFit (kinds numbers : List ℕ) : Type 0 where
  pub fit : (at : ℕ) → is_name (get_or kinds at 0) ≡ true → get_or numbers at 0 < 2 ^ 32
