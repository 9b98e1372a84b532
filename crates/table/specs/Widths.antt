-- Widths of bit-fields: an option in the code, and its number in a slice.
use Rattle.std.specs.Prelude.{◌≡◌, ◌<◌, List, ℕ, Option, Some, None}
use Rattle.definition.specs.Table.{Table}
use Rattle.lemmas.specs.Options.{option}
use Rattle.table.specs.Held.{InWords, member_at}

-- a width whose number fits 32 bits
abbrev pub Storable : Option ℕ → Type 0
Storable (Some bits) = bits < 4294967295
Storable None = Unit

pub record WidthIs (i : ℕ) (w : List ℕ) (r : Option ℕ) : Type 0 where
  pub of : (t : Table) → InWords t w → option r ≡ (member_at t i).width
