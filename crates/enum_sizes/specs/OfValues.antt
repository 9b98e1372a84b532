-- What is told of the values is what f says of whatever table the slice holds.
use Rattle.std.specs.Prelude.{◌≡◌, Bool, ◌&&◌, List, ℤ, pos, negsuc}
use Rattle.std.specs.Int.Signed.{le_z}
use Rattle.definition.specs.Table.{Table}
use Rattle.table.specs.Held.{InSigneds, Counts}
use Rattle.table.specs.declared.Cursor.{Cursor}

pub record OfValues {A : Type 0} (f : Table → A) (c : Cursor) (v : List ℤ) (r : A) : Type 0 where
  pub of : (t : Table) → InSigneds t v → Counts t c → r ≡ f t

-- from -2^31 to 2^32 - 1
abbrev pub fits_four : ℤ → Bool
fits_four z = le_z (negsuc 2147483647) z && le_z z (pos 4294967295)
