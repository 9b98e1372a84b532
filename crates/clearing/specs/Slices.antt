-- The lent slices by what they hold.
use Rattle.std.specs.Prelude.{List, ℕ, ℤ}
use Rattle.definition.specs.Lent.{Lent}

abbrev pub lent : List ℕ → List ℕ → List ℤ → Lent
lent w d v = record { words = w; wides = d; signeds = v }
