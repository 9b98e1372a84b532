-- A width read from its number. Assumes nothing.
use mathlib.Core.Path.{◌≡◌, refl, ap}
use mathlib.Core.Option as maybe
use Prim.Native.Nat.{ℕ, ◌-◌, ◌≤◌}
use native.Mathlib.Omega.{arith}
use Rattle.std.specs.Prelude.{Option, Some, None, SomeIff}
use Rattle.definition.specs.Types.{width_number}
use Rattle.lemmas.specs.Options.{option}

pub width-read : {k : ℕ} (o : Option ℕ) (x : maybe.Option ℕ) → k ≡ width_number x → SomeIff o (1 ≤ k) (k - 1) → option o ≡ x
width-read None maybe.none e n = refl
width-read None (maybe.some b) e n = absurd (n (omega arith))
width-read (Some n) maybe.none e p = absurd (omega (arith, p.0))
width-read (Some n) (maybe.some b) e p = ap maybe.some (omega (arith, p.1))
