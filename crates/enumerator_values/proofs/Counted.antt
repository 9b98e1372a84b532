-- One more than a value, or past the greatest. Assumes nothing.
use mathlib.Core.Path.{◌≡◌, ap, ◌∙◌}
use Prim.Native.Nat.{zero, suc, ◌<◌, ◌^◌}
use native.Mathlib.Omega.{arith}
use borrow.Author.Rules.{sfits_of}
use lib.IntN.{ℤ, pos, negsuc, ◌+ℤ◌, suc_ℤ, +ℤ_one}
use lib.Signed.{mag}
use mir.Syntax.{w64}
use mir.Facts.{to_z-of_z}
use mir.Val.{SFits, to_z, of_z}
use Rattle.std.specs.Prelude.{Option, Some, None, SomeIff}
use Rattle.definition.specs.Range.{above_range}
use Rattle.enumerator_values.specs.Pending.{pending}

last : (z : ℤ) → SFits w64 z → (mag (suc_ℤ z) < 2 ^ 63 → ⊥) → pos above_range ≡ suc_ℤ z
last (pos n) f g = ap pos (omega (arith, f.sfits))
last (negsuc zero) f g = absurd (g (omega arith))
last (negsuc (suc n)) f g = absurd (g (omega (arith, f.sfits)))

-- the machine's sum, or none
pub counted : {z : ℤ} → SFits w64 z → (o : Option ℤ) → SomeIff o (SFits w64 (to_z w64 (of_z w64 z) +ℤ pos 1)) (to_z w64 (of_z w64 z) +ℤ pos 1) → pending o ≡ suc_ℤ z
counted {z} f (Some x) p = (rw (to_z-of_z f) at p).1 ∙ +ℤ_one z
counted {z} f None n = last z f (λ p. (rw (to_z-of_z f) at n) (rw (+ℤ_one z) (sfits_of p)))
