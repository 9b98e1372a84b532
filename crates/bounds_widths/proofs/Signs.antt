-- Widths and bounds by the tests of their signs. Assumes nothing.
use mathlib.Core.Path.{◌≡◌, refl}
use mathlib.Core.Bool.{true, false}
use Prim.Native.Nat.{ℕ, ◌≤◌}
use native.Mathlib.Omega.{arith}
use borrow.Author.Tests.{ltb-true, ltb-false}
use lib.IntN.{ℤ, pos, negsuc, nat_abs}
use lib.Dec.{T}
use lib.Signed.{mag, lt_z, non_neg}
use mir.Syntax.{w64}
use mir.Facts.{to_z-of_z}
use mir.Val.{SFits, to_z, of_z}
use Rattle.std.specs.Prelude.{Result, Ok, Err, OkIff, MatchResult, IsErrAnd}
use Rattle.std.specs.Int.{FitsUnsignedBits}
use Rattle.encoding.specs.Refusals.{answer}
use Rattle.encoding.specs.declared.refusals.Refusal.{Refusal}
use Rattle.encoding.specs.declared.refusals.Reason.TheVariants.{BadBound}
use Rattle.definition.specs.Answer.{got, refused}
use Rattle.definition.specs.Refusal.{bad_width}
use Rattle.definition.specs.Declarator.{bound_of}
use Rattle.definition.specs.Composite.{width_of}
use Rattle.lemmas.proofs.Branch.{le_yes, le_no}

-- not below 0
pub size : (z : ℤ) → lt_z z (pos 0) ≡ false → T (non_neg z) × (nat_abs z ≡ mag z)
size (pos n) e = (tt, refl)
size (negsuc n) e = let x : ◌≡◌ {A = ℕ} 0 1 = cc in absurd (omega arith)

-- a conversion that keeps the value, or a refused bound
pub bounded : {E : Type 0} (z : ℤ) (at : ℕ) (o : Result ℕ E) (r : Result ℕ Refusal) → SFits w64 z → OkIff o (FitsUnsignedBits 64 (to_z w64 (of_z w64 z))) (nat_abs (to_z w64 (of_z w64 z)))
    → MatchResult o (λ x. r ≡ Ok x) (λ _. IsErrAnd r (λ d. d ≡ record { reason = BadBound; at = at })) → answer r ≡ bound_of z at
bounded (pos n) at (Ok x) r f p m = rw (m, (rw (to_z-of_z f) at p).1) refl
bounded (pos n) at (Err e) r f p m = absurd ((rw (to_z-of_z f) at p) (omega (arith, f.sfits)))
bounded (negsuc n) at (Ok x) r f p m = absurd (rw (to_z-of_z f) at p).0
bounded (negsuc n) at (Err e) (Ok x) f p m = absurd m
bounded (negsuc n) at (Err e) (Err d) f p m = rw m refl

pub small : (z : ℤ) → lt_z z (pos 0) ≡ false → lt_z (pos 64) z ≡ false → nat_abs z ≤ 64
small (pos n) e f = ltb-false 64 n f
small (negsuc n) e f = let x : ◌≡◌ {A = ℕ} 0 1 = cc in absurd (omega arith)

pub width_in_lem : (z : ℤ) (at : ℕ) → lt_z z (pos 0) ≡ false → lt_z (pos 64) z ≡ false → width_of z at ≡ got (nat_abs z)
width_in_lem (pos n) at e f = le_yes n 64 _ _ (ltb-false 64 n f)
width_in_lem (negsuc n) at e f = let x : ◌≡◌ {A = ℕ} 0 1 = cc in absurd (omega arith)

pub width-below : (z : ℤ) (at : ℕ) → lt_z z (pos 0) ≡ true → width_of z at ≡ refused bad_width at
width-below (pos n) at e = absurd (omega (arith, ltb-true n 0 e))
width-below (negsuc n) at e = refl

pub width_above : (z : ℤ) (at : ℕ) → lt_z (pos 64) z ≡ true → width_of z at ≡ refused bad_width at
width_above (pos n) at e = le_no n 64 _ _ (ltb-true 64 n e)
width_above (negsuc n) at e = refl
