-- Numbers that a width of w bits holds, those from -H to H - 1 with H = 2 ^ (w - 1), and those that it does not. Assumes nothing.
use mathlib.Core.Path.{◌≡◌, refl, ap}
use Prim.Native.Nat.{zero, suc, ◌-◌, ◌*◌, ◌^◌, ◌≤◌}
use native.Mathlib.Omega.{arith}
use lib.IntN.{ℤ, pos, negsuc, suc_ℤ, ◌+ℤ◌, +ℤ_one}
use lib.Signed.{mag}
use mir.Syntax.{Width, w8, w16, w32, w64, w128}
use mir.Val.{bits, hbits, SFits, of_z}
use borrow.Author.Rules.{sfits_of}

pub double : (w : Width) → 2 ^ bits w ≡ 2 * 2 ^ hbits w
double w8 = refl
double w16 = refl
double w32 = refl
double w64 = refl
double w128 = refl

-- a number that a width does not hold
pub record Past (w : Width) (z : ℤ) : Type 0 where
  pub past : 2 ^ hbits w ≤ mag z

-- the greatest number is the one that has none after it
pub more-past : {w : Width} {a : ℤ} → SFits w a → of_z w a ≡ 2 ^ hbits w - 1 → pos (2 ^ hbits w) ≡ suc_ℤ a
more-past {w} {a = pos n} f e = ap pos (omega (arith, f.sfits))
more-past {w} {a = negsuc n} f e = absurd (omega (arith, f.sfits, double w))

suc_in : {w : Width} {a : ℤ} → SFits w a → (of_z w a ≡ 2 ^ hbits w - 1 → ⊥) → SFits w (suc_ℤ a)
suc_in {w} {a = pos n} f e = sfits_of (omega (arith, f.sfits))
suc_in {w} {a = negsuc zero} f e = sfits_of (omega (arith, f.sfits))
suc_in {w} {a = negsuc (suc n)} f e = sfits_of (omega (arith, f.sfits))

pub more_in : {w : Width} {a : ℤ} → SFits w a → (of_z w a ≡ 2 ^ hbits w - 1 → ⊥) → SFits w (a +ℤ pos 1)
more_in {a = a} f e = rw (+ℤ_one a) (suc_in f e)
