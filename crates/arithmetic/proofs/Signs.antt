-- Products by 0 and shifts, in a range from -H to H - 1. Assumes nothing.
use mathlib.Core.Path.{◌≡◌, refl, sym, ap, ◌∙◌}
use mathlib.Core.Logic.{◌⊎◌, inl, inr}
use Rattle.std.proofs.lemmas.Bool.{cases_lt}
use Rattle.std.proofs.lemmas.Nat.{pow_pos}
use Prim.Native.Nat.{ℕ, zero, suc, ◌*◌, ◌^◌, ◌≤◌, ◌<◌, min}
use native.Mathlib.Nat.{zero-mul, div-eq_of_lt, mul-le-mul, lt_of_lt_of_le, le_of_lt, le_refl, min-eq_left, min-eq_right, pow-le-pow_right, pow-suc}
use native.Mathlib.Omega.{arith}
use lib.IntN.{ℤ, pos, negsuc, neg_ℤ, nat_abs, ◌*ℤ◌}
use lib.Signed.{mag, shr_z}

-- ---- sizes

size_neg : (n : ℕ) → nat_abs (neg_ℤ (pos n)) ≡ n
size_neg zero = refl
size_neg (suc n) = refl

large : {H : ℕ} (z : ℤ) → H < nat_abs z → H ≤ mag z
large (pos n) p = omega arith
large (negsuc n) p = omega arith

-- ---- products

pub product-zero : (a b : ℤ) → nat_abs a ≡ 0 → a *ℤ b ≡ pos 0
product-zero (pos a) (pos b) e = ap pos (rw (e, zero-mul b))
product-zero (pos a) (negsuc b) e = rw (e, zero-mul (suc b))
product-zero (negsuc a) b e = absurd (omega arith)

-- ---- shifts

-- a shift by all places of the range, or more, leaves the sign
shift_all : (k j : ℕ) (a : ℤ) → mag a < 2 ^ k → k ≤ j → shr_z a (2 ^ k) ≡ shr_z a (2 ^ j)
shift_all k j (pos a) p q = let h = pow-le-pow_right {n = 2} (omega arith) {i = k} {j = j} q in ap pos (div-eq_of_lt p ∙ sym (div-eq_of_lt (lt_of_lt_of_le p h)))
shift_all k j (negsuc a) p q = let h = pow-le-pow_right {n = 2} (omega arith) {i = k} {j = j} q in ap negsuc (div-eq_of_lt p ∙ sym (div-eq_of_lt (lt_of_lt_of_le p h)))

pub shift_capped : (k : ℕ) (a : ℤ) (j : ℕ) → mag a < 2 ^ k → shr_z a (2 ^ min j k) ≡ shr_z a (2 ^ j)
shift_capped k a j p = by (cases_lt j k)
  where
    by : (j < k) ⊎ (k ≤ j) → shr_z a (2 ^ min j k) ≡ shr_z a (2 ^ j)
    by (inl q) = rw (min-eq_left (le_of_lt q))
    by (inr q) = rw (min-eq_right q) (shift_all k j a p q)

-- a number that is not 0, by a power that passes the range
shift_out : {H m : ℕ} (a : ℤ) → (a ≡ pos 0 → ⊥) → 2 * H ≤ m → 0 < H → H ≤ mag (a *ℤ pos m)
shift_out {H} {m} (pos zero) e p q = absurd (e refl)
shift_out {H} {m} (pos (suc a)) e p q = omega (arith, mul-le-mul {n₁ = 1} {m₁ = m} {n₂ = suc a} {m₂ = m} (omega arith) (le_refl m))
shift_out {H} {m} (negsuc a) e p q = large (negsuc a *ℤ pos m) (rw (size_neg (suc a * m)) (omega (arith, mul-le-mul {n₁ = 1} {m₁ = m} {n₂ = suc a} {m₂ = m} (omega arith) (le_refl m))))

-- by the range itself: only 0 and -1 stay in it
shift_end : {H : ℕ} (a : ℤ) → (a ≡ pos 0 → ⊥) → (a ≡ negsuc 0 → ⊥) → 0 < H → H ≤ mag (a *ℤ pos H)
shift_end {H} (pos zero) e f q = absurd (e refl)
shift_end {H} (pos (suc a)) e f q = omega (arith, mul-le-mul {n₁ = 1} {m₁ = H} {n₂ = suc a} {m₂ = H} (omega arith) (le_refl H))
shift_end {H} (negsuc zero) e f q = absurd (f refl)
shift_end {H} (negsuc (suc a)) e f q =
    large (negsuc (suc a) *ℤ pos H) (rw (size_neg (suc (suc a) * H)) (omega (arith, mul-le-mul {n₁ = 2} {m₁ = H} {n₂ = suc (suc a)} {m₂ = H} (omega arith) (le_refl H))))

-- a shift by the range's places or more keeps in it only 0 and, by just as many, -1
pub shift_past : (k j : ℕ) (a : ℤ) → (a ≡ pos 0 → ⊥) → (a ≡ negsuc 0 → j ≡ k → ⊥) → k ≤ j → 2 ^ k ≤ mag (a *ℤ pos (2 ^ j))
shift_past k j a z m q = by (cases_lt k j)
  where
    by : (k < j) ⊎ (j ≤ k) → 2 ^ k ≤ mag (a *ℤ pos (2 ^ j))
    by (inl p) = shift_out {H = 2 ^ k} {m = 2 ^ j} a z (omega (arith, pow-suc 2 k, pow-le-pow_right {n = 2} (omega arith) {i = suc k} {j = j} p)) (pow_pos k)
    by (inr p) = let e : j ≡ k = omega arith in rw e (shift_end {H = 2 ^ k} a z (λ n. m n e) (pow_pos k))
