-- Rounding up, to a multiple of any number. Assumes nothing.
use mathlib.Core.Path.{◌≡◌, refl, sym, ap, ◌∙◌}
use Prim.Native.Nat.{ℕ, ◌+◌, ◌-◌, ◌*◌, ◌/◌, ◌%◌, ◌≤◌, ◌<◌, min}
use native.Mathlib.Omega.{arith}
use mathlib.Core.Logic.{◌⊎◌, inl, inr}
use Rattle.std.proofs.lemmas.Bool.{cases_lt}
use native.Mathlib.Nat.{div-add-mod', mod-lt, div-eq_of_lt-le, mul-div_cancel, mul-div_cancel_left, div-div-eq-div-mul, lt-div-mul-add, mul-le-mul_right}
use Rattle.definition.specs.Layout.{round_up}

-- of the multiples of k, the one from v on and below v + k
module _ (v k : ℕ) (p : 0 < k) where
  pub round_is : (q : ℕ) → v ≤ q * k → q * k < v + k → round_up v k ≡ q * k
  unfolding round_up
  round_is q lo hi = ap (λ n. n * k) (div-eq_of_lt-le {k = q} k {m = v + (k - 1)} (omega arith) (omega arith))

  rest : (v + (k - 1)) % k < k
  rest = mod-lt (v + (k - 1)) p

  pub round-from : v ≤ round_up v k
  unfolding round_up
  round-from = omega (arith, rest, div-add-mod' (v + (k - 1)) k)

  pub round-below : round_up v k < v + k
  unfolding round_up
  round-below = omega (arith, rest, div-add-mod' (v + (k - 1)) k)

  -- a multiple is left as it is
  pub round_whole : v % k ≡ 0 → round_up v k ≡ v
  round_whole e = let h : v / k * k ≡ v = omega (arith, div-add-mod' v k) in round_is (v / k) (omega arith) (omega arith) ∙ h

  -- anything else goes on to the next
  pub round-on : (v % k ≡ 0 → ⊥) → round_up v k ≡ v + (k - v % k)
  round-on e =
      let h : (v / k + 1) * k ≡ v + (k - v % k) = omega (arith, div-add-mod' v k, mod-lt v p) in
      round_is (v / k + 1) (omega (arith, mod-lt v p)) (omega (arith, mod-lt v p)) ∙ h

-- ---- in parts of d: how many parts, rounded up to a multiple of a

module _ (v d : ℕ) (p : 0 < d) where
  -- v in whole parts
  pub parts : round_up v d / d * d ≡ round_up v d
  unfolding round_up
  parts = ap (λ n. n * d) (mul-div_cancel ((v + (d - 1)) / d) p)

  parts_whole : v % d ≡ 0 → round_up v d / d ≡ v / d
  parts_whole e = ap (λ n. n / d) (round_whole v d p e)

  parts-on : (v % d ≡ 0 → ⊥) → round_up v d / d ≡ v / d + 1
  parts-on e =
      let h : (v / d + 1) * d ≡ v + (d - v % d) = omega (arith, div-add-mod' v d, mod-lt v p) in
      ap (λ n. n / d) (round-on v d p e ∙ sym h) ∙ mul-div_cancel (v / d + 1) p

  -- as the machine counts them
  pub parts-ceil : v / d + min 1 (v % d) ≡ round_up v d / d
  parts-ceil = by (cases_lt 0 (v % d))
    where
      by : (0 < v % d) ⊎ (v % d ≤ 0) → v / d + min 1 (v % d) ≡ round_up v d / d
      by (inl q) = let f = parts-on (omega arith) in omega arith
      by (inr q) = let f = parts_whole (omega arith) in omega arith

multiple : (v k : ℕ) → round_up v k ≡ (v + (k - 1)) / k * k
unfolding round_up
multiple v k = refl

pub round-parts : (v d a : ℕ) → 0 < d → 0 < a → round_up v (d * a) ≡ d * round_up (round_up v d / d) a
round-parts v d a p q =
    let c = round_up v d / d in
    let n = (c + (a - 1)) / a in
    let e : round_up c a ≡ n * a = multiple c a in
    let f : c * d ≡ round_up v d = parts v d p in
    let lo : c * d ≤ n * a * d = mul-le-mul_right d (omega (arith, round-from c a q)) in
    let hi : (n * a + 1) * d ≤ (c + a) * d = mul-le-mul_right d (omega (arith, round-below c a q)) in
    let g : d * (n * a) ≡ n * (d * a) = omega arith in
    let y : 1 * a ≤ d * a = mul-le-mul_right a (omega arith) in
    let z : 0 < d * a = omega arith in
    round_is v (d * a) z n (omega (arith, round-from v d p)) (omega (arith, round-below v d p)) ∙ sym (ap (λ x. d * x) e ∙ g)

-- the same counted in parts
pub round_in_parts : (v d a : ℕ) → 0 < d → 0 < a → round_up v (d * a) / d ≡ round_up (round_up v d / d) a
round_in_parts v d a p q = ap (λ n. n / d) (round-parts v d a p q) ∙ mul-div_cancel_left (round_up (round_up v d / d) a) p

-- a multiple of d * a is a whole number of parts
pub whole_parts : (v d a : ℕ) → 0 < d → 0 < a → d * (round_up v (d * a) / d) ≡ round_up v (d * a)
whole_parts v d a p q = ap (λ n. d * n) (round_in_parts v d a p q) ∙ sym (round-parts v d a p q)

-- ---- the unit that v lies in: of d * a each, or of a each, counted in parts

pub unit_start : (v d a : ℕ) → v / (d * a) * (d * a) ≡ d * (v / d / a * a)
unit_start v d a =
    let e : v / (d * a) ≡ v / d / a = sym (div-div-eq-div-mul v d a) in
    let n = v / d / a in
    let f : n * (d * a) ≡ d * (n * a) = omega arith in
    ap (λ n. n * (d * a)) e ∙ f

pub unit_in_parts : (v d a : ℕ) → 0 < d → v / (d * a) * (d * a) / d ≡ v / d / a * a
unit_in_parts v d a p = ap (λ n. n / d) (unit_start v d a) ∙ mul-div_cancel_left (v / d / a * a) p

-- v lies before its unit's end
pub unit_past : (v d a : ℕ) → 0 < d → 0 < a → v < d * (v / d / a * a + a)
unit_past v d a p q =
    let y : 1 * a ≤ d * a = mul-le-mul_right a (omega arith) in
    omega (arith, unit_start v d a, lt-div-mul-add {a = v} {b = d * a} (omega arith))
