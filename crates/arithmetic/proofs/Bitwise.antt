-- Two's complement of any width: bit operations on the bits of numbers are those of the definition, which knows no width. Assumes nothing.
use mathlib.Core.Path.{◌≡◌, refl, sym, ap, ◌∙◌}
use mathlib.Core.Bool.{Bool, true, false}
use Prim.Native.Nat.{ℕ, zero, suc, ◌+◌, ◌-◌, ◌*◌, ◌/◌, ◌%◌, ◌^◌, ◌<◌, min}
use native.Mathlib.Nat.{pow-suc, mod-lt, div-add-mod', mul-sub, mul_comm, suc-mul, mul-le-mul_right, div-lt_iff_lt-mul}
use native.Mathlib.Omega.{arith}
use borrow.Author.Tests.{eq-eqb, ne_eqb, eqb-true, eqb-false, lt-ltb}
use lib.Arith.{lt-one, digits_mod}
use lib.Pow.{pow-add}
use lib.Bits.{bit_and, bit_or, bit_xor, and_step, and_comm, and_le_l, and_le_r, and_lt, or_lt, xor_lt, or_add_and, xor_add_and, or_comm, xor_comm}
use lib.IntN.{ℤ, pos, negsuc}
use lib.Signed.{mag}
use lib.Dec.{eqb}
use mir.Syntax.{Width}
use mir.Val.{SFits, bits, hbits, of_z, to_z}
use Rattle.arithmetic.proofs.Half.{double}
use Rattle.definition.specs.Arithmetic.{without, and_z, or_z, xor_z, complement, eq_z, is_zero, modulo}

-- ---- a number's bits turned over, among k of them: 2 ^ k - suc b

digit : (x y : ℕ) → x < 2 → y < 2 → min x (1 - y) + min x y ≡ x
digit zero zero p q = refl
digit zero (suc zero) p q = refl
digit (suc zero) zero p q = refl
digit (suc zero) (suc zero) p q = refl
digit zero (suc (suc y)) p q = absurd (omega arith)
digit (suc zero) (suc (suc y)) p q = absurd (omega arith)
digit (suc (suc x)) y p q = absurd (omega arith)

over-half : (P b : ℕ) → b < P * 2 → ((P * 2 - suc b) / 2 ≡ P - suc (b / 2)) × ((P * 2 - suc b) % 2 ≡ 1 - b % 2)
over-half P b p = (omega arith, omega arith)

and_over : (k a b : ℕ) → a < 2 ^ k → b < 2 ^ k → bit_and a (2 ^ k - suc b) + bit_and a b ≡ a
and_over zero a b p q = rw (lt-one p)
and_over (suc k) a b p q =
    let h = over-half (2 ^ k) b (rw (pow-suc 2 k) at q) in
    let i = and_over k (a / 2) (b / 2) (omega (arith, rw (pow-suc 2 k) at p)) (omega (arith, rw (pow-suc 2 k) at q)) in
    let d = digit (a % 2) (b % 2) (mod-lt a (omega arith)) (mod-lt b (omega arith)) in
    rw (pow-suc 2 k, and_step a (2 ^ k * 2 - suc b), and_step a b, h.0, h.1) (omega (arith, div-add-mod' a 2))

module _ (k a b : ℕ) (p : a < 2 ^ k) (q : b < 2 ^ k) where
  and_pn : bit_and a (2 ^ k - suc b) ≡ a - bit_and a b
  and_pn = omega (arith, and_over k a b p q)

  and_nn : bit_and (2 ^ k - suc a) (2 ^ k - suc b) ≡ 2 ^ k - suc (bit_or a b)
  and_nn =
      let e = and_over k (2 ^ k - suc a) b (omega arith) q in
      let f = and_over k b a q p in
      let o = or_add_and a b in
      let c = and_comm (2 ^ k - suc a) b in
      omega (arith, and_comm a b, or_lt k a b p q)

  or_pn : bit_or a (2 ^ k - suc b) ≡ 2 ^ k - suc (b - bit_and b a)
  or_pn = omega (arith, or_add_and a (2 ^ k - suc b), and_pn, and_comm a b, and_le_l a b, and_le_r a b)

  or_nn : bit_or (2 ^ k - suc a) (2 ^ k - suc b) ≡ 2 ^ k - suc (bit_and a b)
  or_nn = omega (arith, or_add_and (2 ^ k - suc a) (2 ^ k - suc b), and_nn, or_add_and a b, or_lt k a b p q, and_le_l a b)

  xor_pn : bit_xor a (2 ^ k - suc b) ≡ 2 ^ k - suc (bit_xor a b)
  xor_pn = omega (arith, xor_add_and a (2 ^ k - suc b), and_pn, xor_add_and a b, xor_lt k a b p q, and_le_l a b)

  xor_nn : bit_xor (2 ^ k - suc a) (2 ^ k - suc b) ≡ bit_xor a b
  xor_nn = omega (arith, xor_add_and (2 ^ k - suc a) (2 ^ k - suc b), and_nn, or_add_and a b, xor_add_and a b, or_lt k a b p q)

module _ (k a b : ℕ) (p : a < 2 ^ k) (q : b < 2 ^ k) where
  and_np : bit_and (2 ^ k - suc a) b ≡ b - bit_and b a
  and_np = and_comm (2 ^ k - suc a) b ∙ and_pn k b a q p

  or_np : bit_or (2 ^ k - suc a) b ≡ 2 ^ k - suc (a - bit_and a b)
  or_np = or_comm (2 ^ k - suc a) b ∙ or_pn k b a q p

  xor_np : bit_xor (2 ^ k - suc a) b ≡ 2 ^ k - suc (bit_xor a b)
  xor_np = xor_comm (2 ^ k - suc a) b ∙ xor_pn k b a q p ∙ ap (λ n. 2 ^ k - suc n) (xor_comm b a)

-- ---- the bits of what the definition gives, at any width

module _ (w : Width) where
  pub and_bits : (a b : ℤ) → mag a < 2 ^ bits w → mag b < 2 ^ bits w → bit_and (of_z w a) (of_z w b) ≡ of_z w (and_z a b)
  unfolding and_z without
  and_bits (pos a) (pos b) p q = refl
  and_bits (pos a) (negsuc b) p q = and_pn (bits w) a b p q
  and_bits (negsuc a) (pos b) p q = and_np (bits w) a b p q
  and_bits (negsuc a) (negsuc b) p q = and_nn (bits w) a b p q

  pub or_bits : (a b : ℤ) → mag a < 2 ^ bits w → mag b < 2 ^ bits w → bit_or (of_z w a) (of_z w b) ≡ of_z w (or_z a b)
  unfolding or_z without
  or_bits (pos a) (pos b) p q = refl
  or_bits (pos a) (negsuc b) p q = or_pn (bits w) a b p q
  or_bits (negsuc a) (pos b) p q = or_np (bits w) a b p q
  or_bits (negsuc a) (negsuc b) p q = or_nn (bits w) a b p q

  pub xor_bits : (a b : ℤ) → mag a < 2 ^ bits w → mag b < 2 ^ bits w → bit_xor (of_z w a) (of_z w b) ≡ of_z w (xor_z a b)
  unfolding xor_z
  xor_bits (pos a) (pos b) p q = refl
  xor_bits (pos a) (negsuc b) p q = xor_pn (bits w) a b p q
  xor_bits (negsuc a) (pos b) p q = xor_np (bits w) a b p q
  xor_bits (negsuc a) (negsuc b) p q = xor_nn (bits w) a b p q

  pub not_bits : (a : ℤ) → mag a < 2 ^ bits w → 2 ^ bits w - 1 - of_z w a ≡ of_z w (complement a)
  unfolding complement
  not_bits (pos a) p = omega arith
  not_bits (negsuc a) p = omega arith

-- ---- they stay in the range, whatever its power of two

module _ (k : ℕ) where
  pub and_in : (a b : ℤ) → mag a < 2 ^ k → mag b < 2 ^ k → mag (and_z a b) < 2 ^ k
  unfolding and_z without
  and_in (pos a) (pos b) p q = and_lt k a b p q
  and_in (pos a) (negsuc b) p q = omega arith
  and_in (negsuc a) (pos b) p q = omega arith
  and_in (negsuc a) (negsuc b) p q = or_lt k a b p q

  pub or_in : (a b : ℤ) → mag a < 2 ^ k → mag b < 2 ^ k → mag (or_z a b) < 2 ^ k
  unfolding or_z without
  or_in (pos a) (pos b) p q = or_lt k a b p q
  or_in (pos a) (negsuc b) p q = omega arith
  or_in (negsuc a) (pos b) p q = omega arith
  or_in (negsuc a) (negsuc b) p q = and_lt k a b p q

  pub xor_in : (a b : ℤ) → mag a < 2 ^ k → mag b < 2 ^ k → mag (xor_z a b) < 2 ^ k
  unfolding xor_z
  xor_in (pos a) (pos b) p q = xor_lt k a b p q
  xor_in (pos a) (negsuc b) p q = xor_lt k a b p q
  xor_in (negsuc a) (pos b) p q = xor_lt k a b p q
  xor_in (negsuc a) (negsuc b) p q = xor_lt k a b p q

  pub not_in : (a : ℤ) → mag a < 2 ^ k → mag (complement a) < 2 ^ k
  unfolding complement
  not_in (pos a) p = p
  not_in (negsuc a) p = p

-- ---- equality is equality of bits

module _ (w : Width) where
  pub narrow : (z : ℤ) → mag z < 2 ^ hbits w → mag z < 2 ^ bits w
  narrow z p = omega (arith, double w)

  over_eq : (a b : ℕ) → a < 2 ^ hbits w → b < 2 ^ hbits w → eqb (2 ^ bits w - suc a) (2 ^ bits w - suc b) ≡ eqb a b
  over_eq a b p q = by (eqb a b) refl
    where
      by : (t : Bool) → eqb a b ≡ t → eqb (2 ^ bits w - suc a) (2 ^ bits w - suc b) ≡ eqb a b
      by true e = eq-eqb (2 ^ bits w - suc a) (2 ^ bits w - suc b) (rw (eqb-true a b e)) ∙ sym e
      by false e = ne_eqb (2 ^ bits w - suc a) (2 ^ bits w - suc b) (λ f. eqb-false a b e (omega (arith, double w))) ∙ sym e

  pub same_bits : (a b : ℤ) → mag a < 2 ^ hbits w → mag b < 2 ^ hbits w → eqb (of_z w a) (of_z w b) ≡ eq_z a b
  unfolding eq_z
  same_bits (pos a) (pos b) p q = refl
  same_bits (pos a) (negsuc b) p q = ne_eqb a (2 ^ bits w - suc b) (λ f. omega (arith, double w))
  same_bits (negsuc a) (pos b) p q = ne_eqb (2 ^ bits w - suc a) b (λ f. omega (arith, double w))
  same_bits (negsuc a) (negsuc b) p q = over_eq a b p q

  pub zero_bits : (a : ℤ) → mag a < 2 ^ hbits w → eqb (of_z w a) 0 ≡ is_zero a
  unfolding is_zero
  zero_bits (pos a) p = refl
  zero_bits (negsuc a) p = ne_eqb (2 ^ bits w - suc a) 0 (λ f. omega (arith, double w))

module _ {w : Width} {a : ℤ} (f : SFits w a) where
  pub is-zero : of_z w a ≡ 0 → is_zero a ≡ true
  is-zero e = sym (zero_bits w a f.sfits) ∙ eq-eqb (of_z w a) 0 e

  pub not_zero : (of_z w a ≡ 0 → ⊥) → is_zero a ≡ false
  not_zero e = sym (zero_bits w a f.sfits) ∙ ne_eqb (of_z w a) 0 e

pub the_zero : {w : Width} {a : ℤ} → SFits w a → of_z w a ≡ 0 → a ≡ pos 0
the_zero {a = pos n} f e = ap pos e
the_zero {w} {a = negsuc n} f e = absurd (omega (arith, f.sfits, double w))

pub minus_one : {w : Width} {a : ℤ} → SFits w a → of_z w a ≡ 2 ^ bits w - 1 → a ≡ negsuc 0
minus_one {w} {a = pos n} f e = absurd (omega (arith, f.sfits, double w))
minus_one {w} {a = negsuc n} f e = ap negsuc (omega (arith, f.sfits, double w))

-- bits below the half are their number
pub plain : (w : Width) (n : ℕ) → n < 2 ^ hbits w → to_z w n ≡ pos n
plain w n p = rw (lt-ltb n (2 ^ hbits w) p)

-- ---- the low bits are what is left modulo a power of two

over_mod : (c m n : ℕ) → n < c * m → (c * m - suc n) % m ≡ m - 1 - n % m
over_mod c zero n p = absurd (omega (arith, mul_comm c 0))
over_mod c (suc m) n p =
    let d = div-add-mod' n (suc m) in
    let l = mod-lt n {m = suc m} (omega arith) in
    let q : n / suc m < c = (div-lt_iff_lt-mul {k = suc m} {x = n} {y = c} (omega arith)).1 p in
    let e : (c - suc (n / suc m)) * suc m ≡ c * suc m - suc (n / suc m) * suc m = mul_comm (c - suc (n / suc m)) (suc m) ∙ mul-sub (suc m) c (suc (n / suc m)) ∙ rw (mul_comm (suc m) c, mul_comm (suc m) (suc (n / suc m))) in
    let s = mul-le-mul_right {m = suc (n / suc m)} {n = c} (suc m) q in
    let t = suc-mul (n / suc m) (suc m) in
    let z : c * suc m - suc n ≡ (c - suc (n / suc m)) * suc m + (suc m - 1 - n % suc m) = omega arith in
    rw z (digits_mod (c - suc (n / suc m)) {m = suc m} {r = suc m - 1 - n % suc m} (omega arith))

pub low_bits : (w : Width) (j k : ℕ) → j + k ≡ bits w → (b : ℤ) → mag b < 2 ^ bits w → of_z w b % 2 ^ k ≡ modulo b (2 ^ k)
unfolding modulo
low_bits w j k e (pos n) p = refl
low_bits w j k e (negsuc n) p = rw (← e, pow-add 2 j k) (over_mod (2 ^ j) (2 ^ k) n (rw (← e, pow-add 2 j k) at p))
