-- The digits of a number: those before the last one, and the last one. Assumes nothing.
use mathlib.Core.Path.{◌≡◌, refl, ap, ◌∙◌}
use mathlib.Core.Bool.{Bool, true, false}
use mathlib.Core.List.{[], ◌∷◌, ◌++◌}
use Prim.Native.Nat.{ℕ, zero, suc, ◌/◌, ◌%◌, ◌≤◌, ◌<◌}
use native.Mathlib.Omega.{arith}
use lib.Dec.{ltb}
use lib.IntN.{ℤ, pos, negsuc, nat_abs}
use lib.Signed.{lt_z}
use borrow.Author.Tests.{lt-ltb, le-ltb, ltb-true}
use Rattle.definition.specs.Text.{Bytes, bytes}
use Rattle.definition.specs.Listing.{digit_byte, digits_before, decimal, signed_decimal}
use Rattle.definition_laws.proofs.Counted.{digits_agree}

under_ten : (f n : ℕ) (ds : Bytes) → n < 10 → n ≤ f → digits_before f n ds ≡ digit_byte n ∷ ds
unfolding digits_before
under_ten zero n ds h k = let e : n ≡ 0 = omega arith in rw e
under_ten (suc f) n ds h k = rw (lt-ltb n 10 h, digits_before)

over_ten : (f n : ℕ) (ds : Bytes) → 10 ≤ n → digits_before (suc f) n ds ≡ digits_before f (n / 10) (digit_byte (n % 10) ∷ ds)
unfolding digits_before
over_ten f n ds h = rw (le-ltb n 10 h, digits_before)

before_more : (f n : ℕ) (ds es : Bytes) → digits_before f n (ds ++ es) ≡ digits_before f n ds ++ es
unfolding digits_before
before_more zero n ds es = refl
before_more (suc f) n ds es = by (ltb n 10) (before_more f (n / 10) (digit_byte (n % 10) ∷ ds) es)
  where
    by : (b : Bool) → digits_before f (n / 10) (digit_byte (n % 10) ∷ (ds ++ es)) ≡ digits_before f (n / 10) (digit_byte (n % 10) ∷ ds) ++ es
        → elim b as (λ z. Bytes) [ true ↦ digit_byte n ∷ (ds ++ es) | false ↦ digits_before f (n / 10) (digit_byte (n % 10) ∷ (ds ++ es)) ]
        ≡ elim b as (λ z. Bytes) [ true ↦ digit_byte n ∷ ds | false ↦ digits_before f (n / 10) (digit_byte (n % 10) ∷ ds) ] ++ es
    by true h = refl
    by false h = h

pub one-digit : (n : ℕ) → n < 10 → decimal n ≡ digit_byte n ∷ []
unfolding decimal
one-digit n h = under_ten n n [] h (omega arith)

pub more_digits : (n : ℕ) → 10 ≤ n → decimal n ≡ decimal (n / 10) ++ digit_byte (n % 10) ∷ []
unfolding decimal
more_digits zero h = absurd (omega arith)
more_digits (suc k) h =
    over_ten k (suc k) [] h
    ∙ (before_more k (suc k / 10) [] (digit_byte (suc k % 10) ∷ [])
    ∙ ap (λ l. l ++ digit_byte (suc k % 10) ∷ []) (digits_agree k (suc k / 10) (suc k / 10) [] (omega arith) (omega arith)))

pub two_digits : (n : ℕ) → 10 ≤ n → n < 100 → decimal n ≡ digit_byte (n / 10 % 10) ∷ digit_byte (n % 10) ∷ []
two_digits n h l =
    let e : n / 10 % 10 ≡ n / 10 = omega arith in
    rw e (more_digits n h ∙ ap (λ ds. ds ++ digit_byte (n % 10) ∷ []) (one-digit (n / 10) (omega arith)))

pub two_more : (n : ℕ) → 100 ≤ n → decimal n ≡ decimal (n / 100) ++ (digit_byte (n / 10 % 10) ∷ []) ++ (digit_byte (n % 10) ∷ [])
two_more n h =
    let e : n / 10 / 10 ≡ n / 100 = omega arith in
    more_digits n (omega arith) ∙ ap (λ ds. ds ++ digit_byte (n % 10) ∷ []) (more_digits (n / 10) (omega arith) ∙ ap (λ k. decimal k ++ digit_byte (n / 10 % 10) ∷ []) e)

-- a number with its sign
pub not_negative : (z : ℤ) → lt_z z (pos 0) ≡ false → decimal (nat_abs z) ≡ signed_decimal z
unfolding signed_decimal
not_negative (pos n) e = refl
not_negative (negsuc n) e = cc

pub negative : (z : ℤ) → lt_z z (pos 0) ≡ true → (45 ∷ []) ++ decimal (nat_abs z) ≡ signed_decimal z
unfolding signed_decimal bytes
negative (pos n) e = let h = ltb-true n 0 e in absurd (omega arith)
negative (negsuc n) e = refl
