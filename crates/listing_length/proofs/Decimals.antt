-- How many digits a number has. Assumes nothing.
use mathlib.Core.Path.{◌≡◌, refl}
use mathlib.Core.Bool.{Bool, true, false}
use mathlib.Core.List.{[], ◌∷◌}
use mathlib.Core.Option.{Option, none, some}
use Prim.Native.Nat.{ℕ, zero, suc, ◌+◌, ◌*◌, ◌/◌, ◌%◌, ◌^◌, ◌≤◌, ◌<◌}
use native.Mathlib.Omega.{arith}
use native.Mathlib.Nat.{le_refl}
use lib.Dec.{eqb, ltb}
use lib.IntN.{ℤ, pos, negsuc}
use lib.ListN.{length, take, drop, length-take}
use borrow.Author.Tests.{ltb-true, ltb-false}
use Rattle.definition.specs.Text.{Bytes, bytes}
use Rattle.definition.specs.Name.{no_name, offset_of, length_of}
use Rattle.definition.specs.Range.{in_range}
use Rattle.definition.specs.Listing.{digit_byte, digits_before, decimal, signed_decimal, dash, or_dash, size_word, name_word}

-- the least number of more than k digits
unfoldable pub tens : ℕ → ℕ
tens zero = 1
tens (suc k) = 10 * tens k

digits_few : (k f n : ℕ) (ds : Bytes) → n < tens (suc k) → n ≤ f → length (digits_before f n ds) ≤ suc k + length ds
unfolding digits_before tens
digits_few k zero n ds p q = omega arith
digits_few k (suc f) n ds p q = go (ltb n 10) refl (λ j. digits_few j f (n / 10) (digit_byte (n % 10) ∷ ds))
  where
    more : (k : ℕ) → ((j : ℕ) → n / 10 < tens (suc j) → n / 10 ≤ f → length (digits_before f (n / 10) (digit_byte (n % 10) ∷ ds)) ≤ suc j + suc (length ds))
        → n < tens (suc k) → 10 ≤ n → length (digits_before f (n / 10) (digit_byte (n % 10) ∷ ds)) ≤ suc k + length ds
    more zero h p l = absurd (omega arith)
    more (suc k) h p l = let x = h k (omega arith) (omega arith) in omega arith

    go : (b : Bool) → ltb n 10 ≡ b → ((j : ℕ) → n / 10 < tens (suc j) → n / 10 ≤ f → length (digits_before f (n / 10) (digit_byte (n % 10) ∷ ds)) ≤ suc j + suc (length ds))
        → length {A = ℕ} (elim b as (λ z. Bytes) [ true ↦ digit_byte n ∷ ds | false ↦ digits_before f (n / 10) (digit_byte (n % 10) ∷ ds) ]) ≤ suc k + length ds
    go true e h = omega arith
    go false e h = more k h p (ltb-false n 10 e)

pub decimal-few : (k n : ℕ) → n < tens (suc k) → length (decimal n) ≤ suc k
unfolding decimal
decimal-few k n p = let h = digits_few k n n [] p (le_refl _) in omega arith

-- below 10,000; below 2^64; and with a sign
pub row-few : (n : ℕ) → n < 10000 → length (decimal n) ≤ 4
unfolding tens
row-few n p = decimal-few 3 n p

pub two-few : (n : ℕ) → n < 100 → length (decimal n) ≤ 2
unfolding tens
two-few n p = decimal-few 1 n p

pub wide-few : (n : ℕ) → n < 2 ^ 64 → length (decimal n) ≤ 20
unfolding tens
wide-few n p = decimal-few 19 n (omega arith)

half-few : (n : ℕ) → n ≤ 2 ^ 63 → length (decimal n) ≤ 19
unfolding tens
half-few n p = decimal-few 18 n (omega arith)

pub signed_few : (z : ℤ) → in_range z ≡ true → length (signed_decimal z) ≤ 20
unfolding signed_decimal in_range bytes
signed_few (pos n) e = let p = ltb-true n (2 ^ 63) e in let h = half-few n (omega arith) in omega arith
signed_few (negsuc n) e = let p = ltb-true n (2 ^ 63) e in let h = half-few (suc n) (omega arith) in omega arith

pub or_dash_few : (k : ℕ) (o : Option ℕ) → 0 < k → ((n : ℕ) → o ≡ some n → length (decimal n) ≤ k) → length (or_dash o) ≤ k
unfolding or_dash bytes
or_dash_few k none p h = omega arith
or_dash_few k (some n) p h = h n refl

pub size_few : (o : Option ℕ) → length (size_word o) ≤ 20
unfolding size_word bytes
size_few none = omega arith
size_few (some s) = go (ltb s (2 ^ 64)) refl
  where
    go : (b : Bool) → ltb s (2 ^ 64) ≡ b → length {A = ℕ} (elim b as (λ z. Bytes) [ true ↦ decimal s | false ↦ bytes "big" ]) ≤ 20
    go true e = wide-few s (ltb-true s (2 ^ 64) e)
    go false e = omega arith

-- a name, or a dash
pub name-few : (text : Bytes) (n : ℕ) → length (name_word text n) ≤ 1 + length_of n
unfolding name_word bytes
name-few text n = go (eqb n no_name)
  where
    go : (b : Bool) → length {A = ℕ} (elim b as (λ z. Bytes) [ true ↦ dash | false ↦ take (length_of n) (drop (offset_of n) text) ]) ≤ 1 + length_of n
    go true = omega arith
    go false = omega (arith, length-take (length_of n) (drop (offset_of n) text))
