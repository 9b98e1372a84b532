-- Laws of the classes of bytes. Assumes nothing.
use mathlib.Core.Path.{◌≡◌, refl, sym, ap, ◌∙◌}
use mathlib.Core.Bool.{Bool, true, false, ◌||◌}
use Prim.Native.Nat.{ℕ, ◌≤◌, ◌<◌, ◌/◌, ◌%◌, ◌^◌}
use native.Mathlib.Omega.{arith}
use borrow.Author.Tests.{eqb-true, eqb-false, ltb-true, ltb-false, ne_eqb}
use lib.Dec.{eqb, ltb}
use Rattle.definition.specs.Text.{bytes}
use Rattle.definition.specs.Class.{between, among, mark_bytes, class_of, is_blank, is_word_byte, is_blank_byte, is_letter_byte, is_digit_byte}
use Rattle.lemmas.proofs.Truth.{neither, neither-first, neither-second}
use Rattle.scan.proofs.Table.{within, alike, equal}
use Rattle.scan.proofs.Past.{apart, no_letter, no_digit, past}

-- the class by its tests
class : Bool → Bool → Bool → Bool → ℕ
class blank letter digit mark =
    elim blank as (λ z. ℕ) [
      | true ↦ 1
      | false ↦
          elim letter as (λ z. ℕ) [
            | true ↦ 2
            | false ↦
                elim digit as (λ z. ℕ) [
                  | true ↦ 3
                  | false ↦
                      elim mark as (λ z. ℕ) [ true ↦ 4 | false ↦ 0 ]
                ]
          ]
    ]

class-is : (b : ℕ) → class_of b ≡ class (is_blank_byte b) (is_letter_byte b) (is_digit_byte b) (among b mark_bytes)
unfolding class_of class
class-is b = refl

class-blank : (t u v w : Bool) → eqb (class t u v w) 1 ≡ t
unfolding class
class-blank true u v w = refl
class-blank false true v w = refl
class-blank false false true w = refl
class-blank false false false true = refl
class-blank false false false false = refl

class-bound : (t u v w : Bool) → class t u v w ≤ 4
unfolding class
class-bound true u v w = omega arith
class-bound false true v w = omega arith
class-bound false false true w = omega arith
class-bound false false false true = omega arith
class-bound false false false false = omega arith

pub blank_is : (b : ℕ) → is_blank b ≡ is_blank_byte b
unfolding is_blank
blank_is b = ap (λ (k : ℕ). eqb k 1) (class-is b) ∙ class-blank (is_blank_byte b) (is_letter_byte b) (is_digit_byte b) (among b mark_bytes)

pub few_classes : (b : ℕ) → class_of b ≤ 4
few_classes b = rw (class-is b) (class-bound (is_blank_byte b) (is_letter_byte b) (is_digit_byte b) (among b mark_bytes))

-- bytes as bits of a number
abbrev bit : ℕ → ℕ → Bool
bit m k = eqb (m / 2 ^ k % 2) 1

pub word_high : (b : ℕ) → 64 ≤ b → b < 128 → bit 576460745995190270 (b % 64) ≡ is_word_byte b
unfolding is_word_byte class_of is_blank_byte is_letter_byte is_digit_byte among mark_bytes bytes
word_high b l h = equal _ _ (within (λ (k : ℕ). alike (bit 576460745995190270 (k % 64)) (is_word_byte k)) 64 64 tt b l h)

pub word-past : (b : ℕ) → 128 ≤ b → is_word_byte b ≡ false
unfolding is_word_byte
word-past b l = rw (past b l)

-- a letter or a digit
pub word_is : (b : ℕ) → is_word_byte b ≡ (is_letter_byte b || is_digit_byte b)
unfolding is_word_byte class_of is_blank_byte is_letter_byte is_digit_byte among mark_bytes bytes
word_is b = by (ltb b 128) refl
  where
    by : (t : Bool) → ltb b 128 ≡ t → is_word_byte b ≡ (is_letter_byte b || is_digit_byte b)
    by true q = equal _ _ (within (λ (k : ℕ). alike (is_word_byte k) (is_letter_byte k || is_digit_byte k)) 0 128 tt b (omega arith) (ltb-true b 128 q))
    by false q = let l = ltb-false b 128 q in word-past b l ∙ sym (neither (no_letter b l) (no_digit b l))

-- a byte with which a mark begins
pub mark_is : (b : ℕ)
    → eqb (class_of b) 4
    ≡ (eqb b 33 || (eqb b 37 || (eqb b 38 || (between 40 47 b || (between 58 63 b || (eqb b 91 || (eqb b 93 || (eqb b 94 || between 123 126 b))))))))
unfolding class_of is_blank_byte is_letter_byte is_digit_byte among mark_bytes bytes
mark_is b = by (ltb b 128) refl
  where
    any : ℕ → Bool
    any k = eqb k 33 || (eqb k 37 || (eqb k 38 || (between 40 47 k || (between 58 63 k || (eqb k 91 || (eqb k 93 || (eqb k 94 || between 123 126 k)))))))

    by : (t : Bool) → ltb b 128 ≡ t → eqb (class_of b) 4 ≡ any b
    by true q = equal _ _ (within (λ (k : ℕ). alike (eqb (class_of k) 4) (any k)) 0 128 tt b (omega arith) (ltb-true b 128 q))
    by false q =
        let l = ltb-false b 128 q in
        rw (past b l, ne_eqb b 33 (λ e. omega arith), ne_eqb b 37 (λ e. omega arith), ne_eqb b 38 (λ e. omega arith), apart 40 47 b (omega arith), apart 58 63 b (omega arith), ne_eqb b 91 (λ e. omega arith), ne_eqb b 93 (λ e. omega arith), ne_eqb b 94 (λ e. omega arith), apart 123 126 b (omega arith)) refl

-- a byte of a word is a digit up to 57 and a letter from there on
pub word-digit : (b : ℕ) → b ≤ 57 → is_word_byte b ≡ true → class_of b ≡ 3
unfolding is_word_byte class_of is_blank_byte is_letter_byte is_digit_byte among mark_bytes bytes
word-digit b h e = eqb-true _ _ (sym (equal _ _ (within (λ (k : ℕ). alike (is_word_byte k) (eqb (class_of k) 3)) 0 58 tt b (omega arith) (omega arith))) ∙ e)

high_letter : (b : ℕ) → 57 < b → b < 128 → is_word_byte b ≡ eqb (class_of b) 2
unfolding is_word_byte class_of is_blank_byte is_letter_byte is_digit_byte among mark_bytes bytes
high_letter b l h = equal _ _ (within (λ (k : ℕ). alike (is_word_byte k) (eqb (class_of k) 2)) 58 70 tt b l h)

pub word-letter : (b : ℕ) → 57 < b → is_word_byte b ≡ true → class_of b ≡ 2
word-letter b l e = by (ltb b 128) refl
  where
    by : (t : Bool) → ltb b 128 ≡ t → class_of b ≡ 2
    by true q = eqb-true _ _ (sym (high_letter b l (ltb-true b 128 q)) ∙ e)
    by false q = let z = sym (word-past b (ltb-false b 128 q)) ∙ e in let y : ◌≡◌ {A = ℕ} 0 1 = cc in absurd (omega arith)

-- a byte of no other class has none
no_other : (k : ℕ) → k ≤ 4 → (k ≡ 2 → ⊥) → (k ≡ 3 → ⊥) → (k ≡ 1 → ⊥) → (k ≡ 4 → ⊥) → k ≡ 0
no_other k h p q r s = omega arith

pub no_class : (b : ℕ) → is_word_byte b ≡ false → is_blank b ≡ false → eqb (class_of b) 4 ≡ false → class_of b ≡ 0
unfolding is_word_byte is_blank
no_class b e f g =
    no_other (class_of b) (few_classes b)
    (eqb-false (class_of b) 2 (neither-first (eqb (class_of b) 2) (eqb (class_of b) 3) e))
    (eqb-false (class_of b) 3 (neither-second (eqb (class_of b) 2) (eqb (class_of b) 3) e))
    (eqb-false (class_of b) 1 f)
    (eqb-false (class_of b) 4 g)
