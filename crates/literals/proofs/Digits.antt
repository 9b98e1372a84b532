-- Laws of digits, suffixes and bases. Assumes nothing.
use mathlib.Core.Path.{◌≡◌, refl, sym, ap, ◌∙◌}
use mathlib.Core.Bool.{Bool, true, false, ◌&&◌}
use mathlib.Core.List.{[], ◌∷◌, ◌++◌}
use mathlib.Mathlib.Data.Bool.Basic.{and_intro}
use Prim.Native.Nat.{ℕ, zero, suc, ◌+◌, ◌*◌, ◌^◌, ◌≤◌, ◌<◌}
use native.Mathlib.Omega.{arith}
use native.Mathlib.Numerals.{add-one}
use borrow.Author.Tests.{eq-eqb}
use lib.Dec.{ltb, eqb, eqb-suc-zero}
use lib.ListN.{length, take, get_or}
use lib.Seq.{take-suc}
use Rattle.definition.specs.Answer.{got, refused}
use Rattle.definition.specs.Text.{Bytes}
use Rattle.definition.specs.Class.{among}
use Rattle.definition.specs.Number.{digit_value, suffix_bytes, body_length, are_digits, value_from, in_range}
use Rattle.lemmas.proofs.Branch.{yes, nay, lt_yes, lt_no}
use Rattle.lemmas.proofs.Truth.{not_first, not_second}

-- what is left of a word: all up to the last byte that is no suffix
no_body : (w : Bytes) → ((k : ℕ) → k < length w → among (get_or w k 0) suffix_bytes ≡ true) → body_length w ≡ 0
unfolding body_length
no_body [] f = refl
no_body (b ∷ w) f = yes _ _ _ (and_intro (eq-eqb _ _ (no_body w (λ k h. f (suc k) (omega arith)))) (f 0 (omega arith)))

body_to : (w : Bytes) (i : ℕ) → i < length w → among (get_or w i 0) suffix_bytes ≡ false → ((k : ℕ) → i < k → k < length w → among (get_or w k 0) suffix_bytes ≡ true) → body_length w ≡ suc i
unfolding body_length
body_to [] i h e f = absurd (omega arith)
body_to (b ∷ w) zero h e f = nay _ _ _ (not_second _ e) ∙ ap suc (no_body w (λ k l. f (suc k) (omega arith) (omega arith)))
body_to (b ∷ w) (suc i) h e f =
    let r = body_to w i (omega arith) e (λ k l m. f (suc k) (omega arith) (omega arith)) in
    nay _ _ _ (not_first _ (ap (λ (n : ℕ). eqb n zero) r ∙ eqb-suc-zero i)) ∙ ap suc r

pub body-none : (w : Bytes) → ((k : ℕ) → k < length w → among (get_or w k 0) suffix_bytes ≡ true) → 0 ≡ body_length w
body-none w f = sym (no_body w f)

pub body-last : (w : Bytes) (i : ℕ) → i < length w → among (get_or w i 0) suffix_bytes ≡ false → ((k : ℕ) → i < k → k < length w → among (get_or w k 0) suffix_bytes ≡ true) → i + 1 ≡ body_length w
body-last w i h e f = rw (body_to w i h e f) (omega arith)

body_of : (n : ℕ) (t : Bool) → elim t as (λ z. ℕ) [ true ↦ zero | false ↦ suc n ] ≤ suc n
body_of n true = omega arith
body_of n false = omega arith

pub body_bound : (w : Bytes) → body_length w ≤ length w
unfolding body_length
body_bound [] = omega arith
body_bound (b ∷ w) = let h = body_bound w in let k = body_of (body_length w) (eqb (body_length w) zero && among b suffix_bytes) in omega arith

-- digits with one digit more
value_snoc : (base v : ℕ) (w : Bytes) (b : ℕ) → value_from base v (w ++ (b ∷ [])) ≡ value_from base v w * base + digit_value b
unfolding value_from
value_snoc base v [] b = refl
value_snoc base v (x ∷ w) b = value_snoc base (v * base + digit_value x) w b

digits_snoc : (base : ℕ) (w : Bytes) (b : ℕ) → are_digits base w ≡ true → digit_value b < base → are_digits base (w ++ (b ∷ [])) ≡ true
unfolding are_digits
digits_snoc base [] b e h = lt_yes _ _ _ _ h
digits_snoc base (x ∷ w) b e h = by (ltb (digit_value x) base) refl (λ k. digits_snoc base w b k h)
  where
    by : (t : Bool) → ltb (digit_value x) base ≡ t → (are_digits base w ≡ true → are_digits base (w ++ (b ∷ [])) ≡ true) → are_digits base ((x ∷ w) ++ (b ∷ [])) ≡ true
    by true f ih = yes _ _ _ f ∙ ih (sym (yes _ _ _ f) ∙ e)
    by false f ih = let z : false ≡ true = sym (nay _ _ _ f) ∙ e in let y : ◌≡◌ {A = ℕ} 0 1 = cc in absurd (omega arith)

pub value-more : (base v : ℕ) (w : Bytes) (i : ℕ) → i < length w → value_from base v (take (i + 1) w) ≡ value_from base v (take i w) * base + digit_value (get_or w i 0)
value-more base v w i h = rw (add-one i, take-suc w i 0 h) (value_snoc base v (take i w) (get_or w i 0))

pub digits_more : (base : ℕ) (w : Bytes) (i : ℕ) → i < length w → are_digits base (take i w) ≡ true → digit_value (get_or w i 0) < base → are_digits base (take (i + 1) w) ≡ true
digits_more base w i h e k = rw (add-one i, take-suc w i 0 h) (digits_snoc base (take i w) (get_or w i 0) e k)

pub digits_bad : (base : ℕ) (w : Bytes) (i : ℕ) → i < length w → base ≤ digit_value (get_or w i 0) → are_digits base w ≡ false
unfolding are_digits
digits_bad base [] i h k = absurd (omega arith)
digits_bad base (x ∷ w) zero h k = lt_no _ _ _ _ k
digits_bad base (x ∷ w) (suc i) h k = by (ltb (digit_value x) base) refl (digits_bad base w i (omega arith) k)
  where
    by : (t : Bool) → ltb (digit_value x) base ≡ t → are_digits base w ≡ false → are_digits base (x ∷ w) ≡ false
    by true f ih = yes _ _ _ f ∙ ih
    by false f ih = nay _ _ _ f

-- in range
pub in_range_lem : (at v : ℕ) → v < 2 ^ 63 → in_range at v ≡ got v
unfolding in_range
in_range_lem at v h = lt_yes _ _ _ _ h

pub out_of_range : (at v : ℕ) → 2 ^ 63 ≤ v → in_range at v ≡ refused 8 at
unfolding in_range
out_of_range at v h = lt_no _ _ _ _ h
