-- Past the last ASCII byte there is no class. Assumes nothing.
use mathlib.Core.Path.{◌≡◌, refl, ◌∙◌}
use mathlib.Core.Bool.{Bool, true, false}
use mathlib.Core.List.{[], ◌∷◌}
use Prim.Native.Nat.{ℕ, ◌≤◌, ◌<◌}
use native.Mathlib.Omega.{arith}
use borrow.Author.Tests.{lt-leb, ne_eqb, ltb-true}
use lib.Dec.{eqb, leb, ltb}
use Rattle.definition.specs.Text.{Bytes, bytes}
use Rattle.definition.specs.Class.{between, among, mark_bytes, class_of, is_blank_byte, is_letter_byte, is_digit_byte}
use Rattle.lemmas.proofs.Branch.{nay}
use Rattle.lemmas.proofs.Truth.{not_second, neither}

pub apart : (low high b : ℕ) → high < b → between low high b ≡ false
apart low high b h = not_second (leb low b) (lt-leb b high h)

differs : (b k : ℕ) → k < b → eqb b k ≡ false
differs b k h = ne_eqb b k (λ e. omega arith)

below : Bytes → Bool
below [] = true
below (m ∷ ms) = elim (ltb m 128) [ true ↦ below ms | false ↦ false ]

first_below : (m : ℕ) (ms : Bytes) → below (m ∷ ms) ≡ true → (m < 128) × (below ms ≡ true)
unfolding below
first_below m ms = elim (ltb m 128) as (λ t. ltb m 128 ≡ t → elim t as (λ z. Bool) [ true ↦ below ms | false ↦ false ] ≡ true → (m < 128) × (below ms ≡ true)) [
  | true ↦ λ p e. (ltb-true m 128 p, e)
  | false ↦ λ p e. (let z : ◌≡◌ {A = Bool} false true = e in let y : ◌≡◌ {A = ℕ} 0 1 = cc in absurd (omega arith))
] refl

none_of : (b : ℕ) (ms : Bytes) → 128 ≤ b → below ms ≡ true → among b ms ≡ false
unfolding among below
none_of b [] h e = refl
none_of b (m ∷ ms) h e = let f = first_below m ms e in rw (differs b m (omega (arith, f.0)), among) (none_of b ms h f.1)

no_blank : (b : ℕ) → 128 ≤ b → is_blank_byte b ≡ false
unfolding is_blank_byte
no_blank b h = neither (apart 9 13 b (omega arith)) (differs b 32 (omega arith))

pub no_letter : (b : ℕ) → 128 ≤ b → is_letter_byte b ≡ false
unfolding is_letter_byte
no_letter b h =
    neither (apart 97 122 b (omega arith))
    (neither (apart 65 90 b (omega arith)) (differs b 95 (omega arith)))

pub no_digit : (b : ℕ) → 128 ≤ b → is_digit_byte b ≡ false
unfolding is_digit_byte
no_digit b h = apart 48 57 b (omega arith)

no_mark : (b : ℕ) → 128 ≤ b → among b mark_bytes ≡ false
unfolding mark_bytes bytes below
no_mark b h = none_of b mark_bytes h refl

pub past : (b : ℕ) → 128 ≤ b → class_of b ≡ 0
unfolding class_of
past b h = nay _ _ _ (no_blank b h) ∙ (nay _ _ _ (no_letter b h) ∙ (nay _ _ _ (no_digit b h) ∙ nay _ _ _ (no_mark b h)))
