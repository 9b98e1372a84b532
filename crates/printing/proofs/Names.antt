-- The bytes of a name. Assumes nothing.
use Rattle.std.proofs.Common.{◌≡◌, ap, ◌∙◌, ◌∷◌, [], ℕ, ◌/◌, ◌%◌, ◌-◌, length, take, drop, arith, eq-eqb, ne_eqb}
use Prim.Native.Nat.{min}
use Rattle.std.proofs.lemmas.List.{take_min, drop_min, take_all, length-drop}
use Rattle.definition.specs.Text.{Bytes, bytes}
use Rattle.definition.specs.Name.{offset_of, length_of}
use Rattle.definition.specs.Listing.{name_word}

module _ (text : Bytes) (name : ℕ) where
  pub no-name : name ≡ 0 → 45 ∷ [] ≡ name_word text name
  unfolding name_word bytes
  no-name e = rw (eq-eqb name 0 e, name_word)

  -- from its offset on, as far as the text goes
  pub a-name : {i k : ℕ} → (name ≡ 0 → ⊥) → i ≡ min (name % 65536) (length text) → k ≡ min (name / 65536) (length (take (length text - i) (drop i text)))
      → take k (take (length text - i) (drop i text)) ≡ name_word text name
  unfolding name_word offset_of length_of
  a-name {i} {k} e p q =
      let rest : take (length text - i) (drop i text) ≡ drop (name % 65536) text = take_all _ _ (omega (arith, length-drop i text)) ∙ (ap (λ n. drop n text) p ∙ drop_min (name % 65536) text) in
      rw (ne_eqb name 0 e, name_word) (ap (λ n. take n (take (length text - i) (drop i text))) q ∙ (take_min (name / 65536) _ ∙ ap (λ xs. take (name / 65536) xs) rest))
