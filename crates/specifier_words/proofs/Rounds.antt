-- A round of `specifiersFrom` at a word: the word names no type, or the rest is left. Assumes nothing.
use mathlib.Core.Path.{◌≡◌, refl, sym, ap}
use mathlib.Core.Bool.{Bool, true, false, ◌||◌, false≢true}
use Prim.Native.Nat.{ℕ, suc}
use Rattle.definition.specs.Kind.{is_word}
use Rattle.definition.specs.Token.{Tokens, kind_at}
use Rattle.definition.specs.Model.{Model}
use Rattle.definition.specs.Table.{State, skip}
use Rattle.definition.specs.Specifier.{Specifiers, storing, storage_of, qualifying, with_qualifier, is_storage_word, is_qualifier_word, is_ignored_word}
use Rattle.definition.specs.Specifiers.{specifiers_from}
use Rattle.definition.specs.Grammar.{Levels}
use Rattle.lemmas.proofs.Picked.{yes, nay}
use Rattle.specifier_words.specs.Untyped.{says_no_type, with_said, type_from}

-- what is said, by the class of the word; the type stays what it was
module _ (p : Specifiers) (k : ℕ) where
  pub by-storage : is_storage_word k ≡ true → with_said p k ≡ storing p (storage_of k)
  unfolding with_said
  by-storage e = sym (yes (λ x. x) _ _ _ e refl)

  pub by_qualifier : is_storage_word k ≡ false → is_qualifier_word k ≡ true → with_said p k ≡ qualifying p (with_qualifier k p.qualifiers)
  unfolding with_said
  by_qualifier e g = sym (nay (λ x. x) _ _ _ e (yes (λ x. x) _ _ _ g refl))

  pub by-other : is_storage_word k ≡ false → is_qualifier_word k ≡ false → with_said p k ≡ p
  unfolding with_said
  by-other e g = sym (nay (λ x. x) _ _ _ e (nay (λ x. x) _ _ _ g refl))

  kept : (a b : Bool) → is_storage_word k ≡ a → is_qualifier_word k ≡ b → ((with_said p k).base ≡ p.base) × ((with_said p k).words ≡ p.words)
  kept true b e g = (ap (λ x. x.base) (by-storage e), ap (λ x. x.words) (by-storage e))
  kept false true e g = (ap (λ x. x.base) (by_qualifier e g), ap (λ x. x.words) (by_qualifier e g))
  kept false false e g = (ap (λ x. x.base) (by-other e g), ap (λ x. x.words) (by-other e g))

  pub same_base : (with_said p k).base ≡ p.base
  same_base = (kept _ _ refl refl).0

  pub same-words : (with_said p k).words ≡ p.words
  same-words = (kept _ _ refl refl).1

-- which of the classes a word is of
parts : (a b c : Bool) → (a || (b || c)) ≡ false → (a ≡ false) × (b ≡ false) × (c ≡ false)
parts true b c e = absurd (false≢true (sym e))
parts false true c e = absurd (false≢true (sym e))
parts false false c e = (refl, refl, e)

module _ (ts : Tokens) (m : Model) (next : Levels) (f : ℕ) (p : Specifiers) (s : State) (w : is_word (kind_at ts s.at) ≡ true) where
  said : (a b c : Bool) → is_storage_word (kind_at ts s.at) ≡ a → is_qualifier_word (kind_at ts s.at) ≡ b → is_ignored_word (kind_at ts s.at) ≡ c → (a || (b || c)) ≡ true
      → specifiers_from ts m next f (with_said p (kind_at ts s.at)) (skip s) ≡ specifiers_from ts m next (suc f) p s
  unfolding specifiers_from
  said true b c x y z e = yes (λ x. x) _ _ _ w (yes (λ x. x) _ _ _ x (ap (λ q. specifiers_from ts m next f q (skip s)) (by-storage p _ x)))
  said false true c x y z e = yes (λ x. x) _ _ _ w (nay (λ x. x) _ _ _ x (yes (λ x. x) _ _ _ y (ap (λ q. specifiers_from ts m next f q (skip s)) (by_qualifier p _ x y))))
  said false false true x y z e = yes (λ x. x) _ _ _ w (nay (λ x. x) _ _ _ x (nay (λ x. x) _ _ _ y (yes (λ x. x) _ _ _ z (ap (λ q. specifiers_from ts m next f q (skip s)) (by-other p _ x y)))))
  said false false false x y z e = absurd (false≢true e)

  pub said-round : says_no_type (kind_at ts s.at) ≡ true → specifiers_from ts m next (suc f) p s ≡ specifiers_from ts m next f (with_said p (kind_at ts s.at)) (skip s)
  unfolding says_no_type
  said-round e = sym (said _ _ _ refl refl refl e)

  pub type-round : says_no_type (kind_at ts s.at) ≡ false → specifiers_from ts m next (suc f) p s ≡ type_from ts m next f p s
  unfolding specifiers_from type_from says_no_type
  type-round e = let g = parts (is_storage_word (kind_at ts s.at)) (is_qualifier_word (kind_at ts s.at)) (is_ignored_word (kind_at ts s.at)) e in sym (yes (λ x. x) _ _ _ w (nay (λ x. x) _ _ _ g.0 (nay (λ x. x) _ _ _ g.1 (nay (λ x. x) _ _ _ g.2 refl))))
