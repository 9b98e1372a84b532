-- The definition's readers are made of the pieces that the code has functions for. Assumes nothing.
use mathlib.Core.Path.{◌≡◌, refl, sym, ap, ◌∙◌}
use mathlib.Core.Bool.{Bool, true, false}
use Prim.Native.Nat.{ℕ, suc, ◌+◌, ◌≤◌, ◌<◌}
use native.Mathlib.Omega.{arith}
use Rattle.lemmas.proofs.Branch.{yes, nay, eq_yes, eq_no, le_yes, le_no}
use lib.Dec.{eqb}
use lib.ListN.{length}
use Rattle.definition.specs.Answer.{Answer, got, refused, ◌>>=◌}
use Rattle.definition.specs.Refusal.{member_storage, limit_passed}
use Rattle.definition.specs.Limit.{max_steps}
use Rattle.definition.specs.Kind.{open_paren, open_bracket, colon}
use Rattle.definition.specs.Name.{no_name}
use Rattle.definition.specs.Token.{Tokens, kind_at, left}
use Rattle.definition.specs.Model.{Model}
use Rattle.definition.specs.Table.{State, skip, storage_number, noStorage}
use Rattle.definition.specs.Specifier.{Specifiers, based_on, names_type, is_type_word}
use Rattle.definition.specs.Specifiers.{specifiers, specifiers_from, is_tag_word, base_type, named_type}
use Rattle.definition.specs.Grammar.{DeclaratorStep, array_step, Declarator, with_step, Levels, stands}
use Rattle.definition.specs.Declarator.{apply, array_bound, parameter, suffixes_from, one_more_step}
use Rattle.definition.specs.Composite.{member_declarator, member_declaration}
use Rattle.definition_laws.proofs.Same.{then-got}
use Rattle.specifier_words.specs.Untyped.{type_from}
use Rattle.member_entries.specs.Pieces.{field}
use Rattle.member_entries.proofs.Made.{declarator-made}
use Rattle.parser.specs.Pieces.{type_row, after_type, suffix_step, typed_from}

-- calls one after the other, however they are grouped
pub grouped : {A B C : Type 0} (x : Answer A) (f : A → Answer B) (g : B → Answer C) → (x >>= (λ a. f a >>= g)) ≡ ((x >>= f) >>= g)
unfolding ◌>>=◌
grouped (got a) f g = refl
grouped (refused n p) f g = refl

-- the same for two calls whose values are put together
pub joined : {A B C D : Type 0} (x : Answer A) (f : A → Answer B) (h : A → B → C) (g : C → Answer D) → (x >>= (λ a. f a >>= λ b. g (h a b))) ≡ ((x >>= (λ a. f a >>= λ b. got (h a b))) >>= g)
unfolding ◌>>=◌
joined (got a) f h g = grouped (f a) (λ b. got (h a b)) g
joined (refused n p) f h g = refl

unlike : open_paren ≡ open_bracket → ⊥
unlike e = absurd (omega arith)

module _ (ts : Tokens) (m : Model) (next : Levels) where
  -- a word that names a type by a row
  typed-by : (f : ℕ) (p : Specifiers) (s : State) (tag : Bool) → is_tag_word (kind_at ts s.at) ≡ tag → is_type_word (kind_at ts s.at) ≡ false → names_type p ≡ false
      → type_from ts m next f p s ≡ (type_row ts m next s >>= λ b. specifiers_from ts m next f (based_on p b.0) b.1)
  unfolding type_from type_row ◌>>=◌
  typed-by f p s true e g h = nay _ _ _ g ∙ (yes _ _ _ e ∙ (nay _ _ _ h ∙ sym (ap (λ (z : Answer (ℕ × State)). z >>= λ b. specifiers_from ts m next f (based_on p b.0) b.1) (yes _ _ _ e))))
  typed-by f p s false e g h = nay _ _ _ g ∙ (nay _ _ _ e ∙ (nay _ _ _ h ∙ (grouped (named_type ts m s) (λ b. got (b.0, skip b.1)) (λ b. specifiers_from ts m next f (based_on p b.0) b.1)
      ∙ sym (ap (λ (z : Answer (ℕ × State)). z >>= λ b. specifiers_from ts m next f (based_on p b.0) b.1) (nay _ _ _ e)))))

  pub row_made : (f : ℕ) (p : Specifiers) (s : State) → is_type_word (kind_at ts s.at) ≡ false → names_type p ≡ false
      → type_from ts m next f p s ≡ (type_row ts m next s >>= λ b. specifiers_from ts m next f (based_on p b.0) b.1)
  row_made f p s g h = typed-by f p s (is_tag_word (kind_at ts s.at)) refl g h

  pub declaration-made : (first : ℕ) (s : State) → member_declaration ts m next first s ≡ (do
    p ← specifiers ts m next s
    elim (eqb (storage_number p.0.storage) (storage_number noStorage)) as (λ x. Answer State) [
      | false ↦ refused member_storage s.at
      | true ↦ (do
        b ← base_type m p.0 s.at p.1
        after_type ts m next first b.0 s.at (suc (left ts s.at)) b.1)
    ])
  unfolding member_declaration after_type
  declaration-made first s = refl

  pub member-made : (first b : ℕ) (s : State) → member_declarator ts m next first b s ≡ elim (stands ts colon s) as (λ x. Answer State) [
    | true ↦ field ts m next true first b no_name s.at s
    | false ↦ (typed_from next b s >>= λ x. field ts m next false first x.0 x.1 s.at x.2)
  ]
  unfolding typed_from
  member-made first b s = declarator-made ts m next first b s ∙ ap (λ y. elim (stands ts colon s) as (λ x. Answer State) [ true ↦ field ts m next true first b no_name s.at s | false ↦ y ])
      (joined (next.declarator 0 s) (λ d. apply d.0.steps b d.1) (λ d r. (r.0, d.0.name, r.1)) (λ (x : ℕ × ℕ × State). field ts m next false first x.0 x.1 s.at x.2))

  pub parameter-made : (s : State) → parameter ts m next s ≡ (do
    p ← specifiers ts m next s
    b ← base_type m p.0 s.at p.1
    typed_from next b.0 b.1)
  unfolding parameter typed_from
  parameter-made s = refl

  -- after a name: neither a bracket nor a parenthesis; no room for a step; or a step
  module _ (f used : ℕ) (d : Declarator) (s : State) where
    pub no_suffix : (kind_at ts s.at ≡ open_bracket → ⊥) → (kind_at ts s.at ≡ open_paren → ⊥) → suffixes_from ts m next (suc f) used d s ≡ got (d, s)
    unfolding suffixes_from
    no_suffix b p = eq_no _ _ _ _ b ∙ eq_no _ _ _ _ p

    one_more : max_steps ≤ used + length d.steps → one_more_step (used + length d.steps) (skip s) ≡ refused limit_passed (s.at + 1)
    unfolding one_more_step
    one_more h = le_yes _ _ _ _ h

    has_room : used + length d.steps < max_steps → one_more_step (used + length d.steps) (skip s) ≡ got (skip s)
    unfolding one_more_step
    has_room h = le_no _ _ _ _ h

    pub full_bracket : kind_at ts s.at ≡ open_bracket → max_steps ≤ used + length d.steps → suffixes_from ts m next (suc f) used d s ≡ refused limit_passed (s.at + 1)
    unfolding suffixes_from ◌>>=◌
    full_bracket e h = eq_yes _ _ _ _ e ∙ rw (one_more h)

    pub full_parenthesis : kind_at ts s.at ≡ open_paren → max_steps ≤ used + length d.steps → suffixes_from ts m next (suc f) used d s ≡ refused limit_passed (s.at + 1)
    unfolding suffixes_from ◌>>=◌
    full_parenthesis e h = eq_no _ _ _ _ (λ b. unlike (sym e ∙ b)) ∙ (eq_yes _ _ _ _ e ∙ rw (one_more h))

    pub bracket_made : kind_at ts s.at ≡ open_bracket → used + length d.steps < max_steps
        → suffixes_from ts m next (suc f) used d s ≡ (suffix_step ts m next (kind_at ts s.at) (skip s) >>= λ x. suffixes_from ts m next f used (with_step d x.0) x.1)
    unfolding suffixes_from suffix_step ◌>>=◌
    bracket_made e h = eq_yes _ _ _ _ e ∙ (then-got _ _ _ (has_room h) ∙ (grouped (array_bound ts m next (skip s)) (λ b. got (array_step b.0, b.1)) (λ x. suffixes_from ts m next f used (with_step d x.0) x.1)
        ∙ sym (ap (λ (z : Answer (DeclaratorStep × State)). z >>= λ x. suffixes_from ts m next f used (with_step d x.0) x.1) (eq_no _ _ _ _ (λ b. unlike (sym b ∙ e))))))

    pub parenthesis_made : kind_at ts s.at ≡ open_paren → used + length d.steps < max_steps
        → suffixes_from ts m next (suc f) used d s ≡ (suffix_step ts m next (kind_at ts s.at) (skip s) >>= λ x. suffixes_from ts m next f used (with_step d x.0) x.1)
    unfolding suffixes_from suffix_step ◌>>=◌
    parenthesis_made e h = eq_no _ _ _ _ (λ b. unlike (sym e ∙ b)) ∙ (eq_yes _ _ _ _ e ∙ (then-got _ _ _ (has_room h)
        ∙ sym (ap (λ (z : Answer (DeclaratorStep × State)). z >>= λ x. suffixes_from ts m next f used (with_step d x.0) x.1) (eq_yes _ _ _ _ e))))
