use native.Mathlib.Omega.{arith}
use mathlib.Core.Path.{◌≡◌, sym, ap, ◌∙◌}
use borrow.Author.Tests.{eq-eqb, ne_eqb}
use lib.Dec.{eqb}
use Rattle.definition.specs.Kind.{close_paren}
use Rattle.definition.specs.Declarator.{is_void_list}
use Rattle.encoding.specs.declared.token_kinds.TokenKind.TheVariants.{CloseParen}
use Rattle.encoding.proofs.TokenKinds.{same_kind}
use Rattle.parameter_entries.proofs.Entries.{and_on, and_off}
use Rattle.parameter_entries.proofs.is_void_list.Goals as goal
use Rattle.parameter_entries.proofs.is_void_list.Goals.{then-n-eq0, else-n-eq0, then-name-eq-NO_NAME, else-name-eq-NO_NAME}

pub returns-then-ty-eq-VOID_ROW : goal.returns-then-ty-eq-VOID_ROW
unfolding is_void_list
returns-then-ty-eq-VOID_ROW c = let h = c.if-ty-eq-VOID_ROW.true in
    record { of = λ ns t. sym (and_on _ (eq-eqb _ _ h.0) ∙ (and_on _ (eq-eqb _ _ h.1) ∙ (and_on _ (eq-eqb _ _ h.2) ∙ sym (c.eq.ensures ∙ same_kind c.kind_at.result CloseParen ∙ ap (λ z. eqb z close_paren) c.kind_at.ensures.is)))) }

pub returns-else-ty-eq-VOID_ROW : goal.returns-else-ty-eq-VOID_ROW
unfolding is_void_list
returns-else-ty-eq-VOID_ROW c = record {
  of = λ ns t. elim c.if-n-eq0.branch [
    | then-n-eq0 w ↦ elim c.if-name-eq-NO_NAME.branch [
      | then-name-eq-NO_NAME u ↦
          let h : c.args.ty ≡ 0 → ⊥ = λ z. omega (arith, c.if-ty-eq-VOID_ROW.either, u.if-name-eq-NO_NAME.true) in
          u.t-7-is ∙ (and_off _ (ne_eqb _ _ h) ∙ sym (and_on _ (eq-eqb _ _ w.if-n-eq0.true) ∙ and_on _ (eq-eqb _ _ u.if-name-eq-NO_NAME.true.1)))
      | else-name-eq-NO_NAME u ↦
          let h : c.args.name ≡ 0 → ⊥ = λ z. omega (arith, u.if-name-eq-NO_NAME.either, w.if-n-eq0.true) in
          u.t-7-is ∙ (w.t-8-is ∙ (and_off _ (ne_eqb _ _ h) ∙ sym (and_on _ (eq-eqb _ _ w.if-n-eq0.true))))
    ]
    | else-n-eq0 w ↦ elim c.if-name-eq-NO_NAME.branch [
      | then-name-eq-NO_NAME u ↦ absurd (w.if-n-eq0.false u.if-name-eq-NO_NAME.true.0)
      | else-name-eq-NO_NAME u ↦ u.t-7-is ∙ (w.t-8-is ∙ and_off _ (ne_eqb _ _ w.if-n-eq0.false))
    ]
  ];
}
