use mathlib.Core.Path.{sym, ap, ◌∙◌}
use borrow.Author.Tests.{eqb-false}
use Rattle.named_rows.proofs.Searches.{kind-is, target_is}
use Rattle.type_rows.proofs.Same.{other_kind, other_target}
use Rattle.type_rows.proofs.is_equal.Goals as goal
use Rattle.type_rows.proofs.is_equal.Goals.{then-row-w, else-row-w}

pub returns-else-row-w-2 : goal.returns-else-row-w-2
returns-else-row-w-2 c = record {
  of = λ t x h e. elim c.if-row-w.branch [
    | then-row-w u ↦ c.if-row-w-2.false ∙ other_target t x _ _ (λ p. eqb-false _ _ (sym u.value-is ∙ c.if-row-w-2.false) (ap (λ z. z.target) e ∙ (p ∙ sym (target_is h.words _ c.requires.n_lt_max_rows))))
    | else-row-w u ↦ c.if-row-w-2.false ∙ other_kind t x _ _ (λ p. u.if-row-w.false (ap (λ z. z.kind) e ∙ (p ∙ sym (kind-is h.words _ c.requires.n_lt_max_rows))))
  ];
}
