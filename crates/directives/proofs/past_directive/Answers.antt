use mathlib.Core.Path.{ap, sym, ◌∙◌}
use Rattle.definition.specs.Answer.{got}
use Rattle.lemmas.proofs.Branch.{yes, nay}
use Rattle.directives.proofs.past_directive.Goals as goal

pub returns-then-line-clause-value : goal.returns-then-line-clause-value
returns-then-line-clause-value c = sym (yes _ _ _ (sym c.directive-line.ensures.keeps ∙ c.if-line.true))

pub returns-clause-value : goal.returns-clause-value
returns-clause-value c = ap got c.directive-line.ensures.next ∙ sym (nay _ _ _ (sym c.directive-line.ensures.keeps ∙ c.if-line.false))
