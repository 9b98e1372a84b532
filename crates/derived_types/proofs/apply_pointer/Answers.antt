use mathlib.Core.Path.{refl}
use Rattle.definition.specs.Declarator.{apply}
use Rattle.table.specs.Reply.{reply}
use Rattle.table.proofs.Branch.{by}
use Rattle.table.proofs.Shown.{next, exit}
use Rattle.derived_types.proofs.Derived.{one_more}
use Rattle.derived_types.proofs.apply_pointer.Goals as goal

pub returns-in_err-e : goal.returns-in_err-e
unfolding apply
returns-in_err-e c = record { run = λ t h. exit reply _ (c.in_err-e.ensures.run t h) c.from_residual.ensures.1 refl }

pub returns : goal.returns
unfolding apply
returns c = record { run = λ t h. next _ (c.in_ok-e.ensures.run t h) (λ t₁ h₁. by (one_more _) (c.qualify.ensures.run t₁ h₁)) }
