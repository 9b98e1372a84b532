use mathlib.Core.Path.{refl}
use Rattle.definition.specs.Reader.{declare}
use Rattle.table.specs.Reply.{reply_alone}
use Rattle.table.proofs.Shown.{got!, next, exit}
use Rattle.declaration_entries.proofs.declare.Goals as goal

pub returns : goal.returns
unfolding declare
returns c = record { run = λ t h. next _ (c.in_ok-e.ensures.run t h) (λ t₁ h₁. got! h₁) }

pub returns-in_err-e : goal.returns-in_err-e
unfolding declare
returns-in_err-e c = record { run = λ t h. exit reply_alone _ (c.in_err-e.ensures.run t h) c.from_residual.ensures.1 refl }
