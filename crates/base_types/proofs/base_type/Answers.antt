use mathlib.Core.Path.{refl}
use Rattle.definition.specs.Specifiers.{base_type}
use Rattle.table.specs.Reply.{reply}
use Rattle.table.proofs.Shown.{next, exit}
use Rattle.base_types.proofs.base_type.Goals as goal

pub returns-in_err-e : goal.returns-in_err-e
unfolding base_type
returns-in_err-e c = record { run = λ t h. exit reply _ (c.in_err-e.ensures.run t h) c.from_residual.ensures.1 refl }

pub returns : goal.returns
unfolding base_type
returns c = record { run = λ t h. next _ (c.in_ok-e.ensures.run t h) c.qualify.ensures.run }
