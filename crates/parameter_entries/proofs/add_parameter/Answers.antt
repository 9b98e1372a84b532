use mathlib.Core.Path.{refl}
use Rattle.definition.specs.Table.{mark_of}
use Rattle.table.specs.Reply.{reply}
use Rattle.table.proofs.Shown.{next, exit, held_next}
use Rattle.parameter_entries.specs.Parameters.{added_parameter}
use Rattle.parameter_entries.proofs.add_parameter.Goals as goal

pub returns-in_err-e : goal.returns-in_err-e
unfolding added_parameter
returns-in_err-e c = record { run = λ t h. exit reply _ (c.in_err-e.ensures.run t h) c.from_residual.ensures.1 refl }

pub push_parameter-requires : goal.push_parameter-requires
push_parameter-requires c = held_next c.in_ok-e.ensures c.requires.held

pub returns : goal.returns
unfolding added_parameter mark_of
returns c = record { run = λ t h. next _ (c.in_ok-e.ensures.run t h) (λ t₁ h₁. c.push_parameter.ensures.run t₁ h₁) }
