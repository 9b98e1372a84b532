use mathlib.Core.Path.{refl}
use Rattle.definition.specs.Table.{mark_of}
use Rattle.table.specs.Reply.{reply_alone}
use Rattle.table.proofs.Shown.{got!, next, exit}
use Rattle.fields.proofs.push_field.Goals as goal

pub returns : goal.returns
unfolding mark_of
returns c = λ q. record { run = λ t h. next _ ((c.in_ok-e.ensures q).run t h) (λ t₁ h₁. got! h₁) }

pub returns-in_err-e : goal.returns-in_err-e
unfolding mark_of
returns-in_err-e c = λ q. record { run = λ t h. exit reply_alone _ ((c.in_err-e.ensures q).run t h) c.from_residual.ensures.1 refl }
