use mathlib.Core.Path.{refl, sym, ap}
use Rattle.definition.specs.Answer.{got}
use Rattle.definition.specs.Declarator.{parameters_end}
use Rattle.table.specs.Held.{state}
use Rattle.table.specs.Reply.{reply_by}
use Rattle.table.proofs.Branch.{by}
use Rattle.table.proofs.Shown.{next, exit, got! }
use Rattle.declarator_steps.specs.Pending.{step_of}
use Rattle.parameter_entries.proofs.parameters_end.Goals as goal

pub returns-in_err-e : goal.returns-in_err-e
unfolding parameters_end
returns-in_err-e c = record { with = λ ns m next w d v. record { run = λ t h. exit (reply_by step_of) _ ((c.in_err-e.ensures.with ns w d v).run t h) c.from_residual.ensures.1 refl } }

pub returns : goal.returns
unfolding parameters_end
returns c = record {
  with = λ ns m levels w d v. record {
    run = λ t h. next _ ((c.in_ok-e.ensures.with ns w d v).run t h) (λ t₁ h₁. got! h₁);
  };
}
