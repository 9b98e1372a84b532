use mathlib.Core.Path.{refl}
use Rattle.definition.specs.Enumeration.{close_enum, define_enum}
use Rattle.table.specs.Reply.{reply}
use Rattle.table.proofs.Branch.{eq+, eq-}
use Rattle.table.proofs.Shown.{got!, next, exit}
use Rattle.enumeration.proofs.close_enum.Goals as goal

pub returns-then-name-eq-NO_NAME : goal.returns-then-name-eq-NO_NAME
unfolding close_enum
returns-then-name-eq-NO_NAME c = record { run = λ t h. eq+ _ _ _ _ c.if-name-eq-NO_NAME.true (c.add_enum.ensures.run t h) }

pub returns-in_err-e : goal.returns-in_err-e
unfolding close_enum
returns-in_err-e c = record { run = λ t h. eq- _ _ _ _ c.if-name-eq-NO_NAME.false (exit reply _ (c.in_err-e.ensures.run t h) c.from_residual.ensures.1 refl) }

pub returns : goal.returns
unfolding close_enum define_enum
returns c = record { run = λ t h. eq- _ _ _ _ c.if-name-eq-NO_NAME.false (next _ (c.in_ok-e.ensures.run t h) (λ t₁ h₁. got! (c.define_enum.ensures.run t₁ h₁))) }
