use mathlib.Core.Path.{refl}
use Rattle.table.specs.Reply.{reply_alone}
use Rattle.table.proofs.Shown.{next, exit}
use Rattle.declaration_entries.specs.Pieces.{added_declaration}
use Rattle.declaration_entries.proofs.add_declaration.Goals as goal

pub returns : goal.returns
unfolding added_declaration
returns c = record { run = λ t h. next _ (c.in_ok-e.ensures.run t h) c.declare.ensures.run }

pub returns-in_err-e : goal.returns-in_err-e
unfolding added_declaration
returns-in_err-e c = record { run = λ t h. exit reply_alone _ (c.in_err-e.ensures.run t h) c.from_residual.ensures.1 refl }
