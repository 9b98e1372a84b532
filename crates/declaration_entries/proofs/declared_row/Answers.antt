use mathlib.Core.Path.{sym}
use Rattle.definition.specs.Reader.{declared_row}
use Rattle.table.proofs.Branch.{yes!, nay! }
use Rattle.table.proofs.Shown.{got! }
use Rattle.declaration_entries.proofs.declared_row.Goals as goal

pub returns-then-is_typedef : goal.returns-then-is_typedef
unfolding declared_row
returns-then-is_typedef c = record { run = λ t h. yes! _ _ _ (sym c.if-is_typedef.ensures) (c.define_typedef.ensures.run t h) }

pub returns : goal.returns
unfolding declared_row
returns c = record { run = λ t h. nay! _ _ _ (sym c.if-is_typedef.ensures) (got! h) }
