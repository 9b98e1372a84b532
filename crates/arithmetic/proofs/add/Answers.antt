use Rattle.definition.specs.Arithmetic.{sum}
use Rattle.arithmetic.proofs.Told.{back, checked}
use Rattle.arithmetic.proofs.add.Goals as goal

pub returns : goal.returns
unfolding sum
returns c = checked _ _ _ c.ok_or.ensures.value (rw (back c.ranges.a, back c.ranges.b) at c.checked_add.ensures)
