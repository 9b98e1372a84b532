use Rattle.definition.specs.Arithmetic.{times}
use Rattle.arithmetic.proofs.Told.{back, checked}
use Rattle.arithmetic.proofs.mul.Goals as goal

pub returns : goal.returns
unfolding times
returns c = checked _ _ _ c.ok_or.ensures.value (rw (back c.ranges.a, back c.ranges.b) at c.checked_mul.ensures)
