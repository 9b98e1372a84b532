use Rattle.definition.specs.Arithmetic.{difference}
use Rattle.arithmetic.proofs.Told.{back, checked}
use Rattle.arithmetic.proofs.sub.Goals as goal

pub returns : goal.returns
unfolding difference
returns c = checked _ _ _ c.ok_or.ensures.value (rw (back c.ranges.a, back c.ranges.b) at c.checked_sub.ensures)
