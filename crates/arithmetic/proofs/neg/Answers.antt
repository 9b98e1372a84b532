use Rattle.arithmetic.proofs.Told.{back, checked}
use Rattle.arithmetic.proofs.neg.Goals as goal

pub returns : goal.returns
returns c = checked _ _ _ c.ok_or.ensures.value (rw (back c.ranges.a) at c.checked_neg.ensures)
