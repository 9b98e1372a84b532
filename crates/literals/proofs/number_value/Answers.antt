use mathlib.Core.Path.{sym}
use lib.Seq.{length-take-le}
use Rattle.literals.proofs.Digits.{body_bound}
use Rattle.literals.proofs.number_value.Goals as goal

pub slice_bounds-body_value-end : goal.slice_bounds-body_value-end
slice_bounds-body_value-end c = sym (length-take-le _ _ (rw c.body_length-n.ensures (body_bound _)))
