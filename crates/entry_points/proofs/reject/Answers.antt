use Rattle.entry_points.proofs.Telling.{reject_is}
use Rattle.entry_points.proofs.reject.Goals as goal

pub returns : goal.returns
returns c = reject_is _ _ _ _ c.line_column-spot.ensures
