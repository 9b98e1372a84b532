use mathlib.Core.Path.{◌∙◌}
use Rattle.scan.proofs.Going.{tail_part}
use Rattle.attributes.proofs.Within.{starts-is}
use Rattle.attributes.proofs.starts_with.Goals as goal

pub returns : goal.returns
returns c = rw tail_part at c.starts_with.ensures.value ∙ starts-is _ _
