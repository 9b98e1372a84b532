use mathlib.Core.Path.{◌∙◌}
use Rattle.table.proofs.value_bound.Goals as goal

pub returns : goal.returns
returns c = c.at.ensures ∙ rw c.name_slot.ensures.0
