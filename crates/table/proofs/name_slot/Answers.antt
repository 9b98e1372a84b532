use mathlib.Core.Path.{refl}
use Rattle.table.specs.Held.{half_of}
use Rattle.table.proofs.Index.{half-below}
use Rattle.table.proofs.name_slot.Goals as goal

pub returns : goal.returns
unfolding half_of
returns c = (refl, half-below _)
