use native.Mathlib.Omega.{arith}
use mathlib.Core.Path.{refl}
use Rattle.table.proofs.Index.{top_old, top_new}
use Rattle.table.proofs.note_top.Goals as goal

pub returns-then-w-end : goal.returns-then-w-end
returns-then-w-end c = top_new _ _ refl _ (omega (arith, (rw c.from.ensures at c.name_slot.ensures).0)) c.if-w-end.true

pub returns-else-w-end : goal.returns-else-w-end
returns-else-w-end c = top_old _ _ refl (omega (arith, (rw c.from.ensures at c.name_slot.ensures).0, c.if-w-end.false))
