use native.Mathlib.Omega.{arith}
use Rattle.table.proofs.Index.{note_none, note_new}
use Rattle.table.proofs.note_row.Goals as goal

pub returns-then-name-eq0 : goal.returns-then-name-eq0
returns-then-name-eq0 c = note_none _ _ _ c.if-name-eq0.true

pub returns : goal.returns
returns c = note_new _ _ _ _ _ c.lowered.ensures (omega (arith, (rw c.from.ensures at c.name_slot-at.ensures).0))
