use Rattle.std.proofs.Common.{arith}
use Rattle.printing.proofs.Writing.{stored, counted_on}
use Rattle.printing.proofs.place_byte.Goals as goal

pub returns-then-at-buffer : goal.returns-then-at-buffer
returns-then-at-buffer c = stored _ _ _ (omega arith) (omega arith)

pub returns : goal.returns
returns c = counted_on _ _ _ (omega arith) c.saturating_add.ensures c.if-at-buffer.false
