use native.Mathlib.Omega.{arith}
use Rattle.encoding.proofs.TokenKinds.{is_kind!, no_kind! }
use Rattle.encoding.specs.Kinds.{kind_number}
use Rattle.table.proofs.Passing.{passed, missed}
use Rattle.table.proofs.Steps.{inside}
use Rattle.table.proofs.Cursor.past.Goals as goal

pub returns-then-ne : goal.returns-then-ne
returns-then-ne c = missed (kind_number c.args.mark) c.kind_at.ensures (no_kind! c.kind_at.result c.args.mark c.ne.ensures c.if-ne.true)

pub overflow_add-at : goal.overflow_add-at
overflow_add-at c = omega (arith, inside c.args.kinds.now c.kind_at.ensures (rw (is_kind! c.kind_at.result c.args.mark c.ne.ensures c.if-ne.false) c.requires))

pub returns : goal.returns
returns c = passed (kind_number c.args.mark) c.kind_at.ensures c.moved.result (is_kind! c.kind_at.result c.args.mark c.ne.ensures c.if-ne.false) c.moved.ensures
