use Rattle.std.proofs.Common.{refl}
use Rattle.listing.proofs.Carried.{begins, enough, ended, skipped, listed}
use Rattle.listing.proofs.entry_lines.Goals as goal
use Rattle.listing.proofs.entry_lines.Goals.{then-row_of-row, else-row_of-row}

pub loop-i-init : goal.loop-i-init
loop-i-init g c = begins

pub returns-then-left-eq0 : goal.returns-then-left-eq0
returns-then-left-eq0 g c = enough c.loop-i.invariant c.if-left-eq0.true

pub loop-i-preserved : goal.loop-i-preserved
loop-i-preserved g c =
    elim c.if-row_of-row.branch [
      | then-row_of-row w ↦ rw (w.out-is, w.left-is) (listed c.loop-i.invariant _ _ c.loop-i-test.true c.if-left-eq0.false c.row_of.ensures w.if-row_of-row.true w.put_line.ensures refl)
      | else-row_of-row w ↦ rw (w.out-is, w.left-is) (skipped c.loop-i.invariant c.loop-i-test.true c.row_of.ensures w.if-row_of-row.false)
    ]

pub returns : goal.returns
returns g c = ended c.loop-i.invariant c.loop-i-test.false
