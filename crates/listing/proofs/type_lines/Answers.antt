use Rattle.std.proofs.Common.{arith}
use Rattle.listing.proofs.Under.{all_left, none_left, left_after, held_by, both}
use Rattle.listing.proofs.Rows.{next_row, no_more_rows}
use Rattle.listing.proofs.type_lines.Goals as goal

pub loop-row-init : goal.loop-row-init
loop-row-init c = all_left

pub loop-row-preserved : goal.loop-row-preserved
loop-row-preserved c =
    left_after c.loop-row.invariant
    (λ t h. next_row _ _ t c.loop-row.row (omega (arith, h.counts.rows, c.loop-row-test.true)))
    (both
    (held_by c.type_line.ensures (λ t h. (h.words, h.wides, h.counts.members)))
    c.sub_lines.ensures)

pub returns : goal.returns
returns c = none_left c.loop-row.invariant (λ t h. no_more_rows _ _ t c.loop-row.row (omega (arith, h.counts.rows, c.loop-row-test.false)))
