use Rattle.std.proofs.Common.{arith}
use Rattle.listing.proofs.Under.{all_left, none_left, left_after, held_by}
use Rattle.listing.proofs.Rows.{next-declaration, no_more_declarations}
use Rattle.listing.proofs.decl_lines.Goals as goal

pub loop-i-init : goal.loop-i-init
loop-i-init c = all_left

pub loop-i-preserved : goal.loop-i-preserved
loop-i-preserved c = left_after c.loop-i.invariant (λ t h. next-declaration _ t c.loop-i.i (omega (arith, h.1, c.loop-i-test.true))) (held_by c.decl_line.ensures (λ t h. h.0))

pub returns : goal.returns
returns c = none_left c.loop-i.invariant (λ t h. no_more_declarations _ t c.loop-i.i (omega (arith, h.1, c.loop-i-test.false)))
