use native.Mathlib.Omega.{arith}
use mathlib.Core.Path.{sym}
use Rattle.scan.proofs.Going.{begins-inside}
use Rattle.directives.proofs.Lines.{starts, line-ends, line_joins, line_comment, line_note, line-feed, line_byte, comment_on, line_on}
use Rattle.directives.proofs.read_line.Goals as goal

pub loop-i-init : goal.loop-i-init
loop-i-init c = record { on = omega arith; inside = omega (arith, c.requires); turning = starts c.args.text.now _ c.requires }

pub loop-i-preserved-then-begins : goal.loop-i-preserved-then-begins
loop-i-preserved-then-begins c =
    let k = begins-inside 92 10 c.args.text.now c.loop-i.i (omega arith) (sym c.if-begins.ensures) in
    record { on = omega arith; inside = k; turning = line_joins c.args.text.now c.loop-i.i _ c.loop-i.invariant.turning c.loop-i-test.true _ (sym c.if-begins.ensures) k c.turn-state.ensures }

pub past_comment-i-requires : goal.past_comment-i-requires
past_comment-i-requires c = begins-inside 47 42 c.args.text.now c.loop-i.i (omega arith) (sym c.if-begins-2.ensures)

pub loop-i-smaller-then-begins-2 : goal.loop-i-smaller-then-begins-2
loop-i-smaller-then-begins-2 c = let k = comment_on c.args.text.now c.loop-i.i _ (sym c.if-begins-2.ensures) c.past_comment-i.ensures in omega arith

pub loop-i-preserved-then-begins-2 : goal.loop-i-preserved-then-begins-2
loop-i-preserved-then-begins-2 c =
    let k = comment_on c.args.text.now c.loop-i.i _ (sym c.if-begins-2.ensures) c.past_comment-i.ensures in
    record { on = omega arith; inside = k.1; turning = line_comment c.args.text.now c.loop-i.i _ c.loop-i.invariant.turning c.loop-i-test.true (sym c.if-begins.ensures) _ _ (sym c.if-begins-2.ensures) k.0 c.past_comment-i.ensures k.1 c.turn-state-then-begins-2.ensures }

pub loop-i-smaller-then-begins-3 : goal.loop-i-smaller-then-begins-3
loop-i-smaller-then-begins-3 c = let k = line_on c.args.text.now c.loop-i.i _ (sym c.if-begins-3.ensures) c.line_end-i.ensures in omega arith

pub loop-i-preserved-then-begins-3 : goal.loop-i-preserved-then-begins-3
loop-i-preserved-then-begins-3 c =
    let k = line_on c.args.text.now c.loop-i.i _ (sym c.if-begins-3.ensures) c.line_end-i.ensures in
    record { on = omega arith; inside = k.1; turning = line_note c.args.text.now c.loop-i.i _ c.loop-i.invariant.turning c.loop-i-test.true (sym c.if-begins.ensures) (sym c.if-begins-2.ensures) _ (sym c.if-begins-3.ensures) k.0 c.line_end-i.ensures }

pub loop-i-preserved : goal.loop-i-preserved
loop-i-preserved c = record { on = omega arith; inside = omega (arith, c.loop-i-test.true); turning = line_byte c.args.text.now c.loop-i.i _ c.loop-i.invariant.turning c.loop-i-test.true (sym c.if-begins.ensures) (sym c.if-begins-2.ensures) (sym c.if-begins-3.ensures) _ c.if-b-eq10.false c.turn-state-else-begins-3.ensures }

pub returns-after-loop-i : goal.returns-after-loop-i
returns-after-loop-i c =
    let q = line-ends c.args.text.now c.loop-i.i _ c.loop-i.invariant.turning c.loop-i-test.false in
    record { keeps = q.0; next = q.1; on = c.loop-i.invariant.on; inside = c.loop-i.invariant.inside }

pub returns-then-b-eq10 : goal.returns-then-b-eq10
returns-then-b-eq10 c =
    let q = line-feed c.args.text.now c.loop-i.i _ c.loop-i.invariant.turning c.loop-i-test.true (sym c.if-begins.ensures) (sym c.if-begins-2.ensures) (sym c.if-begins-3.ensures) c.if-b-eq10.true in
    record { keeps = q.0; next = q.1; on = c.loop-i.invariant.on; inside = c.loop-i.invariant.inside }
