use Rattle.std.proofs.Common.{refl, arith, ◌∙◌}
use Rattle.definition.specs.Place.{after_all, place_of}
use Rattle.scan.proofs.Going.{next-line, next-column, place_end}
use Rattle.scan.proofs.line_column.Goals as goal
use Rattle.scan.proofs.line_column.Goals.{then-b-eq10, else-b-eq10}

pub loop-b-init : goal.loop-b-init
unfolding place_of after_all
loop-b-init c = record { few = omega arith; positive = omega arith; there = refl }

pub loop-b-preserved : goal.loop-b-preserved
loop-b-preserved c =
    elim c.if-b-eq10.branch [
      | then-b-eq10 w ↦ rw (w.line-is, w.column-is) (record { few = omega arith; positive = omega arith; there = next-line _ _ c.loop-b-test.true _ _ c.loop-b.invariant.there cc })
      | else-b-eq10 w ↦ rw (w.line-is, w.column-is) (record { few = omega arith; positive = omega arith; there = next-column _ _ c.loop-b-test.true _ _ c.loop-b.invariant.there w.if-b-eq10.false })
    ]

pub returns : goal.returns
returns c = c.loop-b.invariant.there ∙ place_end _ _ _ _ c.min.ensures c.loop-b-test.false
