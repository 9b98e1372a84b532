use native.Mathlib.Omega.{arith}
use Rattle.open_lists.proofs.Changed.{hit, miss, ends}
use Rattle.open_lists.proofs.rerow.Goals as goal
use Rattle.open_lists.proofs.rerow.Goals.{then-carries, else-carries}

pub loop-i-init : goal.loop-i-init
loop-i-init g c = λ w' p. p

pub loop-i-preserved : goal.loop-i-preserved
loop-i-preserved g c = elim c.if-carries.branch [
  | then-carries w ↦ λ w' p. c.loop-i.invariant w' (hit g.E.Entries.kind c.args.old c.args.row (omega (arith, c.count-i-end.ensures, c.loop-i-test.true)) w.if-carries.ensures w.set_row.ensures (rw w.w-is at p))
  | else-carries w ↦ λ w' p. c.loop-i.invariant w' (miss g.E.Entries.kind c.args.old c.args.row (omega (arith, c.count-i-end.ensures, c.loop-i-test.true)) w.if-carries.ensures (rw w.w-is at p))
]

pub returns : goal.returns
returns g c = c.loop-i.invariant _ (ends g.E.Entries.kind c.args.old c.args.row (omega (arith, c.count-i-end.ensures, c.loop-i-test.false)))
