use Rattle.std.proofs.Common.{rules, arith}
use Rattle.attributes.proofs.Parens.{parens-end, opens, other, last_closes, closes}
use Rattle.attributes.proofs.parens_end.Goals as goal
use Rattle.attributes.proofs.parens_end.Goals.{in-40, in-41-2, in_default}

pub returns-in-41 : goal.returns-in-41
returns-in-41 c = let e = last_closes c.from-rest.result.now c.loop-i.i c.loop-i-test.true c.loop-i.deep c.in-41.is c.if-deep-eq0.true in rw (← c.from-rest.ensures) (omega arith)

pub loop-i-preserved : goal.loop-i-preserved
loop-i-preserved c = elim c.match-b.branch [
  | in-40 w ↦ rw w.deep-is (record { few = omega arith; rest = (let e = opens c.from-rest.result.now c.loop-i.i c.loop-i-test.true c.loop-i.deep w.in-40.is in omega arith) })
  | in-41-2 w ↦ rw w.deep-is (record { few = omega arith; rest = (let e = closes c.from-rest.result.now c.loop-i.i c.loop-i-test.true c.loop-i.deep w.in-41.is w.if-deep-eq0.false in omega arith) })
  | in_default w ↦ rw w.deep-is (record { few = omega arith; rest = (let e = other c.from-rest.result.now c.loop-i.i c.loop-i-test.true c.loop-i.deep (search rules) (search rules) in omega arith) })
]

pub returns : goal.returns
returns c = let e = parens-end c.from-rest.result.now c.loop-i.i c.loop-i.deep c.loop-i-test.false in rw (← c.from-rest.ensures) (omega arith)
