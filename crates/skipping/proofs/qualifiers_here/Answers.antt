use native.Mathlib.Omega.{arith}
use mathlib.Core.Path.{sym, ap, ◌∙◌}
use Prim.Native.Nat.{◌+◌}
use Rattle.encoding.specs.Kinds.{kind_numbers}
use Rattle.words.specs.Meaning.{qualifiers}
use Rattle.skipping.specs.Passing.{standing}
use Rattle.skipping.proofs.Rounds.{all-from, kind-read, qualifiers-stop, qualifiers-end, qualifiers-on}
use Rattle.skipping.proofs.qualifiers_here.Goals as goal

pub returns-then-not-qualifies : goal.returns-then-not-qualifies
returns-then-not-qualifies c = λ ns t. c.loop-i.invariant ns t
    ∙ qualifiers-stop (kind_numbers c.args.kinds.now) ns t (c.args.at + c.loop-i.i) _ _ (kind-read c.args.kinds.now c.args.at c.from-rest.ensures c.loop-i.i c.index-rest-i.is c.loop-i-test.true) (sym c.if-not-qualifies.ensures)

pub loop-i-preserved : goal.loop-i-preserved
loop-i-preserved c = λ ns t. c.loop-i.invariant ns t
    ∙ rw c.with_qualifier-q.ensures (qualifiers-on (kind_numbers c.args.kinds.now) ns t (c.args.at + c.loop-i.i) _ (omega (arith, all-from c.args.kinds.now c.args.at c.from-rest.ensures)) (kind-read c.args.kinds.now c.args.at c.from-rest.ensures c.loop-i.i c.index-rest-i.is c.loop-i-test.true) (omega arith) (sym c.if-not-qualifies.ensures))

pub returns : goal.returns
returns c = λ ns t. c.loop-i.invariant ns t
    ∙ qualifiers-end (kind_numbers c.args.kinds.now) ns t (c.args.at + c.loop-i.i) _ _ (omega (arith, all-from c.args.kinds.now c.args.at c.from-rest.ensures))
    ∙ ap (λ i. (qualifiers c.loop-i.q, standing (c.args.at + i) t)) (omega arith)
