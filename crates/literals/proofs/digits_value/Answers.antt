use mathlib.Core.Path.{ap, ◌∙◌}
use Rattle.definition.specs.Number.{digit_value}
use Rattle.literals.proofs.Digits.{digits_more}
use Rattle.literals.proofs.Capped.{digits-next}
use Rattle.literals.proofs.digits_value.Goals as goal

pub loop-b-preserved : goal.loop-b-preserved
loop-b-preserved c = let e = c.in-Some.ensures.value ∙ ap digit_value c.from.ensures in record {
  digits = digits_more _ c.args.digits.now c.loop-b.b-index c.loop-b-test.true c.loop-b.invariant.digits (rw e at c.if-d-base.true);
  value = digits-next _ c.args.digits.now c.loop-b.b-index c.loop-b-test.true c.if-d-base.true (rw (c.from-in-Some.ensures, c.from-in-Some-2.ensures) at c.add_digit-v.ensures) e c.loop-b.invariant.value;
}
