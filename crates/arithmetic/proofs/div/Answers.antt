use native.Mathlib.Omega.{arith}
use mathlib.Core.Path.{sym, ap, ◌∙◌}
use Rattle.definition.specs.Range.{exact}
use Rattle.arithmetic.proofs.Bitwise.{is-zero, not_zero}
use Rattle.arithmetic.proofs.Told.{back, checked, given, undefined, over_none, over-some}
use Rattle.arithmetic.proofs.div.Goals as goal

pub returns-then-b-eq0 : goal.returns-then-b-eq0
returns-then-b-eq0 c = undefined ∙ ap exact (sym (over_none c.args.a c.args.b (is-zero c.ranges.b c.if-b-eq0.true)))

pub returns : goal.returns
returns c =
    checked _ _ _ c.ok_or.ensures.value (given _ _ _ _ (omega (arith, c.if-b-eq0.false)) (rw (back c.ranges.a, back c.ranges.b) at c.checked_div.ensures))
    ∙ ap exact (sym (over-some c.args.a c.args.b (not_zero c.ranges.b c.if-b-eq0.false)))
