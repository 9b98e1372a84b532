use borrow.Author.Rules.{sfits_of}
use native.Mathlib.Omega.{arith}
use mathlib.Core.Path.{sym, ap, ◌∙◌}
use lib.Signed.{mag_rem}
use Rattle.definition.specs.Range.{exact}
use Rattle.arithmetic.proofs.Bitwise.{is-zero, not_zero}
use Rattle.arithmetic.proofs.Told.{back, made, undefined, rest-none, rest_some}
use Rattle.arithmetic.proofs.rem.Goals as goal

pub returns-then-b-eq0 : goal.returns-then-b-eq0
returns-then-b-eq0 c = undefined ∙ ap exact (sym (rest-none c.args.a c.args.b (is-zero c.ranges.b c.if-b-eq0.true)))

pub returns : goal.returns
returns c =
    rw (c.wrapping_rem.ensures, back c.ranges.a, back c.ranges.b) (made (sfits_of (omega (arith, c.ranges.a.sfits, mag_rem c.args.a c.args.b))))
    ∙ ap exact (sym (rest_some c.args.a c.args.b (not_zero c.ranges.b c.if-b-eq0.false)))
