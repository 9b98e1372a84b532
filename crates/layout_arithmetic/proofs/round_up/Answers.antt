use mathlib.Core.Path.{refl, sym}
use native.Mathlib.Omega.{arith}
use Prim.Native.Nat.{◌^◌, max}
use Rattle.definition.specs.Layout.{within}
use Rattle.layout_arithmetic.proofs.RoundUp.{round_whole, round-on}
use Rattle.layout_arithmetic.proofs.Told.{checked}
use Rattle.layout_arithmetic.proofs.round_up.Goals as goal

pub returns-then-past-eq0 : goal.returns-then-past-eq0
unfolding within
returns-then-past-eq0 c = checked (2 ^ 64) _ (sym (round_whole c.args.v (max c.args.k 1) (omega arith) (rw c.max-step.ensures at c.if-past-eq0.true))) (omega arith, refl)

pub returns : goal.returns
unfolding within
returns c = checked (2 ^ 64) _ (sym (round-on c.args.v (max c.args.k 1) (omega arith) (rw c.max-step.ensures at c.if-past-eq0.false))) (rw c.max-step.ensures at c.checked_add.ensures)
