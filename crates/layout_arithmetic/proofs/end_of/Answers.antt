use native.Mathlib.Omega.{arith}
use mathlib.Core.Path.{refl}
use Rattle.std.specs.Prelude.{None}
use Prim.Native.Nat.{◌^◌, ◌+◌, ◌*◌}
use Rattle.definition.specs.Layout.{within}
use Rattle.layout_arithmetic.proofs.Told.{checked}
use Rattle.layout_arithmetic.proofs.end_of.Goals as goal

pub returns-in_err-checked_add : goal.returns-in_err-checked_add
unfolding within
returns-in_err-checked_add c = let n = c.in_err-checked_add.ensures in rw c.from_residual.ensures (checked (2 ^ 64) {x = 8 * (c.args.place + c.args.size)} None refl (λ p. n (omega arith)))

pub returns : goal.returns
unfolding within
returns c = checked (2 ^ 64) _ (omega (arith, c.in_ok-checked_add.ensures)) c.checked_mul.ensures
