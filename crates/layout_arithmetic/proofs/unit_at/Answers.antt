use native.Mathlib.Omega.{arith}
use mathlib.Core.Path.{sym}
use Prim.Native.Nat.{max, ◌/◌}
use native.Mathlib.Nat.{div-mul-le_self}
use Rattle.layout_arithmetic.proofs.RoundUp.{unit_in_parts}
use Rattle.layout_arithmetic.proofs.unit_at.Goals as goal

pub overflow_mul-result : goal.overflow_mul-result
overflow_mul-result c = omega (arith, div-mul-le_self (c.args.bit / 8) c.max-unit.result)

pub returns : goal.returns
returns c = rw c.max-unit.ensures (sym (unit_in_parts c.args.bit 8 (max c.args.size 1) (omega arith)))
