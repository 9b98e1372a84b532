use native.Mathlib.Omega.{arith}
use mathlib.Core.Path.{◌≡◌, ap}
use Prim.Native.Nat.{◌-◌}
use Rattle.declarator_steps.specs.Pending.{pending, released}
use Rattle.declarator_steps.proofs.Views.{releases, all-released}
use Rattle.declarator_steps.proofs.Steps.release_stars.Goals as goal

pub loop-init : goal.loop-init
loop-init c = let e : c.args.n ≡ c.args.n - 0 = omega arith in record { sofar = omega arith; stars = omega arith; apart = omega arith; kinds-long = omega arith; operands_long = omega arith; same = ap (λ m. released m (pending c.args.self.now)) e }

pub loop-preserved : goal.loop-preserved
loop-preserved c = releases c.args.n c.loop.counter c.args.self.now c.loop.self c.loop.invariant c.loop-test.true

pub returns : goal.returns
returns c = all-released c.args.n c.loop.counter c.args.self.now c.loop.self c.loop.invariant c.loop-test.false
