use native.Mathlib.Omega.{arith}
use mathlib.Core.Path.{◌≡◌, sym, ap, ◌∙◌}
use Prim.Native.Nat.{◌-◌, ◌^◌}
use lib.IntN.{pos, negsuc, nat_abs}
use mir.Syntax.{w64}
use mir.Val.{of_z}
use Rattle.definition.specs.Arithmetic.{times, count, shift_left}
use Rattle.arithmetic.proofs.Signs.{product-zero, shift_past}
use Rattle.arithmetic.proofs.Bitwise.{the_zero, minus_one}
use Rattle.arithmetic.proofs.Told.{value, back, beyond, power}
use Rattle.arithmetic.proofs.shl.Goals as goal
use Rattle.arithmetic.proofs.shl.Goals.{else-a-eqminus1-via-then-a-eqminus1+else-n-eq-SIGN_PLACE, else-a-eqminus1-via-else-a-eqminus1}

pub returns-then-n-lt-SIGN_PLACE : goal.returns-then-n-lt-SIGN_PLACE
unfolding shift_left times
returns-then-n-lt-SIGN_PLACE c =
    let e = rw (back c.ranges.b) at c.shift_count-n.ensures in
    rw (← e) (rw (back c.ranges.a, power w64 c.shift_count-n.result c.if-n-lt-SIGN_PLACE.true) at c.mul.ensures)

pub returns-then-a-eq0 : goal.returns-then-a-eq0
unfolding shift_left
returns-then-a-eq0 c = rw (product-zero c.args.a (pos (2 ^ count c.args.b)) (ap nat_abs (the_zero c.ranges.a c.if-a-eq0.true))) (value (pos 0) (omega arith))

pub returns-then-n-eq-SIGN_PLACE : goal.returns-then-n-eq-SIGN_PLACE
unfolding shift_left
returns-then-n-eq-SIGN_PLACE c =
    let e : count c.args.b ≡ 63 = sym (rw (back c.ranges.b) at c.shift_count-n.ensures) ∙ c.if-n-eq-SIGN_PLACE.true in
    rw (e, minus_one c.ranges.a c.if-a-eqminus1.true) (value (negsuc (2 ^ 63 - 1)) (omega arith))

pub returns : goal.returns
unfolding shift_left
returns c =
    let e = rw (back c.ranges.b) at c.shift_count-n.ensures in
    let past = λ (m : c.args.a ≡ negsuc 0 → count c.args.b ≡ 63 → ⊥). shift_past 63 (count c.args.b) c.args.a (λ z. c.if-a-eq0.false (ap (of_z w64) z)) m (omega (arith, e, c.if-n-lt-SIGN_PLACE.false)) in
    elim c.else-a-eqminus1.branch [
      | else-a-eqminus1-via-then-a-eqminus1+else-n-eq-SIGN_PLACE w ↦ beyond (record { past = past (λ _ n. w.if-n-eq-SIGN_PLACE.false (e ∙ n)) })
      | else-a-eqminus1-via-else-a-eqminus1 w ↦ beyond (record { past = past (λ m _. w.if-a-eqminus1.false (ap (of_z w64) m)) })
    ]
