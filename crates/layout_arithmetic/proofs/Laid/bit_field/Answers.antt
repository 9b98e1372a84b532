use native.Mathlib.Omega.{arith}
use mathlib.Core.Path.{ap, ◌∙◌}
use Prim.Native.Nat.{max, ◌*◌}
use Rattle.definition.specs.Layout.{field_at}
use Rattle.layout_arithmetic.specs.Outcome.{laid_of}
use Rattle.layout_arithmetic.proofs.RoundUp.{unit_past}
use Rattle.layout_arithmetic.proofs.Told.{is_number, is-small, is-over}
use Rattle.layout_arithmetic.proofs.Members.{start-bits, unit-end, unit_out, stays, moves, start-out}
use Rattle.layout_arithmetic.proofs.Laid.bit_field.Goals as goal

pub returns-in_err-unit_end : goal.returns-in_err-unit_end
returns-in_err-unit_end c = λ e.
    let u = unit-end _ c.args.self.taken c.args.size c.unit_at-unit.ensures c.max.ensures c.end_of.ensures in
    rw c.from_residual.ensures (unit_out e c.args.align (laid_of c.args.self) c.args.width c.args.size (is-over u c.in_err-unit_end.was))

pub overflow_sub-unit_end : goal.overflow_sub-unit_end
overflow_sub-unit_end c =
    let u = unit-end _ c.args.self.taken c.args.size c.unit_at-unit.ensures c.max.ensures c.end_of.ensures in
    omega (arith, unit_past c.args.self.taken 8 (max c.args.size 1) (omega arith) (omega arith), is_number u c.in_ok-unit_end.was)

pub returns-then-width-unit_end : goal.returns-then-width-unit_end
returns-then-width-unit_end c = λ e.
    let u = unit-end _ c.args.self.taken c.args.size c.unit_at-unit.ensures c.max.ensures c.end_of.ensures in
    stays e c.args.align (laid_of c.args.self) c.args.width c.args.size (is-small u c.in_ok-unit_end.was)
    (omega (arith, unit_past c.args.self.taken 8 (max c.args.size 1) (omega arith) (omega arith), is_number u c.in_ok-unit_end.was, c.if-width-unit_end.true))
    (c.field_at.ensures e (8 * max c.args.size 1) c.unit_at-unit.ensures)

pub returns-in_err-place : goal.returns-in_err-place
returns-in_err-place c = λ e.
    let u = unit-end _ c.args.self.taken c.args.size c.unit_at-unit.ensures c.max.ensures c.end_of.ensures in
    rw c.from_residual-in_err-place.ensures
    (moves e c.args.align (laid_of c.args.self) c.args.width c.args.size (is-small u c.in_ok-unit_end.was) (omega (arith, is_number u c.in_ok-unit_end.was, c.if-width-unit_end.false))
    (start-out e c.args.align (laid_of c.args.self) c.args.width c.args.size (omega (arith, is-over c.next_place.ensures c.in_err-place.was))))

pub returns-in_err-first : goal.returns-in_err-first
returns-in_err-first c = λ e.
    let u = unit-end _ c.args.self.taken c.args.size c.unit_at-unit.ensures c.max.ensures c.end_of.ensures in
    rw c.from_residual-in_err-first.ensures
    (moves e c.args.align (laid_of c.args.self) c.args.width c.args.size (is-small u c.in_ok-unit_end.was) (omega (arith, is_number u c.in_ok-unit_end.was, c.if-width-unit_end.false))
    (start-out e c.args.align (laid_of c.args.self) c.args.width c.args.size (omega (arith, is_number c.next_place.ensures c.in_ok-place.was, is-over c.end_of-2.ensures c.in_err-first.was))))

pub returns : goal.returns
returns c = λ e.
    let u = unit-end _ c.args.self.taken c.args.size c.unit_at-unit.ensures c.max.ensures c.end_of.ensures in
    moves e c.args.align (laid_of c.args.self) c.args.width c.args.size (is-small u c.in_ok-unit_end.was) (omega (arith, is_number u c.in_ok-unit_end.was, c.if-width-unit_end.false))
    (c.field_at-2.ensures e (8 * max c.args.size 1) c.unit_at.ensures
    ∙ ap (λ b. field_at e c.args.width (8 * max c.args.size 1) (max c.args.align 1) (laid_of c.args.self) b)
    (omega (arith, start-bits e c.args.align (laid_of c.args.self), is_number c.next_place.ensures c.in_ok-place.was, is_number c.end_of-2.ensures c.in_ok-first.was)))
