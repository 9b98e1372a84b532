use native.Mathlib.Omega.{arith}
use Rattle.layout_arithmetic.specs.Outcome.{laid_of}
use Rattle.layout_arithmetic.proofs.Told.{is_number, is-small, is-over}
use Rattle.layout_arithmetic.proofs.Members.{zero-at, zero-out}
use Rattle.layout_arithmetic.proofs.Laid.zero_field.Goals as goal

pub returns-in_err-offset : goal.returns-in_err-offset
returns-in_err-offset c = λ e. rw c.from_residual.ensures (zero-out e c.args.align (laid_of c.args.self) (omega (arith, is-over c.next_place.ensures c.in_err-offset.was)))

pub returns-in_err-bit : goal.returns-in_err-bit
returns-in_err-bit c = λ e. rw c.from_residual-in_err-bit.ensures (zero-out e c.args.align (laid_of c.args.self) (omega (arith, is_number c.next_place.ensures c.in_ok-offset.was, is-over c.end_of.ensures c.in_err-bit.was)))

pub returns : goal.returns
returns c = λ e. zero-at e c.args.align (laid_of c.args.self) _ _ _ (is_number c.next_place.ensures c.in_ok-offset.was) (is_number c.end_of.ensures c.in_ok-bit.was) (omega (arith, is_number c.end_of.ensures c.in_ok-bit.was, is-small c.end_of.ensures c.in_ok-bit.was)) c.advanced.ensures
