use native.Mathlib.Omega.{arith}
use Rattle.layout_arithmetic.specs.Outcome.{laid_of}
use Rattle.layout_arithmetic.proofs.Told.{is_number, is-small, is-over}
use Rattle.layout_arithmetic.proofs.Members.{plain_at, plain_out}
use Rattle.layout_arithmetic.proofs.Laid.plain_member.Goals as goal

pub returns-in_err-offset : goal.returns-in_err-offset
returns-in_err-offset c = λ e. rw c.from_residual.ensures (plain_out e c.args.align (laid_of c.args.self) c.args.size (omega (arith, is-over c.next_place.ensures c.in_err-offset.was)))

pub returns-in_err-end : goal.returns-in_err-end
returns-in_err-end c = λ e. rw c.from_residual-in_err-end.ensures (plain_out e c.args.align (laid_of c.args.self) c.args.size (omega (arith, is_number c.next_place.ensures c.in_ok-offset.was, is-over c.end_of.ensures c.in_err-end.was)))

pub returns : goal.returns
returns c = λ e. plain_at e c.args.align (laid_of c.args.self) _ _ _ _ (is_number c.next_place.ensures c.in_ok-offset.was) (is_number c.end_of.ensures c.in_ok-end.was) (omega (arith, is_number c.end_of.ensures c.in_ok-end.was, is-small c.end_of.ensures c.in_ok-end.was)) c.advanced.ensures
