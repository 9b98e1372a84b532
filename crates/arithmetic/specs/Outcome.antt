-- What an operator's outcome means: document 01's number for each case.
use Rattle.std.specs.Prelude.{ℕ, ℤ, Result, Ok, Err}
use Rattle.definition.specs.Answer.{Answer, got, refused}
use Rattle.encoding.specs.Refusals.{number_of}
use Rattle.encoding.specs.declared.refusals.Reason.{Reason}
use Rattle.encoding.specs.declared.refusals.Reason.TheVariants as reasons
use Rattle.arithmetic.specs.declared.ArithmeticError.{ArithmeticError}
use Rattle.arithmetic.specs.declared.ArithmeticError.TheVariants.{OutOfRange, DivisionByZero}

-- the reason of a refusal
abbrev pub reason_of : ArithmeticError → Reason
reason_of OutOfRange = reasons.OutOfRange
reason_of DivisionByZero = reasons.DivisionByZero

-- the value, or the refusal at an offset
unfoldable pub answer : Result ℤ ArithmeticError → ℕ → Answer ℤ
answer (Ok z) at = got z
answer (Err e) at = refused (number_of (reason_of e)) at
