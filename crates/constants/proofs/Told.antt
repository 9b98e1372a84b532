-- An operator's number as an answer. Assumes nothing.
use Rattle.std.specs.Prelude.{◌≡◌, ℕ, ℤ, Result, Ok, Err, MatchResult, IsErrAnd}
use Rattle.encoding.specs.Refusals.{answer}
use Rattle.encoding.specs.declared.refusals.Refusal.{Refusal}
use Rattle.arithmetic.specs.Outcome as arithmetic
use Rattle.arithmetic.specs.declared.ArithmeticError.{ArithmeticError}

pub told : (n : Result ℤ ArithmeticError) (at : ℕ) (r : Result ℤ Refusal) → MatchResult n (λ x. r ≡ Ok x) (λ e. IsErrAnd r (λ d. d ≡ record { reason = arithmetic.reason_of e; at = at }))
    → answer r ≡ arithmetic.answer n at
unfolding arithmetic.answer
told (Ok z) at r e = rw e
told (Err e) at (Ok z) m = absurd m
told (Err e) at (Err d) m = rw m
