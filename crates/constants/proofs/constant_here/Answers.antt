use borrow.Author.Rules.{rules}
use mathlib.Core.Path.{refl}
use mir.Syntax.{w64}
use mir.Val.{SFits}
use Rattle.arithmetic.proofs.Told.{back}
use Rattle.constants.proofs.Enumerators.{refused-here, done-here}
use Rattle.constants.proofs.constant_here.Goals as goal

pub returns-in_err-t : goal.returns-in_err-t
returns-in_err-t c = record { of = λ d. record { run = λ t h. refused-here _ h c.in_err-t.ensures _ _ refl c.from_residual.ensures.1 } }

pub returns : goal.returns
returns c =
    let f : SFits w64 c.in_ok-t.z = search rules in
    rw (back f) (record { of = λ d. record { run = λ t h. done-here _ h c.in_ok-t.ensures refl c.moved.ensures } })
