use Rattle.std.proofs.Common.{ap, ◌∙◌, [], ◌∷◌, ◌++◌}
use Rattle.arithmetic.proofs.Told.{back}
use Rattle.definition.specs.Listing.{decimal}
use Rattle.printing.proofs.Writing.{as_is, then}
use Rattle.printing.proofs.Digits.{not_negative, negative}
use Rattle.printing.proofs.I64Word.put.Goals as goal
use Rattle.printing.proofs.I64Word.put.Goals.{then-self-lt0, else-self-lt0}

pub returns : goal.returns
returns c =
    let x = rw (back c.ranges.self) at c.magnitude.ensures in
    elim c.if-self-lt0.branch [
      | then-self-lt0 w ↦ as_is (then w.put_byte.ensures (rw w.out-is at c.put.ensures)) (ap (λ m. (45 ∷ []) ++ decimal m) x ∙ negative _ (rw (back c.ranges.self) at w.if-self-lt0.true))
      | else-self-lt0 w ↦ as_is (rw w.out-is at c.put.ensures) (ap decimal x ∙ not_negative _ (rw (back c.ranges.self) at w.if-self-lt0.false))
    ]
