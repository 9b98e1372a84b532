use Rattle.std.proofs.Common.{sym, ap, ◌∙◌, [], ◌∷◌}
use Rattle.printing.proofs.Writing.{in_place, then_there}
use Rattle.printing.proofs.Digits.{one-digit, two_digits, two_more}
use Rattle.printing.proofs.+place_digits.Goals as goal
use Rattle.printing.proofs.+place_digits.Goals.{then-x-ge-HUNDRED, else-x-ge-HUNDRED}

pub returns-then-x-lt-TEN : goal.returns-then-x-lt-TEN
returns-then-x-lt-TEN t c = in_place c.place_byte.ensures (ap (λ b. b ∷ []) c.digit.ensures ∙ sym (one-digit _ c.if-x-lt-TEN.true))

pub returns : goal.returns
returns t c =
    let tens = rw c.digit-2.ensures at c.place_byte-last.ensures in
    let ones = rw c.digit-3.ensures at c.place_byte-2.ensures in
    elim c.if-x-ge-HUNDRED.branch [
      | then-x-ge-HUNDRED w ↦ in_place (then_there (then_there w.place_digits-last.ensures (rw (w.buffer-is, w.last-is) at tens)) ones) (sym (two_more _ w.if-x-ge-HUNDRED.true))
      | else-x-ge-HUNDRED w ↦ in_place (then_there (rw (w.buffer-is, w.last-is) at tens) ones) (sym (two_digits _ c.if-x-lt-TEN.false w.if-x-ge-HUNDRED.false))
    ]
