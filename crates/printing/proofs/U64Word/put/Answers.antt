use Rattle.std.proofs.Common.{sym, ap, ◌∙◌, [], ◌∷◌}
use Rattle.printing.proofs.Writing.{as_is}
use Rattle.printing.proofs.Digits.{one-digit}
use Rattle.printing.proofs.U64Word.put.Goals as goal

pub returns-then-self-lt-TEN : goal.returns-then-self-lt-TEN
returns-then-self-lt-TEN c = as_is c.put_byte.ensures (ap (λ b. b ∷ []) c.digit.ensures ∙ sym (one-digit _ c.if-self-lt-TEN.true))
