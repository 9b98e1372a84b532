use Rattle.table.proofs.Widths.{width-read}
use Rattle.table.proofs.member_width.Goals as goal

pub returns : goal.returns
returns c = record { of = λ t h. width-read _ _ (c.member_word.ensures.of t h) c.checked_sub.ensures }
