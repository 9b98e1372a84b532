use Rattle.size_align.proofs.Reading.{all_words, all_wides, reads}
use Rattle.size_align.proofs.align_of.Goals as goal

pub returns-in_default : goal.returns-in_default
returns-in_default c = record { of = λ t h g e. absurd (all_words h c.in_default.ensures.1) }

pub returns-in_default-try_from : goal.returns-in_default-try_from
returns-in_default-try_from c = record { of = λ t h g e. absurd (all_wides g c.in_default-try_from.ensures.1) }

pub returns : goal.returns
returns c = record { of = λ t h g e. c.align_within.ensures.of _ t (reads _ h g c.in-Ok.ensures.1.same c.in-Ok-try_from.ensures.1.same c.max-most.ensures c.capped-pointer.ensures e) }
