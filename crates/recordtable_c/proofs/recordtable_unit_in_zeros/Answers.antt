use borrow.Author.Rules.{rules}
use Rattle.recordtable_c.proofs.Numbers.{exported}
use Rattle.recordtable_c.proofs.recordtable_unit_in_zeros.Goals as goal

pub returns : goal.returns
returns c = let all = exported _ _ _ _ _ _ _ _ _ c.outcome_in_zeros-outcome.ensures.v_after (c.tell.ensures.value, c.tell.ensures.answer_after) in record { value = all.0; answer_after = all.1.0; signeds_after = all.1.1 }
