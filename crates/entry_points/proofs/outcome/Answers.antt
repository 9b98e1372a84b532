use Rattle.entry_points.proofs.Walked.{walkable}
use Rattle.entry_points.proofs.outcome.Goals as goal

pub outcome_in_zeros-requires : goal.outcome_in_zeros-requires
outcome_in_zeros-requires c = record { of = _; is = c.clear.ensures }

pub returns : goal.returns
returns c = record { v_after = c.outcome_in_zeros.ensures.answers.run _ c.clear.ensures; walkable = walkable _ _ _ _ }
