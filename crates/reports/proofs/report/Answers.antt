use Rattle.std.proofs.Common.{rules}
use Rattle.entry_points.specs.Answers.{entry_of}
use Rattle.reports.proofs.Outcomes.{left_as}
use Rattle.reports.proofs.report.Goals as goal

pub put_outcome-requires : goal.put_outcome-requires
put_outcome-requires c = record { of = _; entry = entry_of c.args.entry; is = c.outcome-read.ensures.v_after }

pub returns-clause-wrote : goal.returns-clause-wrote
returns-clause-wrote c = let w = (c.put_outcome.ensures.of _ (entry_of c.args.entry) c.outcome-read.ensures.v_after).wrote in search rules

pub returns-clause-signeds_after : goal.returns-clause-signeds_after
returns-clause-signeds_after c = left_as _ _ (entry_of c.args.entry) _ _ _ _ _ c.outcome-read.ensures.v_after
