use Rattle.std.proofs.Common.{rules}
use Rattle.definition.specs.Number.{ends_number}
use Rattle.scan.proofs.number_end.Goals as goal

pub returns : goal.returns
unfolding ends_number
returns c = c.end_of.ensures ends_number (λ b t bs k. search rules)
