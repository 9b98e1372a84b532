use Rattle.std.proofs.Common.{rules}
use Rattle.definition.specs.Comment.{ends_line, line_length}
use Rattle.scan.proofs.line_end.Goals as goal

pub returns : goal.returns
unfolding ends_line line_length
returns c = c.end_of.ensures ends_line (λ b t bs k. search rules)
