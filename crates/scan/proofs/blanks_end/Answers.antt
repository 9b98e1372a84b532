use Rattle.std.proofs.Common.{rules}
use Rattle.definition.specs.Attribute.{not_blank}
use Rattle.scan.proofs.blanks_end.Goals as goal

pub returns : goal.returns
unfolding not_blank
returns c = c.end_of.ensures not_blank (λ b t bs k. search rules)
