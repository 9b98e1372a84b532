use Rattle.std.proofs.Common.{rules}
use Rattle.definition.specs.Directive.{ends_word}
use Rattle.scan.proofs.word_end.Goals as goal

pub returns : goal.returns
unfolding ends_word
returns c = c.end_of.ensures ends_word (λ b t bs k. search rules)
