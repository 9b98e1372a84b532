use Rattle.std.proofs.Common.{rules}
use Rattle.literals.proofs.Digits.{body-last, body-none}
use Rattle.literals.proofs.body_length.Goals as goal

pub returns-in-Some : goal.returns-in-Some
returns-in-Some c = body-last c.args.word.now c.in-Some.last (search rules) (search rules) (λ k h l. search rules)

pub returns-in-None : goal.returns-in-None
returns-in-None c = body-none c.args.word.now (λ k h. search rules)
