use borrow.Author.Rules.{rules}
use Rattle.arithmetic.proofs.Told.{converted}
use Rattle.arithmetic.proofs.literal.Goals as goal

pub returns : goal.returns
returns c = search (rules, converted)
