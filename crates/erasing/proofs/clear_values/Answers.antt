use native.Mathlib.Omega.{arith}
use borrow.Author.Rules.{rules}
use lib.IntN.{pos}
use Rattle.erasing.proofs.Blanks.{emptied}
use Rattle.erasing.proofs.clear_values.Goals as goal

pub returns : goal.returns
returns c = (emptied 0 _ _ _ _ _ _ (c.fill.ensures.after (search rules)) (omega arith) (omega arith) (λ s. omega arith), emptied (pos 0) 0 c.entries-values.result _ _ c.args.v.now _ (c.fill-2.ensures.after (search rules)) (omega arith) (omega arith) (λ s. omega arith))
