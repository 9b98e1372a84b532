use native.Mathlib.Omega.{arith}
use Rattle.erasing.proofs.Ends.{erased, erased-none}
use Rattle.erasing.proofs.clear_left.Goals as goal

pub returns-then-w-ne-WORDS : goal.returns-then-w-ne-WORDS
returns-then-w-ne-WORDS c = erased-none (λ l. omega (arith, l.words, l.wides, l.signeds, c.then-w-ne-WORDS.either))

pub returns : goal.returns
returns c = erased c.clear_rows.ensures c.clear_members.ensures c.clear_values.ensures c.clear_rest.ensures
