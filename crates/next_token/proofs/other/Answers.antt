use native.Mathlib.Omega.{arith}
use mathlib.Core.Path.{sym, ◌∙◌}
use Rattle.scan.proofs.Going.{begins-inside}
use Rattle.next_token.proofs.Steps.{note_on}
use Rattle.next_token.proofs.other.Goals as goal

pub returns-then-begins-2-clause-goes : goal.returns-then-begins-2-clause-goes
returns-then-begins-2-clause-goes c = let n = note_on c.args.text.now c.args.at (sym c.begins-2.ensures ∙ c.if-begins-2.true) in omega (arith, c.line_end.ensures, n)

pub comment-requires : goal.comment-requires
comment-requires c = begins-inside 47 42 c.args.text.now c.args.at (omega arith) (sym c.begins-3.ensures ∙ c.if-begins-3.true)
