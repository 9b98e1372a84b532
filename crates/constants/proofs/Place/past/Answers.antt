use native.Mathlib.Omega.{arith}
use mathlib.Core.Path.{sym, ◌∙◌}
use Rattle.definition.specs.Token.{need}
use Rattle.encoding.proofs.TokenKinds.{is_kind!, no_kind! }
use Rattle.lemmas.proofs.Branch.{eq_yes, eq_no}
use Rattle.table.proofs.Steps.{inside}
use Rattle.constants.proofs.Place.past.Goals as goal

pub returns-then-ne : goal.returns-then-ne
unfolding need
returns-then-ne c = λ ns. sym (eq_no _ _ _ _ (λ z. no_kind! c.kind.result c.args.mark c.ne.ensures c.if-ne.true (c.kind.ensures.is ∙ z)))

pub next-requires : goal.next-requires
next-requires c = omega (arith, inside c.args.kinds.now c.kind.ensures (rw (is_kind! c.kind.result c.args.mark c.ne.ensures c.if-ne.false) c.requires))

pub returns : goal.returns
unfolding need
returns c = λ ns. rw c.next.ensures (sym (eq_yes _ _ _ _ (sym c.kind.ensures.is ∙ is_kind! c.kind.result c.args.mark c.ne.ensures c.if-ne.false)))
