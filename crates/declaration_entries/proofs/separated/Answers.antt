use native.Mathlib.Omega.{arith}
use mathlib.Core.Path.{◌∙◌}
use borrow.Author.Tests.{ne_eqb}
use Rattle.definition.specs.Reader.{separated}
use Rattle.encoding.specs.declared.token_kinds.TokenKind.TheVariants.{End}
use Rattle.encoding.proofs.TokenKinds.{is_kind, no_kind}
use Rattle.table.proofs.Branch.{by}
use Rattle.table.proofs.Shown.{got! }
use Rattle.table.proofs.Steps.{is+, is-}
use Rattle.declaration_entries.proofs.Semicolon.{separated-is}
use Rattle.declaration_entries.proofs.separated.Goals as goal

pub returns-then-eq : goal.returns-then-eq
unfolding separated
returns-then-eq c =
    let e = is_kind c.kind_at.result End c.eq.ensures c.if-eq.true in
    record { with = λ ns m w d v. record { run = λ t h. is- _ _ c.kind_at.ensures (λ z. omega (arith, e, z)) (is+ _ _ c.kind_at.ensures e (got! h)) } }

pub returns : goal.returns
returns c =
    let e = no_kind c.kind_at.result End c.eq.ensures c.if-eq.false in
    record { with = λ ns m w d v. record { run = λ t h. by (separated-is _ m _ (ne_eqb _ _ (λ z. e (c.kind_at.ensures.is ∙ z)))) ((c.past.ensures.with ns w d v).run t h) } }
