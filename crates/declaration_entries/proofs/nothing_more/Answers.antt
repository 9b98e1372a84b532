use mathlib.Core.Path.{refl}
use Rattle.definition.specs.Reader.{nothing_more}
use Rattle.encoding.specs.declared.token_kinds.TokenKind.TheVariants.{End}
use Rattle.encoding.proofs.TokenKinds.{is_kind, no_kind}
use Rattle.table.proofs.Shown.{got!, no! }
use Rattle.table.proofs.Steps.{is+, is-}
use Rattle.declaration_entries.proofs.nothing_more.Goals as goal

pub returns-then-eq : goal.returns-then-eq
unfolding nothing_more
returns-then-eq c = record { with = λ ns m w d v. record { run = λ t h. is+ _ _ c.kind_at.ensures (is_kind c.kind_at.result End c.eq.ensures c.if-eq.true) (got! h) } }

pub returns : goal.returns
unfolding nothing_more
returns c = record { with = λ ns m w d v. record { run = λ t h. is- _ _ c.kind_at.ensures (no_kind c.kind_at.result End c.eq.ensures c.if-eq.false) (no! h refl) } }
