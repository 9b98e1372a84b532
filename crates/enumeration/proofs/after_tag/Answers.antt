use native.Mathlib.Omega.{arith}
use mathlib.Core.Path.{refl, ap}
use Rattle.definition.specs.Enumeration.{after_tag}
use Rattle.encoding.specs.Kinds.{kind_number}
use Rattle.encoding.specs.declared.token_kinds.TokenKind.TheVariants.{Colon, OpenBrace}
use Rattle.table.proofs.Shown.{no!, step-on, held_at}
use Rattle.table.proofs.Steps.{is+, is-}
use Rattle.enumeration.proofs.Enums.{another}
use Rattle.enumeration.proofs.after_tag.Goals as goal

pub returns-in-Colon : goal.returns-in-Colon
unfolding after_tag
returns-in-Colon c = record { run = λ t h. is+ _ _ c.kind.ensures (ap kind_number c.in-Colon.is) (no! h refl) }

pub enum_body-requires : goal.enum_body-requires
enum_body-requires c = held_at c.moved.ensures c.requires

pub returns-in-OpenBrace : goal.returns-in-OpenBrace
unfolding after_tag
returns-in-OpenBrace c = record { run = λ t h. is- _ _ c.kind.ensures (λ z. omega (arith, ap kind_number c.in-OpenBrace.is)) (is+ _ _ c.kind.ensures (ap kind_number c.in-OpenBrace.is) (step-on c.moved.ensures c.enum_body.ensures h)) }

pub returns-in_default : goal.returns-in_default
unfolding after_tag
returns-in_default c = record { run = λ t h. is- _ _ c.kind.ensures (another c.kind.result Colon c.in_default.not-Colon) (is- _ _ c.kind.ensures (another c.kind.result OpenBrace c.in_default.not-OpenBrace) (c.bare_enum.ensures.run t h)) }
