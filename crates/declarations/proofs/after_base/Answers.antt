use mathlib.Core.Path.{refl, sym, ◌∙◌}
use Rattle.table.proofs.Branch.{yes!, nay! }
use Rattle.table.proofs.Shown.{no! }
use Rattle.declarations.specs.Pieces.{after_base}
use Rattle.encoding.proofs.TokenKinds.{is_kind, no_kind, is_kind!, no_kind! }
use Rattle.encoding.specs.declared.token_kinds.TokenKind.TheVariants.{Semicolon, End}
use Rattle.declarations.proofs.Made.{ends_type, goes_on}
use mathlib.Core.Logic.{inl, inr}
use Rattle.declarations.proofs.after_base.Goals as goal
use Rattle.declarations.proofs.after_base.Goals.{then-eq-via-then-eq, then-eq-via-else-eq+then-eq-2}

pub returns-then-is_typedef : goal.returns-then-is_typedef
unfolding after_base
returns-then-is_typedef c = record { rounds = λ f p. record { run = λ t h. yes! _ _ _ (ends_type c.kind-kind.ensures (elim c.then-eq.branch [ then-eq-via-then-eq w ↦ inl (is_kind c.kind-kind.result Semicolon c.eq.ensures w.if-eq.true) | then-eq-via-else-eq+then-eq-2 w ↦ inr (no_kind c.kind-kind.result Semicolon c.eq.ensures w.if-eq.false, is_kind c.kind-kind.result End w.eq-else-eq.ensures w.if-eq-2.true) ])) (yes! _ _ _ (sym c.is_typedef.ensures ∙ c.if-is_typedef.true) (no! h refl)) } }

pub returns-then-eq : goal.returns-then-eq
unfolding after_base
returns-then-eq c = record { rounds = λ f p. record { run = λ t h. yes! _ _ _ (ends_type c.kind-kind.ensures (elim c.then-eq.branch [ then-eq-via-then-eq w ↦ inl (is_kind c.kind-kind.result Semicolon c.eq.ensures w.if-eq.true) | then-eq-via-else-eq+then-eq-2 w ↦ inr (no_kind c.kind-kind.result Semicolon c.eq.ensures w.if-eq.false, is_kind c.kind-kind.result End w.eq-else-eq.ensures w.if-eq-2.true) ])) (nay! _ _ _ (sym c.is_typedef.ensures ∙ c.if-is_typedef.false) (c.declare.ensures.run t h)) } }

pub returns : goal.returns
unfolding after_base
returns c = record { rounds = λ f p. record { run = λ t h. nay! _ _ _ (goes_on c.kind-kind.ensures (no_kind c.kind-kind.result Semicolon c.eq.ensures c.if-eq.false) (no_kind c.kind-kind.result End c.eq-else-eq.ensures c.if-eq-2.false)) ((c.init_declarators.ensures.rounds f p).run t h) } }
