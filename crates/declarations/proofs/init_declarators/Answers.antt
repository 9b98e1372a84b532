use native.Mathlib.Nat.{lt_of_lt_of_le}
use mathlib.Core.Path.{refl}
use Rattle.table.specs.Reply.{reply_alone}
use Rattle.table.proofs.Rounds.{starts-at, turn}
use Rattle.table.proofs.Shown.{got!, held_at, next, exit, held_next}
use Rattle.table.proofs.Steps.{there, is+, is-}
use Rattle.definition.specs.Reader.{init_declarators}
use Rattle.definition_laws.proofs.Progress.{init_declarator-on}
use Rattle.parser.proofs.Goes.{moves-on}
use Rattle.parser.proofs.Lists.{fewer}
use Rattle.encoding.proofs.TokenKinds.{is_kind, no_kind, is_kind!, no_kind! }
use Rattle.encoding.specs.declared.token_kinds.TokenKind.TheVariants.{Comma}
use Rattle.declarations.proofs.init_declarators.Goals as goal

pub returns-in_err-e : goal.returns-in_err-e
unfolding init_declarators
returns-in_err-e c = record { rounds = λ n p. record { run = λ t₁ h. turn (c.loop-e.invariant.going n p t₁ h) (λ t₂ f l h₂. exit reply_alone _ (c.in_err-e.ensures.run t₂ h₂) c.from_residual.ensures.1 refl) } }

pub returns-then-ne : goal.returns-then-ne
unfolding init_declarators
returns-then-ne c = record { rounds = λ n p. record { run = λ t₁ h. turn (c.loop-e.invariant.going n p t₁ h) (λ t₂ f l h₂. next _ (c.in_ok-e.ensures.run t₂ h₂) (λ t₃ h₃. is- _ _ c.kind.ensures (no_kind! c.kind.result Comma c.ne.ensures c.if-ne.true) (got! h₃))) } }

pub loop-e-smaller : goal.loop-e-smaller
loop-e-smaller c = fewer _ _ c.moved-here.ensures (moves-on c.in_ok-e.ensures c.loop-e.invariant.held refl (init_declarator-on _ _ _ _)) (there c.kind.ensures (is_kind! c.kind.result Comma c.ne.ensures c.if-ne.false))

pub loop-e-preserved : goal.loop-e-preserved
unfolding init_declarators
loop-e-preserved c = record {
  held = held_at c.moved-here.ensures (held_next c.in_ok-e.ensures c.loop-e.invariant.held);
  going = λ n p t₁ h. turn (c.loop-e.invariant.going n p t₁ h) (λ t₂ f l h₂. next _ (c.in_ok-e.ensures.run t₂ h₂) (λ t₃ h₃. is+ _ _ c.kind.ensures (is_kind! c.kind.result Comma c.ne.ensures c.if-ne.false)
      (starts-at c.moved-here.ensures h₃ (lt_of_lt_of_le (fewer _ _ c.moved-here.ensures (moves-on c.in_ok-e.ensures c.loop-e.invariant.held refl (init_declarator-on _ _ _ _)) (there c.kind.ensures (is_kind! c.kind.result Comma c.ne.ensures c.if-ne.false))) l))));
}
