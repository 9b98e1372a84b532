use native.Mathlib.Omega.{arith}
use native.Mathlib.Nat.{lt_of_lt_of_le}
use mathlib.Core.Path.{refl}
use Rattle.table.specs.Reply.{reply_alone}
use Rattle.table.proofs.Rounds.{starts, starts-at, turn}
use Rattle.table.proofs.Shown.{got!, held_at, held_on, next, exit, held_next}
use Rattle.table.proofs.Steps.{there, is+, is-}
use Rattle.definition.specs.Reader.{declarations_from}
use Rattle.parser.specs.Parsing.{model_of}
use Rattle.parser.proofs.Lists.{enough, fewer, fewer-past, here-still}
use Rattle.encoding.proofs.TokenKinds.{is_kind, no_kind, is_kind!, no_kind! }
use Rattle.encoding.specs.declared.token_kinds.TokenKind.TheVariants.{End, Semicolon}
use Rattle.declarations.proofs.Made.{took}
use Rattle.declarations.proofs.declarations.Goals as goal

pub returns-then-eq : goal.returns-then-eq
unfolding declarations_from
returns-then-eq c = record { run = λ t h. turn (c.loop-kind.invariant.going _ (enough _) t h) (λ t₁ f l h₁. is+ _ _ c.kind-kind.ensures (is_kind c.kind-kind.result End c.eq.ensures c.if-eq.true) (got! h₁)) }

pub loop-kind-smaller-then-eq-2 : goal.loop-kind-smaller-then-eq-2
loop-kind-smaller-then-eq-2 c = fewer _ _ c.moved-here.ensures (omega arith) (there c.kind-kind.ensures (is_kind c.kind-kind.result Semicolon c.eq-in-loop-kind.ensures c.if-eq-2.true))

pub loop-kind-preserved-then-eq-2 : goal.loop-kind-preserved-then-eq-2
unfolding declarations_from
loop-kind-preserved-then-eq-2 c = record {
  held = held_at c.moved-here.ensures c.loop-kind.invariant.held;
  going = λ n p t h. turn (c.loop-kind.invariant.going n p t h) (λ t₁ f l h₁. is- _ _ c.kind-kind.ensures (no_kind c.kind-kind.result End c.eq.ensures c.if-eq.false) (is+ _ _ c.kind-kind.ensures (is_kind c.kind-kind.result Semicolon c.eq-in-loop-kind.ensures c.if-eq-2.true)
      (starts-at c.moved-here.ensures h₁ (lt_of_lt_of_le (fewer _ _ c.moved-here.ensures (omega arith) (there c.kind-kind.ensures (is_kind c.kind-kind.result Semicolon c.eq-in-loop-kind.ensures c.if-eq-2.true))) l))));
}

pub returns-in_err-e : goal.returns-in_err-e
unfolding declarations_from
returns-in_err-e c = record { run = λ t h. turn (c.loop-kind.invariant.going _ (enough _) t h) (λ t₁ f l h₁. is- _ _ c.kind-kind.ensures (no_kind c.kind-kind.result End c.eq.ensures c.if-eq.false) (is- _ _ c.kind-kind.ensures (no_kind c.kind-kind.result Semicolon c.eq-in-loop-kind.ensures c.if-eq-2.false) (exit reply_alone _ (c.in_err-e.ensures.run t₁ h₁) c.from_residual.ensures.1 refl))) }

pub returns-in_err-here : goal.returns-in_err-here
unfolding declarations_from
returns-in_err-here c = record {
  run = λ t h. turn (c.loop-kind.invariant.going _ (enough _) t h) (λ t₁ f l h₁. is- _ _ c.kind-kind.ensures (no_kind c.kind-kind.result End c.eq.ensures c.if-eq.false) (is- _ _ c.kind-kind.ensures (no_kind c.kind-kind.result Semicolon c.eq-in-loop-kind.ensures c.if-eq-2.false)
      (next _ (c.in_ok-e.ensures.run t₁ h₁) (λ t₂ h₂. exit reply_alone _ ((c.in_err-here.ensures.with c.args.parser.now.tokens.numbers.now (model_of c.args.parser.now) _ _ _).run t₂ h₂) c.from_residual-in_err-here.ensures.1 refl))));
}

pub loop-kind-smaller : goal.loop-kind-smaller
loop-kind-smaller c = fewer-past (took c.args.parser.now.tokens.numbers.now (model_of c.args.parser.now) c.in_ok-e.ensures c.loop-kind.invariant.held refl c.in_ok-here.ensures refl c.kind-kind.ensures (no_kind c.kind-kind.result End c.eq.ensures c.if-eq.false)) (here-still c.kind-kind.ensures (no_kind c.kind-kind.result End c.eq.ensures c.if-eq.false))

pub loop-kind-preserved : goal.loop-kind-preserved
unfolding declarations_from
loop-kind-preserved c = let past = took c.args.parser.now.tokens.numbers.now (model_of c.args.parser.now) c.in_ok-e.ensures c.loop-kind.invariant.held refl c.in_ok-here.ensures refl c.kind-kind.ensures (no_kind c.kind-kind.result End c.eq.ensures c.if-eq.false) in record {
  held = held_on (c.in_ok-here.ensures.with c.args.parser.now.tokens.numbers.now (model_of c.args.parser.now) _ _ _) (held_next c.in_ok-e.ensures c.loop-kind.invariant.held) refl;
  going = λ n p t h. turn (c.loop-kind.invariant.going n p t h) (λ t₁ f l h₁. is- _ _ c.kind-kind.ensures (no_kind c.kind-kind.result End c.eq.ensures c.if-eq.false) (is- _ _ c.kind-kind.ensures (no_kind c.kind-kind.result Semicolon c.eq-in-loop-kind.ensures c.if-eq-2.false)
      (next _ (c.in_ok-e.ensures.run t₁ h₁) (λ t₂ h₂. next _ ((c.in_ok-here.ensures.with c.args.parser.now.tokens.numbers.now (model_of c.args.parser.now) _ _ _).run t₂ h₂)
      (λ t₃ h₃. starts h₃ (lt_of_lt_of_le (fewer-past past (here-still c.kind-kind.ensures (no_kind c.kind-kind.result End c.eq.ensures c.if-eq.false))) l))))));
}
