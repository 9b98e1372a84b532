use borrow.Author.Rules.{rules}
use native.Mathlib.Omega.{arith}
use native.Mathlib.Nat.{lt_of_lt_of_le}
use mathlib.Core.Path.{◌≡◌, refl, sym, ap, ◌∙◌}
use Rattle.table.specs.Reply.{reply_alone}
use Rattle.naming.specs.Meaning.{tokens}
use Rattle.definition.specs.Enumeration.{enumerators_from}
use Rattle.table.proofs.Rounds.{turn}
use Rattle.table.proofs.Shown.{got-at, held_at, next, exit, held_next}
use Rattle.table.proofs.Steps.{inside, there, is+, is-}
use Rattle.encoding.proofs.TokenKinds.{is_kind, no_kind, is_kind!, no_kind! }
use Rattle.encoding.specs.declared.token_kinds.TokenKind.TheVariants.{CloseBrace, Comma}
use Rattle.enumerators.proofs.Turns.{begin, on-past, fewer, again}
use Rattle.definition.specs.Model.{lp64}
use lib.IntN.{suc_ℤ}
use mir.Facts.{to_z-of_z}
use mir.Syntax.{w64}
use mir.Val.{to_z, of_z}
use Rattle.enumerators.proofs.enumerators.Goals as goal

pub overflow_cast-first : goal.overflow_cast-first
overflow_cast-first c = omega (arith, c.requires.held.room.values)

pub loop-next-init : goal.loop-next-init
loop-next-init c = begin _ _ refl c.requires.held.room.values c.requires.held

pub overflow_add-at : goal.overflow_add-at
overflow_add-at c = omega (arith, inside c.args.ts.now.kinds.now c.kind.ensures (omega (arith, (is_kind c.kind.result CloseBrace c.eq.ensures c.if-eq.true))))

pub returns-then-eq : goal.returns-then-eq
unfolding enumerators_from
returns-then-eq c = record { model = λ m. record { run = λ t h. turn (c.loop-next.invariant.going m t h) (λ t₁ f l h₁. is+ _ _ c.kind.ensures (is_kind c.kind.result CloseBrace c.eq.ensures c.if-eq.true) (got-at c.moved.ensures h₁)) } }

pub enumerator-requires : goal.enumerator-requires
enumerator-requires c = record { held = c.loop-next.invariant.held; first_bound = c.loop-next.invariant.few }

pub returns-in_err-e : goal.returns-in_err-e
unfolding enumerators_from
returns-in_err-e c = record { model = λ m. record { run = λ t h. turn (c.loop-next.invariant.going m t h) (λ t₁ f l h₁. is- _ _ c.kind.ensures (no_kind c.kind.result CloseBrace c.eq.ensures c.if-eq.false) (exit reply_alone _ ((c.in_err-e.ensures.model m).run t₁ h₁) c.from_residual.ensures.1 refl)) } }

pub shape_of-w-then-ne : goal.shape_of-w-then-ne
shape_of-w-then-ne c = c.w-1.given ∙ (c.loop-next.invariant.held.long.words ∙ sym c.requires.held.long.words)

pub shape_of-d-then-ne : goal.shape_of-d-then-ne
shape_of-d-then-ne c = c.d-1.given ∙ (c.loop-next.invariant.held.long.wides ∙ sym c.requires.held.long.wides)

pub shape_of-v-then-ne : goal.shape_of-v-then-ne
shape_of-v-then-ne c = c.v-1.given ∙ (c.loop-next.invariant.held.long.signeds ∙ sym c.requires.held.long.signeds)

pub returns-then-ne : goal.returns-then-ne
unfolding enumerators_from
returns-then-ne c = record { model = λ m. record { run = λ t h. turn (c.loop-next.invariant.going m t h) (λ t₁ f l h₁. is- _ _ c.kind.ensures (no_kind c.kind.result CloseBrace c.eq.ensures c.if-eq.false) (next _ ((c.in_ok-e.ensures.model m).run t₁ h₁) (λ t₂ h₂. is- _ _ c.kind-in-loop-next.ensures (no_kind! c.kind-in-loop-next.result Comma c.ne.ensures c.if-ne.true) ((c.past.ensures.with _ _ _ _).run t₂ h₂)))) } }

pub overflow_add-after : goal.overflow_add-after
overflow_add-after c = omega (arith, c.well_formed, inside c.args.ts.now.kinds.now c.kind-in-loop-next.ensures (omega (arith, (is_kind! c.kind-in-loop-next.result Comma c.ne.ensures c.if-ne.false))))

pub loop-next-smaller : goal.loop-next-smaller
loop-next-smaller c = (fewer _ _ c.moved-s.ensures (on-past _ lp64 _ _ _ (c.in_ok-e.ensures.model lp64) c.loop-next.invariant.held refl) (there c.kind-in-loop-next.ensures (is_kind! c.kind-in-loop-next.result Comma c.ne.ensures c.if-ne.false)))

pub loop-next-preserved : goal.loop-next-preserved
unfolding enumerators_from
loop-next-preserved c = record { held = held_at c.moved-s.ensures (held_next (c.in_ok-e.ensures.model lp64) c.loop-next.invariant.held); few = c.loop-next.invariant.few; going = λ m t h. turn (c.loop-next.invariant.going m t h) (λ t₁ f l h₁. is- _ _ c.kind.ensures (no_kind c.kind.result CloseBrace c.eq.ensures c.if-eq.false) (next _ ((c.in_ok-e.ensures.model m).run t₁ h₁) (λ t₂ h₂. is+ _ _ c.kind-in-loop-next.ensures (is_kind! c.kind-in-loop-next.result Comma c.ne.ensures c.if-ne.false) (again (tokens c.args.ts.now) m c.args.room c.args.c.values f _ _ c.in_ok-e.x (c.counted_on-next.ensures ∙ ap suc_ℤ (let k : to_z w64 (of_z w64 c.in_ok-e.x) ≡ c.in_ok-e.x = to_z-of_z {w = w64} (search rules) in k)) c.moved-s.ensures h₂ (lt_of_lt_of_le (fewer _ _ c.moved-s.ensures (on-past _ lp64 _ _ _ (c.in_ok-e.ensures.model lp64) c.loop-next.invariant.held refl) (there c.kind-in-loop-next.ensures (is_kind! c.kind-in-loop-next.result Comma c.ne.ensures c.if-ne.false))) l))))) }
