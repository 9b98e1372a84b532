use native.Mathlib.Omega.{arith}
use mathlib.Core.Path.{◌≡◌, refl}
use borrow.Author.Rules.{rules}
use mir.Val.{SFits}
use mir.Syntax.{w64}
use mir.Facts.{to_z-of_z}
use Rattle.table.specs.Reply.{reply_by}
use Rattle.lemmas.specs.Options.{option}
use Rattle.definition.specs.Composite.{bit_width, width_of}
use Rattle.definition.specs.Answer.{refused}
use Rattle.definition.specs.Refusal.{bad_width}
use Rattle.table.proofs.Branch.{via, halt}
use Rattle.table.proofs.Shown.{got!, no!, step-on, room_at, next, exit}
use Rattle.table.proofs.Steps.{is+, is-}
use Rattle.encoding.proofs.TokenKinds.{is_kind!, no_kind! }
use Rattle.encoding.specs.declared.token_kinds.TokenKind.TheVariants.{Colon}
use Rattle.bounds_widths.proofs.Signs.{size, small, width_in_lem, width-below, width_above}
use Rattle.bounds_widths.proofs.bit_width.Goals as goal
use Rattle.bounds_widths.proofs.bit_width.Goals.{then-z-lt0-via-then-z-lt0, then-z-lt0-via-else-z-lt0+then-z-gt-WIDEST}

pub returns-then-ne-clause-reads : goal.returns-then-ne-clause-reads
unfolding bit_width
returns-then-ne-clause-reads c = record { with = λ m d. record { run = λ t h. is- _ _ c.kind_at.ensures (no_kind! c.kind_at.result Colon c.ne.ensures c.if-ne.true) (got! h) } }

pub constant_here-requires : goal.constant_here-requires
constant_here-requires c = room_at c.moved.ensures c.requires

pub returns-then-z-lt0-clause-reads : goal.returns-then-z-lt0-clause-reads
unfolding bit_width
returns-then-z-lt0-clause-reads c = let f : SFits w64 c.in_ok-e.z = search rules in
    let n = elim c.then-z-lt0.branch as (λ _. width_of c.in_ok-e.z c.args.at ≡ refused bad_width c.args.at) [
      | then-z-lt0-via-then-z-lt0 w ↦ width-below c.in_ok-e.z _ (rw (to_z-of_z f) at w.if-z-lt0.true)
      | then-z-lt0-via-else-z-lt0+then-z-gt-WIDEST w ↦ width_above c.in_ok-e.z _ (rw (to_z-of_z f) at w.if-z-gt-WIDEST.true)
    ] in
    record { with = λ m d. record { run = λ t h. is+ _ _ c.kind_at.ensures (is_kind! c.kind_at.result Colon c.ne.ensures c.if-ne.false) (next _ (step-on c.moved.ensures (c.in_ok-e.ensures.with m d) h) (λ t₁ h₁. halt _ n (no! h₁ refl))) } }

pub overflow_cast-result : goal.overflow_cast-result
overflow_cast-result c = let f : SFits w64 c.in_ok-e.z = search rules in let p = rw (to_z-of_z f) at c.if-z-lt0.false in let q = rw (to_z-of_z f) at c.if-z-gt-WIDEST.false in
    rw (to_z-of_z f) ((size c.in_ok-e.z p).0, record { fits = omega (arith, small c.in_ok-e.z p q) })

pub returns-clause-reads : goal.returns-clause-reads
unfolding bit_width
returns-clause-reads c = let f : SFits w64 c.in_ok-e.z = search rules in let p = rw (to_z-of_z f) at c.if-z-lt0.false in let q = rw (to_z-of_z f) at c.if-z-gt-WIDEST.false in
    rw (to_z-of_z f) (record { with = λ m d. record { run = λ t h. is+ _ _ c.kind_at.ensures (is_kind! c.kind_at.result Colon c.ne.ensures c.if-ne.false) (next _ (step-on c.moved.ensures (c.in_ok-e.ensures.with m d) h) (λ t₁ h₁. via _ (width_in_lem c.in_ok-e.z _ p q) (got! h₁))) } })

pub returns-clause-fits : goal.returns-clause-fits
returns-clause-fits c = let f : SFits w64 c.in_ok-e.z = search rules in let p = rw (to_z-of_z f) at c.if-z-lt0.false in let q = rw (to_z-of_z f) at c.if-z-gt-WIDEST.false in
    rw (to_z-of_z f) (omega (arith, small c.in_ok-e.z p q))

pub returns-in_err-e-clause-reads : goal.returns-in_err-e-clause-reads
unfolding bit_width
returns-in_err-e-clause-reads c = record { with = λ m d. record { run = λ t h. is+ _ _ c.kind_at.ensures (is_kind! c.kind_at.result Colon c.ne.ensures c.if-ne.false) (exit (reply_by option) _ (step-on c.moved.ensures (c.in_err-e.ensures.with m d) h) c.from_residual.ensures.1 refl) } }
