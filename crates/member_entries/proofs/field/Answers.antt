use mathlib.Core.Path.{refl}
use Rattle.table.specs.Reply.{reply_alone}
use Rattle.definition.specs.Model.{lp64}
use Rattle.table.proofs.Branch.{eq+, nay! }
use Rattle.table.proofs.Shown.{no!, next, exit, held_next}
use Rattle.member_entries.specs.Pieces.{field}
use Rattle.member_entries.proofs.Ends.{named}
use Rattle.member_entries.proofs.field.Goals as goal

pub returns-in_err-e : goal.returns-in_err-e
unfolding field
returns-in_err-e c = λ m. record { run = λ t h. exit reply_alone _ (((rw c.in_err-e.was at c.bit_width-read.ensures.reads).with m _).run t h) c.from_residual.ensures.1 refl }

pub returns-then-name-eq-NO_NAME : goal.returns-then-name-eq-NO_NAME
unfolding field
returns-then-name-eq-NO_NAME c = λ m. record { run = λ t h. next _ (((rw c.in_ok-e.was at c.bit_width-read.ensures.reads).with m _).run t h) (λ t₁ h₁. rw c.if-not-unnamed.true (eq+ _ _ _ _ c.if-name-eq-NO_NAME.true (no! h₁ refl))) }

pub push_field-requires : goal.push_field-requires
push_field-requires c = (held_next ((rw c.in_ok-e.was at c.bit_width-read.ensures.reads).with lp64 _) c.requires.0, c.requires.1)

pub returns : goal.returns
unfolding field
returns c = λ m. record { run = λ t h. next _ (((rw c.in_ok-e.was at c.bit_width-read.ensures.reads).with m _).run t h) (λ t₁ h₁. nay! _ _ _ (named c.else-not-unnamed.either) ((c.push_field.ensures (rw c.in_ok-e.was at c.bit_width-read.ensures.fits)).run t₁ h₁)) }
