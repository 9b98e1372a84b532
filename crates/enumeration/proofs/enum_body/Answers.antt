use native.Mathlib.Omega.{arith}
use mathlib.Core.Path.{refl}
use Rattle.definition.specs.Model.{lp64}
use Rattle.definition.specs.Enumeration.{enum_body}
use Rattle.table.specs.Reply.{reply}
use Rattle.table.proofs.Shown.{next, exit, held_next}
use Rattle.enumeration.proofs.Enums.{more-values, closes}
use Rattle.enumeration.proofs.enum_body.Goals as goal

pub overflow_sub-count : goal.overflow_sub-count
overflow_sub-count c = omega (arith, more-values _ lp64 _ (c.in_ok-e.ensures.model lp64) c.requires refl)

pub overflow_cast-count : goal.overflow_cast-count
overflow_cast-count c = omega (arith, (held_next (c.in_ok-e.ensures.model lp64) c.requires).room.values)

pub close_enum-requires : goal.close_enum-requires
close_enum-requires c = record { held = held_next (c.in_ok-e.ensures.model lp64) c.requires; first_bound = c.requires.room.values }

pub returns-in_err-e : goal.returns-in_err-e
unfolding enum_body
returns-in_err-e c = record { run = λ t h. exit reply _ ((c.in_err-e.ensures.model _).run t h) c.from_residual.ensures.1 refl }

pub returns : goal.returns
unfolding enum_body
returns c = record { run = λ t h. next _ ((c.in_ok-e.ensures.model _).run t h) (λ t₁ h₁. closes _ _ h.counts.values (c.enum_bytes-bytes.ensures.of t₁ h₁.signeds h₁.counts) h₁.counts.values c.close_enum.ensures h₁) }
