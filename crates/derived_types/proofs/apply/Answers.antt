use mathlib.Core.Path.{refl}
use Rattle.table.specs.Reply.{reply}
use Rattle.table.proofs.Shown.{got!, next, exit, held_next}
use Rattle.derived_types.proofs.Derived.{applies, round, finished}
use Rattle.derived_types.proofs.apply.Goals as goal

pub loop-i-init : goal.loop-i-init
loop-i-init c = record { applied = λ t h. applies h; held = c.requires.0 }

pub returns-in_err-e : goal.returns-in_err-e
returns-in_err-e c = record { run = λ t h. round (c.loop-i.invariant.applied t h) c.loop-i-test.true refl c.step_at-x.ensures.means (λ t₁ h₁. exit reply _ (c.in_err-e.ensures.run t₁ h₁) c.from_residual.ensures.1 refl) }

pub loop-i-preserved : goal.loop-i-preserved
loop-i-preserved c = record {
  applied = λ t h. round (c.loop-i.invariant.applied t h) c.loop-i-test.true refl c.step_at-x.ensures.means (λ t₁ h₁. next _ (c.in_ok-e.ensures.run t₁ h₁) (λ t₂ h₂. applies h₂));
  held = held_next c.in_ok-e.ensures c.loop-i.invariant.held;
}

pub returns : goal.returns
returns c = record { run = λ t h. finished (c.loop-i.invariant.applied t h) c.loop-i-test.false (λ t₁ h₁. got! h₁) }
