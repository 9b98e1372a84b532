use mathlib.Core.Path.{refl}
use Rattle.table.specs.Reply.{reply_alone}
use Rattle.table.proofs.Branch.{by, eq+, eq-}
use Rattle.table.proofs.Shown.{no!, held_at, step-on, next, exit, held_next}
use Rattle.declarations.proofs.Made.{declarator-made, initialised}
use Rattle.declarations.proofs.init_declarator.Goals as goal

pub returns-then-t-eq-NO_NAME : goal.returns-then-t-eq-NO_NAME
returns-then-t-eq-NO_NAME c = record { run = λ t h. by (declarator-made _ _ _ _ _) (next _ (c.in_ok-e.ensures.run t h) (λ t₁ h₁. eq+ _ _ _ _ c.if-t-eq-NO_NAME.true (no! h₁ refl))) }

pub add_declaration-requires : goal.add_declaration-requires
add_declaration-requires c = held_at c.moved-f.ensures (held_next c.in_ok-e.ensures c.requires)

pub returns : goal.returns
returns c = record {
  run = λ t h. by (declarator-made _ _ _ _ _) (next _ (c.in_ok-e.ensures.run t h) (λ t₁ h₁. eq- _ _ _ _ c.if-t-eq-NO_NAME.false
      (initialised _ _ _ _ _ _ _ (c.initialiser.ensures _ t₁) (step-on c.moved-f.ensures c.add_declaration.ensures h₁))));
}

pub returns-in_err-e : goal.returns-in_err-e
returns-in_err-e c = record { run = λ t h. by (declarator-made _ _ _ _ _) (exit reply_alone _ (c.in_err-e.ensures.run t h) c.from_residual.ensures.1 refl) }
