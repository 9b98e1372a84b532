use mathlib.Core.Path.{refl}
use Rattle.parser.specs.Parsing.{tokens_of, model_of}
use Rattle.table.specs.Reply.{reply_alone}
use Rattle.table.proofs.Branch.{by}
use Rattle.table.proofs.Shown.{next, exit, held_next}
use Rattle.definition_laws.proofs.Progress.{specifiers-on, levels-on}
use Rattle.definition_laws.proofs.TableProgress.{base_type-stays}
use Rattle.parser.proofs.Goes.{on, stays}
use Rattle.parser.proofs.Composites.{enough}
use Rattle.declarations.proofs.Made.{declaration-made}
use Rattle.declarations.proofs.declaration.Goals as goal

pub returns : goal.returns
returns c = let a = held_next c.in_ok-e.ensures c.requires in
    let far = enough (tokens_of c.args.parser.now) (on c.in_ok-e.ensures c.requires refl (specifiers-on _ _ _ (levels-on _ _ _))) (stays c.in_ok-f.ensures a refl (λ s. base_type-stays s _ _ _)) in
    record { run = λ t h. by (declaration-made _ _ _) (next _ (c.in_ok-e.ensures.run t h) (λ t₁ h₁. next _ (c.in_ok-f.ensures.run t₁ h₁) (λ t₂ h₂. (c.after_base.ensures.rounds _ far).run t₂ h₂))) }

pub returns-in_err-f : goal.returns-in_err-f
returns-in_err-f c = record { run = λ t h. by (declaration-made _ _ _) (next _ (c.in_ok-e.ensures.run t h) (λ t₁ h₁. exit reply_alone _ (c.in_err-f.ensures.run t₁ h₁) c.from_residual-in_err-f.ensures.1 refl)) }

pub returns-in_err-e : goal.returns-in_err-e
returns-in_err-e c = record { run = λ t h. by (declaration-made _ _ _) (exit reply_alone _ (c.in_err-e.ensures.run t h) c.from_residual.ensures.1 refl) }
