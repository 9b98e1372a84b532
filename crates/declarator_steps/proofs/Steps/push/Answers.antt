use native.Mathlib.Omega.{arith}
use mathlib.Core.Path.{refl, ap, ◌∙◌}
use mathlib.Core.List.{◌∷◌}
use Rattle.declarator_steps.specs.Pending.{steps_from}
use Rattle.declarator_steps.proofs.Views.{pending-is, stored, stars-stay}
use Rattle.declarator_steps.proofs.Steps.push.Goals as goal

pub returns : goal.returns
returns c = pending-is
    (stored c.args.self.now.kinds c.args.self.now.operands c.args.self.now.len _ _ c.args.self.now.len refl (omega arith) (omega arith)
    ∙ ap (λ x. x ∷ steps_from c.args.self.now.kinds c.args.self.now.operands c.args.self.now.len) c.kept-kind.ensures.means)
    (stars-stay c.args.self.now.kinds c.args.self.now.operands c.args.self.now.len 0 _ c.args.self.now.held (omega arith))
