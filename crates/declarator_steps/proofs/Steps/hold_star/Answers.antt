use native.Mathlib.Omega.{arith}
use mathlib.Core.Path.{refl}
use Rattle.definition.specs.Row.{qualifier_bits}
use Rattle.words.specs.Meaning.{qualifiers}
use Rattle.words.proofs.Uses.{bits-qualifiers}
use Rattle.declarator_steps.proofs.Views.{pending-is, steps_stay_held, star-stored}
use Rattle.declarator_steps.proofs.Steps.hold_star.Goals as goal

pub returns : goal.returns
returns c = rw (c.from.ensures, c.bits.ensures) (pending-is
    (steps_stay_held c.args.self.now.kinds c.args.self.now.operands _ 0 _ c.args.self.now.len (omega arith))
    (rw (bits-qualifiers (qualifiers c.args.q)) at (star-stored c.args.self.now.kinds c.args.self.now.operands _ 0 (qualifier_bits (qualifiers c.args.q)) c.args.self.now.held refl (omega arith) (omega arith))))
