use mathlib.Core.Path.{◌∙◌}
use Rattle.directives.proofs.directive.Goals as goal

pub returns : goal.returns
returns c = record { keeps = c.is_kept.ensures ∙ c.read_line-state.ensures.keeps; next = c.read_line-state.ensures.next; on = c.read_line-state.ensures.on; inside = c.read_line-state.ensures.inside }
