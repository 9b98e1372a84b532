use Rattle.declarator_steps.proofs.Views.{Releasing}
use Rattle.declarator_steps.proofs.Steps.release_stars.Given as goal

abbrev pub invariant-loop : goal.invariant-loop
invariant-loop l = Releasing l.n l.initial.self l.self l.counter
