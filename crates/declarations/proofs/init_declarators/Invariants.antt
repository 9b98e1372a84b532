use Rattle.parser.specs.Parsing.{tokens_of, model_of}
use Rattle.definition.specs.Token.{left}
use Rattle.model.specs.Meaning.{model}
use Rattle.encoding.specs.Storage.{storage}
use Rattle.parser.proofs.Lists.{Reading}
use Rattle.declarations.specs.Pieces.{declarators_in}
use Rattle.declarations.proofs.init_declarators.Given as goal

abbrev pub invariant-loop-e : goal.invariant-loop-e
invariant-loop-e l = Reading (tokens_of l.parser) (declarators_in (tokens_of l.parser) (model_of l.parser) (storage l.class) l.b) (declarators_in (tokens_of l.parser) (model_of l.parser) (storage l.class) l.b) l.initial.here l.initial.w l.initial.d l.initial.v l.here l.w l.d l.v

abbrev pub decreases-loop-e : goal.decreases-loop-e
decreases-loop-e l = left (tokens_of l.parser) l.here.at
