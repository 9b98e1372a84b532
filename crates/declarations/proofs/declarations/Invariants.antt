use Rattle.parser.specs.Parsing.{tokens_of, model_of}
use Rattle.definition.specs.Token.{left}
use Rattle.definition.specs.Reader.{declarations_from}
use Rattle.model.specs.Meaning.{model}
use Rattle.parser.proofs.Lists.{Reading}
use Rattle.declarations.proofs.declarations.Given as goal

abbrev pub invariant-loop-kind : goal.invariant-loop-kind
invariant-loop-kind l = Reading (tokens_of l.parser) (declarations_from (tokens_of l.parser) (model_of l.parser)) (declarations_from (tokens_of l.parser) (model_of l.parser)) l.initial.here l.initial.w l.initial.d l.initial.v l.here l.w l.d l.v

abbrev pub decreases-loop-kind : goal.decreases-loop-kind
decreases-loop-kind l = left (tokens_of l.parser) l.here.at
