-- What the parser's functions are given: the definition's tokens, data model and levels.
use Rattle.std.specs.Prelude.{ℕ}
use Rattle.definition.specs.Grammar.{Levels}
use Rattle.definition.specs.Model.{Model}
use Rattle.definition.specs.Reader.{levels}
use Rattle.definition.specs.Token.{Tokens}
use Rattle.model.specs.Meaning.{model}
use Rattle.naming.specs.Meaning.{tokens}
use Rattle.parser.specs.declared.parser.Parser.{Parser}

abbrev pub tokens_of : Parser → Tokens
tokens_of p = tokens p.tokens

abbrev pub model_of : Parser → Model
model_of p = model p.model

abbrev pub levels_of : Parser → ℕ → Levels
levels_of p room = levels (tokens_of p) (model_of p) room
