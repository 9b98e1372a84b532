-- What the tokens of the code mean: the definition's tokens.
use Rattle.definition.specs.Token.{Tokens as MeantTokens}
use Rattle.encoding.specs.Kinds.{kind_numbers}
use Rattle.naming.specs.declared.Tokens.{Tokens}

abbrev pub tokens : Tokens → MeantTokens
tokens t = record { kinds = kind_numbers t.kinds.now; numbers = t.numbers.now }
