-- What a text cut into tokens means: the definition's.
use Rattle.definition.specs.Token.{Lexed as MeantLexed}
use Rattle.encoding.specs.Kinds.{kind_numbers}
use Rattle.entry_points.specs.Answers.{lexed}
use Rattle.entry_points.specs.declared.lexed.Lexed.{Lexed}

abbrev pub lexed_of : Lexed → MeantLexed
lexed_of x = lexed (kind_numbers x.tokens.kinds.now) x.places.now x.tokens.numbers.now x.end
