-- What the readers of enumerators do.
use Rattle.std.specs.Prelude.{suc, pos, length}
use Rattle.definition.specs.Answer.{Answer}
use Rattle.definition.specs.Token.{Tokens, left}
use Rattle.definition.specs.Model.{Model}
use Rattle.definition.specs.Table.{State}
use Rattle.definition.specs.Grammar.{Levels}
use Rattle.definition.specs.Enumeration.{enumerators_from}

-- the enumerators of a body, from its first to its closing brace
abbrev pub enumerators_here : Tokens → Model → Levels → State → Answer State
enumerators_here ts m next s = enumerators_from ts m next (suc (left ts s.at)) (length s.table.values) (pos 0) s
