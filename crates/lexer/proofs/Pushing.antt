-- Columns that are kept from one token to the next. Assumes nothing.
use mathlib.Core.Path.{◌∙◌}
use Rattle.lexer.specs.Pushing.{Keeps}
use Rattle.lexer.specs.declared.TokenColumns.{TokenColumns}

pub keeps_on : {t u v : TokenColumns} → Keeps t u → Keeps u v → Keeps t v
keeps_on f g = record { kinds = g.kinds ∙ f.kinds; places = g.places ∙ f.places; numbers = g.numbers ∙ f.numbers }
