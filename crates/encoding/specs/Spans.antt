-- A span of the code, as the definition's.
use Rattle.definition.specs.Row.{Span as MeantSpan}
use Rattle.encoding.specs.declared.span.Span.{Span}

abbrev pub span : Span → MeantSpan
span x = record { first = x.first; count = x.count }
