-- The value that is pending: of an enumerator without one of its own.
use Rattle.std.specs.Prelude.{ℤ, pos, Option, Some, None}
use Rattle.definition.specs.Range.{above_range}

-- after the greatest value comes 2^63, which no enumerator may have
abbrev pub pending : Option ℤ → ℤ
pending (Some z) = z
pending None = pos above_range
