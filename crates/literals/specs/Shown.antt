-- What the answers of the code are in the definition.
use Rattle.std.specs.Prelude.{Option, Some, None, true, false, ℕ, ◌+◌, ◌*◌, ltb}
use Rattle.definition.specs.Character.{Read}
use Rattle.definition.specs.Number.{no_digit}
use Rattle.definition.specs.Range.{above_range}

-- a value read, and the offset after it
abbrev pub read : ℕ × ℕ → Read
read p = record { value = p.0; next = p.1 }

-- the value of a digit; what is no digit has a value that no base has
abbrev pub digit : Option ℕ → ℕ
digit None = no_digit
digit (Some d) = d

-- a value in the range, or none where it is too large
abbrev pub ranged : ℕ → Option ℕ
ranged v = elim (ltb v above_range) [ true ↦ Some v | false ↦ None ]

-- one digit more
abbrev pub with_digit : Option ℕ → ℕ → ℕ → Option ℕ
with_digit None base d = None
with_digit (Some v) base d = ranged (v * base + d)
