-- "Offset counts from 0, line and column from 1, as `ParseError`": the line and the column of an offset, as `ParseError::at` finds them.
use Rattle.std.specs.Prelude.{true, false, [], ◌∷◌, ℕ, ◌+◌, eqb, take}
use Rattle.definition.specs.Text.{Bytes}
use Rattle.definition.specs.Byte.{line_feed}

pub record Place : Type 0 where
  pub line : ℕ
  pub column : ℕ

-- the place after a byte
unfoldable pub after : Place → ℕ → Place
after p b = elim (eqb b line_feed) [
  | true ↦ record { line = p.line + 1; column = 1 }
  | false ↦ record { line = p.line; column = p.column + 1 }
]

unfoldable pub after_all : Place → Bytes → Place
after_all p [] = p
after_all p (b ∷ bs) = after_all (after p b) bs

-- an offset past the end is the end
unfoldable pub place_of : Bytes → ℕ → Place
place_of text offset = after_all (record { line = 1; column = 1 }) (take offset text)
