-- The spellings of names. "each spelling .. once, at its first place as a word token": a name is the number of its spelling's first place.
use Rattle.std.specs.Prelude.{true, false, List, [], ◌∷◌, ℕ, length}
use Rattle.definition.specs.Text.{Bytes, same}
use Rattle.definition.specs.Name.{no_name, name_of}

-- a spelling and its first place
pub record Spelling : Type 0 where
  pub spelling : Bytes
  pub offset : ℕ

-- the name that a spelling was given, `noName` where it is new
unfoldable pub known_name : List Spelling → Bytes → ℕ
known_name [] w = no_name
known_name (s ∷ ss) w = elim (same s.spelling w) [ true ↦ name_of s.offset (length w) | false ↦ known_name ss w ]
