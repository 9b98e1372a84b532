-- A name's number says where its spelling stands.
use Rattle.std.specs.Prelude.{Bool, ◌&&◌, ℕ, ◌+◌, ◌≤◌, length, take}
use Rattle.definition.specs.Text.{Bytes, same}
use Rattle.definition.specs.Scan.{from}
use Rattle.definition.specs.Kind.{is_name}
use Rattle.definition.specs.Name.{offset_of, length_of}

-- the spelling that a name says
abbrev pub spelled_by : Bytes → ℕ → Bytes
spelled_by text n = take (length_of n) (from text (offset_of n))

-- it stands within the text
pub record Inside (text : Bytes) (n : ℕ) : Type 0 where
  pub within : offset_of n + length_of n ≤ length text

-- a token of a kind and a number is the name of a spelling
unfoldable pub is_name_of : Bytes → Bytes → ℕ → ℕ → Bool
is_name_of text w k n = is_name k && same w (spelled_by text n)
