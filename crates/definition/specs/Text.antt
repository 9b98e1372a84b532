-- Texts. A text is a list of bytes; an example is written as a literal and turned into bytes.
use Rattle.std.specs.Prelude.{List, [], ◌∷◌, Bool, true, false, ℕ, eqb, get_or}
use Prim.Native.String.{String}
use Prim.Native.Char.{code}

abbrev pub Bytes : Type 0
Bytes = List ℕ

unfoldable pub bytes : String → Bytes
bytes String.[] = []
bytes (String.◌∷◌ c s) = code c ∷ bytes s

-- what is read past the end of a text: no byte
abbrev pub no_byte : ℕ
no_byte = 256

-- the byte at an offset
abbrev pub byte_at : Bytes → ℕ → ℕ
byte_at text i = get_or text i no_byte

-- two spellings are the same
unfoldable pub same : Bytes → Bytes → Bool
same [] [] = true
same [] (b ∷ bs) = false
same (a ∷ as') [] = false
same (a ∷ as') (b ∷ bs) = elim (eqb a b) [ true ↦ same as' bs | false ↦ false ]
