-- How the lexer goes over a text: all that follows an offset, and how far something holds.
use Rattle.std.specs.Prelude.{Bool, true, false, ◌&&◌, [], ◌∷◌, ℕ, zero, suc, eqb, drop}
use Rattle.definition.specs.Text.{Bytes, byte_at}

-- what follows an offset
abbrev pub from : Bytes → ℕ → Bytes
from text at = drop at text

-- the first and the second byte of what follows
abbrev pub first : Bytes → ℕ
first bs = byte_at bs 0

abbrev pub second : Bytes → ℕ
second bs = byte_at bs 1

-- two bytes stand next
unfoldable pub begins : ℕ → ℕ → Bytes → Bool
begins a b bs = eqb (first bs) a && eqb (second bs) b

-- how many bytes stand before the first place where `stop` holds of what follows; all of them where it never does
unfoldable pub before : (Bytes → Bool) → Bytes → ℕ
before stop [] = zero
before stop (b ∷ bs) = elim (stop (b ∷ bs)) [ true ↦ zero | false ↦ suc (before stop bs) ]

-- a spelling stands next
unfoldable pub starts_with : Bytes → Bytes → Bool
starts_with [] bs = true
starts_with (a ∷ as') [] = false
starts_with (a ∷ as') (b ∷ bs) = elim (eqb a b) [ true ↦ starts_with as' bs | false ↦ false ]

-- a spelling stands somewhere (`str::contains`)
unfoldable pub contains : Bytes → Bytes → Bool
contains word [] = starts_with word []
contains word (b ∷ bs) = elim (starts_with word (b ∷ bs)) [ true ↦ true | false ↦ contains word bs ]
