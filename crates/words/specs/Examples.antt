-- What some words make.
use Rattle.std.specs.Prelude.{◌≡◌, refl, List, [], ◌∷◌, true, false, ℕ}
use Rattle.std.proofs.Math.Option.{none, some}
use Rattle.definition.specs.Kind.{char_word, short_word, int_word, long_word, double_word, signed_word, unsigned_word, size_name}
use Rattle.definition.specs.Model.{Model, lp64, ilp32, llp64}
use Rattle.definition.specs.Row.{int, float}
use Rattle.definition.specs.Specifier.{Words, no_words, with_word, total, combine, double_type, char_type, short_type, int_type, builtin, type_in}

-- words as they are read
read : List ℕ → Words
read [] = no_words
read (w ∷ ws) = with_word w (read ws)

unsigned_long_long : combine lp64 (read (long_word ∷ unsigned_word ∷ long_word ∷ int_word ∷ [])) ≡ some (int 8 false)
unfolding read with_word total combine int_type lp64
unsigned_long_long = refl

long_of_windows : combine llp64 (read (long_word ∷ [])) ≡ some (int 4 true)
unfolding read with_word total combine int_type llp64
long_of_windows = refl

long-double : combine ilp32 (read (long_word ∷ double_word ∷ [])) ≡ some (float 12)
unfolding read with_word total combine double_type ilp32
long-double = refl

-- a `char` with no sign has the model's
chars : (m : Model) → combine m (read (char_word ∷ [])) ≡ some (int 1 m.char_signed)
unfolding read with_word total combine char_type
chars m = refl

unsigned_char : (m : Model) → combine m (read (unsigned_word ∷ char_word ∷ [])) ≡ some (int 1 false)
unfolding read with_word total combine char_type
unsigned_char m = refl

long_long_long : (m : Model) → combine m (read (long_word ∷ long_word ∷ long_word ∷ [])) ≡ none
unfolding read with_word total combine int_type
long_long_long m = refl

both-signs : (m : Model) → combine m (read (signed_word ∷ unsigned_word ∷ [])) ≡ none
unfolding read with_word total combine
both-signs m = refl

short-long : (m : Model) → combine m (read (short_word ∷ long_word ∷ [])) ≡ none
unfolding read with_word total combine short_type
short-long m = refl

no_word : (m : Model) → combine m no_words ≡ none
unfolding total combine int_type
no_word m = refl

size_type : builtin ilp32 size_name ≡ some (int 4 false)
unfolding builtin type_in ilp32
size_type = refl
