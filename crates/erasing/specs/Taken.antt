-- Numbers taken out of a slice.
use Rattle.std.specs.Prelude.{◌≡◌, List, ℕ, ◌+◌, ◌*◌, ◌≤◌, ◌<◌, length, get_or}
use Rattle.table.specs.Held.{marks_at, top_at}
use Rattle.definition.specs.Region.{names_at, words_length, parameters_at, declarations_at}

module _ {E : Type 0} (z : E) where
  -- numbers `from` to `to` are zero
  abbrev pub Zeros : ℕ → ℕ → List E → Type 0
  Zeros from to xs = (i : ℕ) → from ≤ i → i < to → get_or xs i z ≡ z

  -- a region that was zero from `used` on is zero, and the others stand
  pub record Out (from used to : ℕ) (xs xs' : List E) : Type 0 where
    pub long : length xs' ≡ length xs
    pub zero : Zeros used to xs → Zeros from to xs'
    pub others : (i : ℕ) → (from ≤ i → i < to → ⊥) → get_or xs' i z ≡ get_or xs i z

-- how many entries of region k the marks count
abbrev pub counted : List ℕ → ℕ → ℕ
counted w k = get_or w (names_at + marks_at + k) 0 + 1

-- the index is blank where the marks say so
abbrev pub IndexBlank : List ℕ → Type 0
IndexBlank w = Zeros 0 (names_at + get_or w (names_at + top_at) 0) (names_at + marks_at) w

-- the index and the marks
pub record NamesOut (w w' : List ℕ) : Type 0 where
  pub long : length w' ≡ length w
  pub zero : IndexBlank w → Zeros 0 names_at words_length w'
  pub others : (i : ℕ) → i < names_at → get_or w' i 0 ≡ get_or w i 0

-- parameters, declarations, the index and the marks
pub record RestOut (w w' : List ℕ) : Type 0 where
  pub long : length w' ≡ length w
  pub zero : Zeros 0 (parameters_at + 3 * counted w 3) declarations_at w → Zeros 0 (declarations_at + 3 * counted w 4) names_at w → IndexBlank w → Zeros 0 parameters_at words_length w'
  pub others : (i : ℕ) → i < parameters_at → get_or w' i 0 ≡ get_or w i 0
