-- The types that words and assumed names give name no other row. Assumes nothing.
use mathlib.Core.Path.{◌≡◌, refl}
use mathlib.Core.Bool.{Bool, true, false, ◌&&◌, ◌||◌}
use mathlib.Core.List.{List, [], ◌∷◌}
use mathlib.Core.Option.{Option, none, some}
use Prim.Native.Nat.{ℕ, ◌+◌}
use native.Mathlib.Omega.{arith}
use lib.Dec.{eqb, ltb}
use Rattle.definition.specs.Kind.{void_word, char_word, short_word, int_word, long_word, float_word, double_word, bool_word, complex_word}
use Rattle.definition.specs.Model.{Model}
use Rattle.definition.specs.Row.{Row, target_of}
use Rattle.definition.specs.Specifier.{Words, how_many, total, signs, double_type, char_type, short_type, int_type, combine, type_in, builtin}

-- what holds of an option's value, if it has one
pub record May {A : Type 0} (P : A → Type 0) (o : Option A) : Type 0 where
  pub of : (a : A) → o ≡ some a → P a

module _ {A : Type 0} {P : A → Type 0} where
  pub may : {a : A} → P a → May P (some a)
  may {a} h = record { of = λ b e. let z : a ≡ b = cc in rw (← z) h }

  pub never : May P none
  never = record { of = λ b e. let z : ◌≡◌ {A = ℕ} 0 1 = cc in absurd (omega arith) }

  pub either : (b : Bool) {x y : Option A} → May P x → May P y → May P (elim b as (λ z. Option A) [ true ↦ x | false ↦ y ])
  either true h k = h
  either false h k = k

abbrev pub NamesNone : Row → Type 0
NamesNone r = target_of r ≡ 0

module _ (m : Model) (ws : Words) where
  double_names_none : May NamesNone (double_type m ws)
  unfolding double_type target_of
  double_names_none = either (ltb 0 (how_many short_word ws) || (ltb 0 (how_many int_word ws) || (ltb 0 (signs ws) || ltb 1 (how_many long_word ws)))) never
      (either (eqb (how_many long_word ws) 1) (may refl) (may refl))

  char_names_none : May NamesNone (char_type m ws)
  unfolding char_type target_of
  char_names_none = either (ltb 0 (how_many short_word ws) || (ltb 0 (how_many long_word ws) || ltb 0 (how_many int_word ws))) never
      (either (eqb (signs ws) 0) (may refl) (may refl))

  short_names_none : May NamesNone (short_type m ws)
  unfolding short_type target_of
  short_names_none = either (ltb 0 (how_many long_word ws)) never (may refl)

  int_names_none : May NamesNone (int_type m ws)
  unfolding int_type target_of
  int_names_none = either (eqb (how_many int_word ws + signs ws + how_many long_word ws) (total ws) && ltb 0 (total ws))
      (either (eqb (how_many long_word ws) 0) (may refl) (either (eqb (how_many long_word ws) 1) (may refl) (either (eqb (how_many long_word ws) 2) (may refl) never))) never

  pub combine_names_none : May NamesNone (combine m ws)
  unfolding combine target_of
  combine_names_none = either (ltb 1 (signs ws)) never (either (ltb 0 (how_many complex_word ws)) never
      (either (ltb 0 (how_many void_word ws)) (either (eqb (total ws) 1) (may refl) never)
      (either (ltb 0 (how_many bool_word ws)) (either (eqb (total ws) 1) (may refl) never)
      (either (ltb 0 (how_many float_word ws)) (either (eqb (total ws) 1) (may refl) never)
      (either (ltb 0 (how_many double_word ws)) double_names_none
      (either (ltb 0 (how_many char_word ws)) char_names_none
      (either (ltb 0 (how_many short_word ws)) short_names_none int_names_none)))))))

data All : List (ℕ × Row) → Type 0 where
  none' : All []
  also : {x : ℕ × Row} {xs : List (ℕ × Row)} → NamesNone x.1 → All xs → All (x ∷ xs)

type_in_lem : (k : ℕ) {xs : List (ℕ × Row)} → All xs → May NamesNone (type_in k xs)
unfolding type_in
type_in_lem k none' = never
type_in_lem k (also {x} {xs} h hs) = either (eqb k x.0) (may h) (type_in_lem k hs)

pub builtin_names_none : (m : Model) (k : ℕ) → May NamesNone (builtin m k)
unfolding builtin target_of
builtin_names_none m k = type_in_lem k (also refl (also refl (also refl (also refl (also refl (also refl (also refl (also refl (also refl (also refl
    (also refl (also refl (also refl (also refl (also refl (also refl (also refl (also refl (also refl (also refl none'))))))))))))))))))))
