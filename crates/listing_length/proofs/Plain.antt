-- Rows that hold no name and no bound: those of words and of assumed names are such. Assumes nothing.
use mathlib.Core.Path.{◌≡◌, refl}
use mathlib.Core.Bool.{Bool, ◌&&◌, ◌||◌}
use mathlib.Core.Option.{Option}
use mathlib.Core.List.{List, [], ◌∷◌}
use Prim.Native.Nat.{ℕ, ◌+◌, ◌<◌, ◌^◌}
use native.Mathlib.Omega.{arith}
use lib.Dec.{eqb, ltb}
use Rattle.definition.specs.Kind.{void_word, char_word, short_word, int_word, long_word, float_word, double_word, bool_word, complex_word}
use Rattle.definition.specs.Model.{Model}
use Rattle.definition.specs.Name.{length_of}
use Rattle.definition.specs.Row.{Row, void, int, float, bool, pointer, array, qualified, Qualifiers, or_zero, row_name}
use Rattle.definition.specs.Specifier.{Words, how_many, total, signs, double_type, char_type, short_type, int_type, combine, type_in, builtin}
use Rattle.definition_laws.proofs.Scalars.{May, may, never, either}
use Rattle.listing_length.specs.Weight.{row_bytes}
use Rattle.listing_length.proofs.Fits.{bound_in, BoundFits}

pub record Plain (r : Row) : Type 0 where
  pub bytes : row_bytes r ≡ 0
  pub bound : BoundFits r

plain-void : Plain void
unfolding length_of row_name bound_in
plain-void = record { bytes = refl; bound = omega arith }

plain_int : (s : ℕ) (g : Bool) → Plain (int s g)
unfolding length_of row_name bound_in
plain_int s g = record { bytes = refl; bound = omega arith }

plain_float : (s : ℕ) → Plain (float s)
unfolding length_of row_name bound_in
plain_float s = record { bytes = refl; bound = omega arith }

plain-bool : Plain bool
unfolding length_of row_name bound_in
plain-bool = record { bytes = refl; bound = omega arith }

pub plain-pointer : (r : ℕ) → Plain (pointer r)
unfolding length_of row_name bound_in
plain-pointer r = record { bytes = refl; bound = omega arith }

pub plain-array : (r : ℕ) (b : Option ℕ) → or_zero b < 2 ^ 64 → Plain (array r b)
unfolding length_of row_name bound_in
plain-array r b p = record { bytes = refl; bound = p }

pub plain-qualified : (r : ℕ) (q : Qualifiers) → Plain (qualified r q)
unfolding length_of row_name bound_in
plain-qualified r q = record { bytes = refl; bound = omega arith }

module _ (m : Model) (ws : Words) where
  double-plain : May Plain (double_type m ws)
  unfolding double_type
  double-plain = either (ltb 0 (how_many short_word ws) || (ltb 0 (how_many int_word ws) || (ltb 0 (signs ws) || ltb 1 (how_many long_word ws)))) never
      (either (eqb (how_many long_word ws) 1) (may (plain_float _)) (may (plain_float _)))

  char_plain : May Plain (char_type m ws)
  unfolding char_type
  char_plain = either (ltb 0 (how_many short_word ws) || (ltb 0 (how_many long_word ws) || ltb 0 (how_many int_word ws))) never
      (either (eqb (signs ws) 0) (may (plain_int _ _)) (may (plain_int _ _)))

  short-plain : May Plain (short_type m ws)
  unfolding short_type
  short-plain = either (ltb 0 (how_many long_word ws)) never (may (plain_int _ _))

  int-plain : May Plain (int_type m ws)
  unfolding int_type
  int-plain = either (eqb (how_many int_word ws + signs ws + how_many long_word ws) (total ws) && ltb 0 (total ws))
      (either (eqb (how_many long_word ws) 0) (may (plain_int _ _)) (either (eqb (how_many long_word ws) 1) (may (plain_int _ _)) (either (eqb (how_many long_word ws) 2) (may (plain_int _ _)) never))) never

  pub combine-plain : May Plain (combine m ws)
  unfolding combine
  combine-plain = either (ltb 1 (signs ws)) never (either (ltb 0 (how_many complex_word ws)) never
      (either (ltb 0 (how_many void_word ws)) (either (eqb (total ws) 1) (may plain-void) never)
      (either (ltb 0 (how_many bool_word ws)) (either (eqb (total ws) 1) (may plain-bool) never)
      (either (ltb 0 (how_many float_word ws)) (either (eqb (total ws) 1) (may (plain_float _)) never)
      (either (ltb 0 (how_many double_word ws)) double-plain
      (either (ltb 0 (how_many char_word ws)) char_plain
      (either (ltb 0 (how_many short_word ws)) short-plain int-plain)))))))

data All : List (ℕ × Row) → Type 0 where
  none' : All []
  also : {x : ℕ × Row} {xs : List (ℕ × Row)} → Plain x.1 → All xs → All (x ∷ xs)

type_in_lem : (k : ℕ) {xs : List (ℕ × Row)} → All xs → May Plain (type_in k xs)
unfolding type_in
type_in_lem k none' = never
type_in_lem k (also {x} {xs} h hs) = either (eqb k x.0) (may h) (type_in_lem k hs)

pub builtin-plain : (m : Model) (k : ℕ) → May Plain (builtin m k)
unfolding builtin
builtin-plain m k = type_in_lem k (also (plain_int _ _) (also (plain_int _ _) (also (plain_int _ _) (also (plain_int _ _) (also (plain_int _ _) (also (plain_int _ _) (also (plain_int _ _)
    (also (plain_int _ _) (also (plain_int _ _) (also (plain_int _ _) (also (plain_int _ _) (also (plain_int _ _) (also (plain_int _ _) (also (plain_int _ _) (also (plain_int _ _)
    (also (plain_int _ _) (also (plain_int _ _) (also (plain_int _ _) (also (plain_int _ _) (also plain-bool none'))))))))))))))))))))
