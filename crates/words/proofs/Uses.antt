-- What callers use: how many words were read, numbers back to values, and the rows that words make. Assumes nothing.
use mathlib.Core.Path.{◌≡◌, refl}
use mathlib.Core.List.{List, [], ◌∷◌}
use mathlib.Core.Bool.{Bool, true, false, ◌&&◌, ◌||◌}
use mathlib.Core.Option.{Option, none, some}
use Prim.Native.Nat.{ℕ, zero, suc, ◌+◌, ◌-◌, ◌≤◌}
use native.Mathlib.Omega.{arith}
use lib.ListN.{get_or, set}
use lib.Dec.{eqb, ltb, lit≤}
use Rattle.definition.specs.Kind.{void_word, char_word, short_word, int_word, long_word, float_word, double_word, bool_word, complex_word}
use Rattle.definition.specs.Model.{Model}
use Rattle.definition.specs.Row.{Row, void, int, float, bool, Qualifiers, qualifier_bits, target_of, row_name, span_of}
use Rattle.definition.specs.Specifier.{Words, no_words, how_many, with_word, total, only_word, signs, combine, double_type, char_type, short_type, int_type, builtin, type_in}
use Rattle.words.specs.declared.types.BaseRow.{BaseRow}
use Rattle.std.specs.Prelude.{Some, None}
use Rattle.words.specs.Meaning.{known, qualifiers_in}
use Rattle.words.specs.AtMost.{AtMost}
use Rattle.words.specs.Plain.{Plain, AllPlain, Stands}

-- ---- how many words were read

pub none_read : AtMost 0 no_words
unfolding total
none_read = record { few = lit≤ tt }

total-set : (ws : List ℕ) (i : ℕ) → total (set ws i (get_or ws i 0 + 1)) ≤ total ws + 1
unfolding total
total-set [] i = omega arith
total-set (w ∷ ws) zero = omega arith
total-set (w ∷ ws) (suc i) = omega (arith, total-set ws i)

pub one-read : {n : ℕ} (k : ℕ) {ws : Words} → AtMost n ws → AtMost (n + 1) (with_word k ws)
unfolding with_word
one-read k {ws} h = record { few = omega (arith, total-set ws (k - void_word), h.few) }

pub more-read : {n m : ℕ} {ws : Words} → n ≤ m → AtMost n ws → AtMost m ws
more-read g h = record { few = omega (arith, g, h.few) }

-- ---- numbers back to values

bits_of : (c v r : Bool) → let q : Qualifiers = record { const = c; volatile = v; restrict = r } in qualifiers_in (qualifier_bits q) ≡ q
unfolding qualifiers_in qualifier_bits
bits_of true true true = refl
bits_of true true false = refl
bits_of true false true = refl
bits_of true false false = refl
bits_of false true true = refl
bits_of false true false = refl
bits_of false false true = refl
bits_of false false false = refl

pub bits-qualifiers : (q : Qualifiers) → qualifiers_in (qualifier_bits q) ≡ q
bits-qualifiers q = bits_of q.const q.volatile q.restrict

-- ---- the rows that words and names make

-- an answer of the code that is a row, or nothing
pub a-row : {b : BaseRow} (o : Option Row) → Some b ≡ known o → Stands o b
unfolding known
a-row (some x) e = record { row = x; there = refl; same = cc }
a-row none e = cc

pub no_row : (o : Option Row) → None ≡ known o → o ≡ none
unfolding known
no_row (some x) e = cc
no_row none e = refl

no! : AllPlain none
no! = record { of = λ x e. cc }

yes! : (y : Row) → Plain y → AllPlain (some y)
yes! y p = record { of = λ x e. let q : y ≡ x = cc in rw q at p }

either : (b : Bool) (x y : Option Row) → AllPlain x → AllPlain y → AllPlain (elim b as (λ z. Option Row) [ true ↦ x | false ↦ y ])
either true x y p q = p
either false x y p q = q

void! : AllPlain (some void)
unfolding target_of row_name span_of
void! = yes! void (record { target = refl; name = refl; entries = refl })

bool! : AllPlain (some bool)
unfolding target_of row_name span_of
bool! = yes! bool (record { target = refl; name = refl; entries = refl })

float! : (n : ℕ) → AllPlain (some (float n))
unfolding target_of row_name span_of
float! n = yes! (float n) (record { target = refl; name = refl; entries = refl })

int! : (n : ℕ) (g : Bool) → AllPlain (some (int n g))
unfolding target_of row_name span_of
int! n g = yes! (int n g) (record { target = refl; name = refl; entries = refl })

module _ (m : Model) (ws : Words) where
  more : ℕ → ℕ → Bool
  more n word = ltb n (how_many word ws)

  double-plain : AllPlain (double_type m ws)
  unfolding double_type more
  double-plain =
      either (more 0 short_word || (more 0 int_word || (ltb 0 (signs ws) || more 1 long_word))) _ _ no!
      (either (eqb (how_many long_word ws) 1) _ _ (float! _) (float! _))

  char_plain : AllPlain (char_type m ws)
  unfolding char_type more
  char_plain =
      either (more 0 short_word || (more 0 long_word || more 0 int_word)) _ _ no! (either (eqb (signs ws) 0) _ _ (int! _ _) (int! _ _))

  short-plain : AllPlain (short_type m ws)
  unfolding short_type more
  short-plain = either (more 0 long_word) _ _ no! (int! _ _)

  int-plain : AllPlain (int_type m ws)
  unfolding int_type
  int-plain =
      either (eqb (how_many int_word ws + signs ws + how_many long_word ws) (total ws) && ltb 0 (total ws)) _ _
      (either (eqb (how_many long_word ws) 0) _ _ (int! _ _)
      (either (eqb (how_many long_word ws) 1) _ _ (int! _ _)
      (either (eqb (how_many long_word ws) 2) _ _ (int! _ _) no!)))
      no!

  alone : (x : Row) → AllPlain (some x) → AllPlain (only_word ws x)
  alone x p = either (eqb (total ws) 1) _ _ p no!

  pub combine-plain : AllPlain (combine m ws)
  unfolding combine more
  combine-plain =
      either (ltb 1 (signs ws)) _ _ no!
      (either (more 0 complex_word) _ _ no!
      (either (more 0 void_word) _ _ (alone _ void!)
      (either (more 0 bool_word) _ _ (alone _ bool!)
      (either (more 0 float_word) _ _ (alone _ (float! _))
      (either (more 0 double_word) _ _ double-plain
      (either (more 0 char_word) _ _ char_plain
      (either (more 0 short_word) _ _ short-plain int-plain)))))))

-- a list of names whose rows are plain
data Plains : List (ℕ × Row) → Type 0 where
  end : Plains []
  entry : {n : ℕ} {x : Row} {xs : List (ℕ × Row)} → AllPlain (some x) → Plains xs → Plains ((n, x) ∷ xs)

names-plain : (k : ℕ) {xs : List (ℕ × Row)} → Plains xs → AllPlain (type_in k xs)
unfolding type_in
names-plain k end = no!
names-plain k (entry {n} p q) = either (eqb k n) _ _ p (names-plain k q)

pub builtin-plain : (m : Model) (k : ℕ) → AllPlain (builtin m k)
unfolding builtin
builtin-plain m k =
    names-plain k (
    entry (int! _ _) (entry (int! _ _) (entry (int! _ _) (entry (int! _ _) (entry (int! _ _) (entry (int! _ _) (entry (int! _ _)
    (entry (int! _ _) (entry (int! _ _) (entry (int! _ _) (entry (int! _ _) (entry (int! _ _) (entry (int! _ _) (entry (int! _ _)
    (entry (int! _ _) (entry (int! _ _) (entry (int! _ _) (entry (int! _ _) (entry (int! _ _) (entry bool! end))))))))))))))))))))
