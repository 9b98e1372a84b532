-- Demand 3's claim: walks over a table, the places where they end, and what holds of them.
-- "Demand 3 speaks of the table that demand 2 defines for the text, with sizes as they are when the text ends; a size is known unless it is
-- `-`, and `big` means its exact number."
use Rattle.std.specs.Prelude.{◌≡◌, ◌≢◌, List, [], ◌∷◌, ◌++◌, Bool, true, false, not, ℕ, zero, suc, ◌+◌, ◌*◌, ◌≤◌, ◌<◌, T, eqb, ltb}
use Rattle.std.proofs.Math.Option.{Option, none, some}
use Rattle.std.proofs.Math.ListN.{get_elem?}
use Rattle.definition.specs.Model.{Model}
use Rattle.definition.specs.Row.{Row, void, int, float, bool, pointer, array, composite, enumeration, function, typedef, qualified, Qualifiers, or_zero}
use Rattle.definition.specs.Table.{Member, Table, row_at}
use Rattle.definition.specs.Size.{size_of}

-- ---- what a row is to a walk

-- "A walk .. looks through all typedefs and qualifiers": then a row is a struct or union, an array with a bound, an array without one, or
-- something that has no parts.
pub data Shape : Type 0 where
  whole : Shape
  unsized : Shape
  elements : ℕ → ℕ → Shape  -- element row, bound
  fields : ℕ → Bool → Shape  -- the row whose members they are; a union

abbrev pub array_shape : ℕ → Option ℕ → Shape
array_shape r none = unsized
array_shape r (some b) = elements r b

-- the shape of row n, given the shapes of the rows that it names
unfoldable pub shape_by : (ℕ → Shape) → ℕ → Row → Shape
shape_by shape n void = whole
shape_by shape n (int s g) = whole
shape_by shape n (float s) = whole
shape_by shape n bool = whole
shape_by shape n (pointer r) = whole
shape_by shape n (array r b) = array_shape r b
shape_by shape n (composite u w s e) = fields n u
shape_by shape n (enumeration w s e) = whole
shape_by shape n (function r v e) = whole
shape_by shape n (typedef w r) = shape r
shape_by shape n (qualified r q) = shape r

-- Typedefs and qualified types name lower rows, and only a lower row is asked, as for a size: so f above n is enough.
unfoldable pub shape_within : ℕ → Table → ℕ → Shape
shape_within zero t n = whole
shape_within (suc f) t n = shape_by (λ r. elim (ltb r n) [ true ↦ shape_within f t r | false ↦ whole ]) n (row_at t n)

abbrev pub shape_of : Table → ℕ → Shape
shape_of t n = shape_within (suc n) t n

-- "all typedefs and qualifiers", however many stand one on the other: each has the shape of the type that it names. `proofs/AcceptedWalks` shows
-- it of every accepted table, so neither the bound f nor the test for a lower row takes a step away.
pub record LooksThrough (t : Table) : Type 0 where
  pub typedefs : (n w r : ℕ) → row_at t n ≡ typedef w r → shape_of t n ≡ shape_of t r
  pub qualifiers : (n r : ℕ) (q : Qualifiers) → row_at t n ≡ qualified r q → shape_of t n ≡ shape_of t r

-- ---- steps and walks

-- "a step picks one of the member entries", by its number, or "an index"
pub data Step : Type 0 where
  member : ℕ → Step
  index : ℕ → Step

-- Where a walk stands, in bits from its start: at a value of a row's type, or at a bit-field.
pub data Spot : Type 0 where
  value : ℕ → ℕ → Spot  -- row, first bit
  bits : ℕ → ℕ → Spot  -- first bit, width

-- the bits of a value of a row: 8 times its size, none for an unsized array
abbrev pub bits_of : Model → Table → ℕ → ℕ
bits_of m t n = 8 * or_zero (size_of m t n)

-- "Counted from where its record begins, a plain member begins at 8 times its byte offset ..; a bit-field begins at its first bit and has its
-- own width." The record begins at bit b.
abbrev pub landed : Member → Option ℕ → ℕ → Spot
landed e none b = value e.type (b + 8 * e.offset)
landed e (some w) b = bits (b + e.first_bit) w

-- "At a struct or union a step picks one of the member entries that carry its row"
abbrev pub picked : Option Member → ℕ → ℕ → Option Spot
picked none r b = none
picked (some e) r b = elim (eqb e.row r) [ true ↦ some (landed e e.width b) | false ↦ none ]

-- "at an array with a bound, an index below it": "element i begins i such widths into its array"
abbrev pub indexed : Model → Table → ℕ → ℕ → ℕ → ℕ → Option Spot
indexed m t r bound b i = elim (ltb i bound) [ true ↦ some (value r (b + i * bits_of m t r)) | false ↦ none ]

-- "elsewhere .. there is no step"
abbrev pub enter : Model → Table → Shape → ℕ → Step → Option Spot
enter m t whole b x = none
enter m t unsized b x = none
enter m t (elements r n) b (member k) = none
enter m t (elements r n) b (index i) = indexed m t r n b i
enter m t (fields r u) b (member k) = picked (get_elem? t.members k) r b
enter m t (fields r u) b (index i) = none

-- "and after a bit-field, there is no step"
unfoldable pub step : Model → Table → Spot → Step → Option Spot
step m t (bits b w) x = none
step m t (value n b) x = enter m t (shape_of t n) b x

abbrev pub step_from : Model → Table → Option Spot → Step → Option Spot
step_from m t none x = none
step_from m t (some s) x = step m t s x

unfoldable pub walk_from : Model → Table → Option Spot → List Step → Option Spot
walk_from m t o [] = o
walk_from m t o (x ∷ xs) = walk_from m t (step_from m t o x) xs

-- "A walk is a start row of known size and a list of steps, of any length": where the steps lead from row n, if each can be taken.
abbrev pub walk : Model → Table → ℕ → List Step → Option Spot
walk m t n xs = walk_from m t (some (value n 0)) xs

-- ---- places

-- "In a walk a place is a run of bits, empty for an unsized array."
pub record Place : Type 0 where
  pub from : ℕ
  pub wide : ℕ

-- "With no steps it is the start's bits, from 0 up to 8 times its size"; "8 times its type row's size wide"
abbrev pub place_of : Model → Table → Spot → Place
place_of m t (value n b) = record { from = b; wide = bits_of m t n }
place_of m t (bits b w) = record { from = b; wide = w }

-- "A place, even an empty one, lies inside if it begins at 0 or later and ends no later than the start type does." The start type has s bytes.
abbrev pub Inside : Place → ℕ → Type 0
Inside q s = q.from + q.wide ≤ 8 * s

abbrev pub Has : Place → ℕ → Type 0
Has q k = (q.from ≤ k) × (k < q.from + q.wide)

abbrev pub NoSharedBit : Place → Place → Type 0
NoSharedBit q r = (k : ℕ) → Has q k → Has r k → ⊥

-- ---- the claim

-- Two members of a struct, or two elements of an array, stand apart; two members of a union need not.
abbrev pub divides : Shape → Bool
divides whole = false
divides unsized = false
divides (elements r n) = true
divides (fields r u) = not u

abbrev pub divides_at : Table → Option Spot → Bool
divides_at t none = false
divides_at t (some (value n b)) = divides (shape_of t n)
divides_at t (some (bits b w)) = false

-- Every walk ends inside its start type. "Two walks part at their first unequal step, where both have the same start and the same steps
-- before it": if they part at two members of one struct or two indices of one array, the places where they end share no bit, whatever steps
-- follow.
pub record Walks (m : Model) (t : Table) : Type 0 where
  pub inside : (n s : ℕ) → size_of m t n ≡ some s → (xs : List Step) (e : Spot) → walk m t n xs ≡ some e → Inside (place_of m t e) s
  pub apart : (n s : ℕ) → size_of m t n ≡ some s → (before xs ys : List Step) (x y : Step) → x ≢ y → T (divides_at t (walk m t n before))
      → (e f : Spot) → walk m t n (before ++ x ∷ xs) ≡ some e → walk m t n (before ++ y ∷ ys) ≡ some f
      → NoSharedBit (place_of m t e) (place_of m t f)
