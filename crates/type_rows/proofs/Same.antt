-- Rows compared. Assumes nothing.
use mathlib.Core.Path.{◌≡◌, refl, sym, ap, ◌∙◌}
use mathlib.Core.Bool.{true, false}
use mathlib.Core.Option.{Option, some}
use mathlib.Core.List.{List, [], ◌∷◌}
use Prim.Native.Nat.{ℕ, suc, ◌≤◌, ◌<◌}
use native.Mathlib.Omega.{arith}
use lib.Dec.{eqb}
use borrow.Author.Tests.{ne_eqb}
use Rattle.std.proofs.lemmas.Grind.{common_steps}
use Rattle.definition.specs.Row.{Row, void, int, float, bool, pointer, array, composite, enumeration, function, typedef, qualified, kind_of, target_of, flags_of, span_of}
use lib.ListN.{length}
use Rattle.std.specs.Prelude.{Option as CodeOption, MatchOption}
use Rattle.std.proofs.Common.{Some, None}
use Rattle.lemmas.specs.Options.{option}
use Rattle.definition.specs.Table.{Table, row_at}
use Rattle.definition.specs.Types.{same_numbers, same_row, equal_row, qualifiers_of}
use Rattle.lemmas.proofs.Branch.{nay}
use Rattle.lemmas.proofs.Truth.{not_first, not_second}
use Rattle.words.proofs.Uses.{bits-qualifiers}
use Rattle.words.specs.Meaning.{qualifiers_in}
use Rattle.named_rows.proofs.Searches.{first_row, look_skip, look-yes, look-end}

-- rows of the same numbers have as many entries
pub same_count : (x y : Row) → same_numbers x y ≡ true → (span_of x).count ≡ (span_of y).count
unfolding same_numbers
same_count x y e = grind (arith, common_steps)

-- a row of another kind, or of another target, is another row
module _ (t : Table) (x : Row) (n : ℕ) (y : Row) where
  pub other_kind : (kind_of x ≡ kind_of y → ⊥) → false ≡ same_row t x n y
  unfolding same_row same_numbers
  other_kind p = sym (nay _ _ _ (not_first _ (ne_eqb (kind_of x) (kind_of y) p)))

  pub other_target : (target_of x ≡ target_of y → ⊥) → false ≡ same_row t x n y
  unfolding same_row same_numbers
  other_target p = sym (nay _ _ _ (not_second (eqb (kind_of x) (kind_of y)) (not_first _ (ne_eqb (target_of x) (target_of y) p))))

-- an equal row is searched so
pub equal_is : (t : Table) (x : Row) (n : ℕ) (rs : List Row) → equal_row t x n rs ≡ first_row (same_row t x) n rs
unfolding equal_row first_row
equal_is t x n [] = refl
equal_is t x n (r ∷ rs) = ap (λ o. elim (same_row t x n r) as (λ z. Option ℕ) [ true ↦ some n | false ↦ o ]) (equal_is t x (suc n) rs)

-- row i equals a new one, or not
module _ (t : Table) (x : Row) where
  abbrev pub Equal : ℕ → Type 0
  Equal i = true ≡ same_row t x i (row_at t i)

  abbrev pub Other : ℕ → Type 0
  Other i = false ≡ same_row t x i (row_at t i)

  -- what is found is the first equal row
  pub finds : {n : ℕ} (o : CodeOption ℕ) → n ≡ length t.rows → MatchOption o ((k : ℕ) → 0 ≤ k → k < n → Other k) (λ i. (0 ≤ i) × (i < n) × Equal i × ((k : ℕ) → 0 ≤ k → k < i → Other k))
      → option o ≡ equal_row t x 0 t.rows
  finds None e f = sym (equal_is t x 0 t.rows ∙ (look_skip (same_row t x) t.rows (length t.rows) (λ i p q. sym (f i (omega arith) (omega (arith, e)))) ∙ look-end (same_row t x) t.rows (length t.rows) (omega arith)))
  finds (Some i) e f = sym (equal_is t x 0 t.rows ∙ (look_skip (same_row t x) t.rows i (λ k p q. sym (f.3 k (omega arith) q)) ∙ look-yes (same_row t x) t.rows i (omega (arith, e, f.1)) (sym f.2)))

-- the qualifiers of a row that has them
pub qualifiers_are : (x : Row) → kind_of x ≡ 11 → qualifiers_in (flags_of x) ≡ qualifiers_of x
unfolding kind_of flags_of qualifiers_of
qualifiers_are void e = absurd (omega arith)
qualifiers_are (int s g) e = absurd (omega arith)
qualifiers_are (float s) e = absurd (omega arith)
qualifiers_are bool e = absurd (omega arith)
qualifiers_are (pointer r) e = absurd (omega arith)
qualifiers_are (array r b) e = absurd (omega arith)
qualifiers_are (composite true w s k) e = absurd (omega arith)
qualifiers_are (composite false w s k) e = absurd (omega arith)
qualifiers_are (enumeration w s k) e = absurd (omega arith)
qualifiers_are (function r v k) e = absurd (omega arith)
qualifiers_are (typedef w r) e = absurd (omega arith)
qualifiers_are (qualified r q) e = bits-qualifiers q
