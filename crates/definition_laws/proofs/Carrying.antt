-- The entries that carry a row, from entry i on. Assumes nothing.
use mathlib.Core.Path.{◌≡◌, refl, ap, ◌∙◌}
use mathlib.Core.List.{List, [], ◌∷◌}
use Prim.Native.Nat.{ℕ, zero, suc, ◌+◌, ◌-◌, ◌≤◌, ◌<◌}
use native.Mathlib.Omega.{arith}
use lib.Dec.{eqb}
use lib.ListN.{length, get_or, drop, drop_of_length-le}
use borrow.Author.Tests.{eq-eqb, ne_eqb}
use Rattle.definition.specs.Table.{carrying}
use Rattle.lemmas.proofs.Branch.{yes, nay}
use Rattle.lemmas.proofs.Lists.{drop-next}

module _ {E : Type 0} (row_of : E → ℕ) (blank : E) (es : List E) (row : ℕ) where
  pub carry_skip : (k i : ℕ) → i < length es → (row_of (get_or es i blank) ≡ row → ⊥) → carrying row_of row k (drop i es) ≡ carrying row_of row k (drop (i + 1) es)
  unfolding carrying
  carry_skip zero i p q = refl
  carry_skip (suc k) i p q = rw (drop-next es i blank p) (nay (eqb (row_of (get_or es i blank)) row) _ _ (ne_eqb _ _ q))

  pub carry_take : (k i : ℕ) → i < length es → row_of (get_or es i blank) ≡ row → carrying row_of row (suc k) (drop i es) ≡ get_or es i blank ∷ carrying row_of row k (drop (i + 1) es)
  unfolding carrying
  carry_take k i p q = rw (drop-next es i blank p) (yes (eqb (row_of (get_or es i blank)) row) _ _ (eq-eqb _ _ q))

  pub carry_one : (k i : ℕ) → (k ≡ 0 → ⊥) → i < length es → row_of (get_or es i blank) ≡ row → carrying row_of row k (drop i es) ≡ get_or es i blank ∷ carrying row_of row (k - 1) (drop (i + 1) es)
  carry_one k i z p q = let h : k ≡ suc (k - 1) = omega arith in ap (λ c. carrying row_of row c (drop i es)) h ∙ carry_take (k - 1) i p q

module _ {E : Type 0} (row_of : E → ℕ) (es : List E) (row : ℕ) where
  -- none is left, or none is wanted
  pub carry_end : (k i : ℕ) → length es ≤ i → carrying row_of row k (drop i es) ≡ []
  unfolding carrying
  carry_end zero i p = refl
  carry_end (suc k) i p = rw (drop_of_length-le es p)

  pub carry_none : (k : ℕ) → k ≡ 0 → carrying row_of row k es ≡ []
  unfolding carrying
  carry_none k z = rw z
