-- How a proof follows a definition's branches, as equations: each test, and the branch that is left. Assumes nothing.
use mathlib.Core.Path.{◌≡◌}
use mathlib.Core.Bool.{Bool, true, false}
use Prim.Native.Nat.{ℕ, ◌≤◌, ◌<◌}
use lib.Dec.{leb, ltb, eqb}
use borrow.Author.Tests.{le-leb, lt-leb, lt-ltb, le-ltb, eq-eqb, ne_eqb}

module _ {A : Type 0} (b : Bool) (x y : A) where
  pub yes : b ≡ true → elim b as (λ z. A) [ true ↦ x | false ↦ y ] ≡ x
  yes e = rw e

  pub nay : b ≡ false → elim b as (λ z. A) [ true ↦ x | false ↦ y ] ≡ y
  nay e = rw e

module _ {A : Type 0} (a b : ℕ) (x y : A) where
  pub eq_yes : a ≡ b → elim (eqb a b) as (λ z. A) [ true ↦ x | false ↦ y ] ≡ x
  eq_yes p = yes _ x y (eq-eqb a b p)

  pub eq_no : (a ≡ b → ⊥) → elim (eqb a b) as (λ z. A) [ true ↦ x | false ↦ y ] ≡ y
  eq_no p = nay _ x y (ne_eqb a b p)

  pub le_yes : a ≤ b → elim (leb a b) as (λ z. A) [ true ↦ x | false ↦ y ] ≡ x
  le_yes p = yes _ x y (le-leb a b p)

  pub le_no : b < a → elim (leb a b) as (λ z. A) [ true ↦ x | false ↦ y ] ≡ y
  le_no p = nay _ x y (lt-leb a b p)

  pub lt_yes : a < b → elim (ltb a b) as (λ z. A) [ true ↦ x | false ↦ y ] ≡ x
  lt_yes p = yes _ x y (lt-ltb a b p)

  pub lt_no : b ≤ a → elim (ltb a b) as (λ z. A) [ true ↦ x | false ↦ y ] ≡ y
  lt_no p = nay _ x y (le-ltb a b p)
