-- How an answer follows a definition, test by test, from the goal inwards: r is what some function f makes of the definition's answer. Assumes nothing.
use mathlib.Core.Path.{◌≡◌}
use mathlib.Core.Bool.{Bool, true, false}
use Prim.Native.Nat.{ℕ, ◌≤◌, ◌<◌}
use lib.Dec.{ltb, eqb}
use borrow.Author.Tests.{lt-ltb, le-ltb, eq-eqb, ne_eqb}

module _ {A B : Type 0} (f : A → B) {r : B} where
  pub yes : (b : Bool) (x y : A) → b ≡ true → r ≡ f x → r ≡ f (elim b as (λ z. A) [ true ↦ x | false ↦ y ])
  yes b x y e h = rw e h

  pub nay : (b : Bool) (x y : A) → b ≡ false → r ≡ f y → r ≡ f (elim b as (λ z. A) [ true ↦ x | false ↦ y ])
  nay b x y e h = rw e h

  module _ (a b : ℕ) (x y : A) where
    pub lt+ : a < b → r ≡ f x → r ≡ f (elim (ltb a b) as (λ z. A) [ true ↦ x | false ↦ y ])
    lt+ p = yes _ x y (lt-ltb a b p)

    pub lt- : b ≤ a → r ≡ f y → r ≡ f (elim (ltb a b) as (λ z. A) [ true ↦ x | false ↦ y ])
    lt- p = nay _ x y (le-ltb a b p)

    pub eq+ : a ≡ b → r ≡ f x → r ≡ f (elim (eqb a b) as (λ z. A) [ true ↦ x | false ↦ y ])
    eq+ p = yes _ x y (eq-eqb a b p)

    pub eq- : (a ≡ b → ⊥) → r ≡ f y → r ≡ f (elim (eqb a b) as (λ z. A) [ true ↦ x | false ↦ y ])
    eq- p = nay _ x y (ne_eqb a b p)
