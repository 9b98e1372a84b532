-- How a proof follows a definition, branch by branch and call by call, from the goal inwards. Assumes nothing.
use mathlib.Core.Path.{◌≡◌}
use mathlib.Core.Bool.{Bool, true, false}
use mathlib.Core.Option.{Option, none, some}
use Prim.Native.Nat.{ℕ, ◌≤◌, ◌<◌}
use lib.Dec.{leb, ltb, eqb}
use borrow.Author.Tests.{le-leb, lt-leb, lt-ltb, le-ltb, eq-eqb, ne_eqb}
use Rattle.definition.specs.Answer.{Answer, got, refused, ◌>>=◌}
use Rattle.table.specs.Ends.{Ends}

module _ {A : Type 0} {Q : A → Type 0} where
  pub by : {a b : A} → a ≡ b → Ends Q b → Ends Q a
  by e h = rw e h

  pub yes! : (b : Bool) (x y : A) → b ≡ true → Ends Q x → Ends Q (elim b as (λ z. A) [ true ↦ x | false ↦ y ])
  yes! b x y e h = rw e h

  pub nay! : (b : Bool) (x y : A) → b ≡ false → Ends Q y → Ends Q (elim b as (λ z. A) [ true ↦ x | false ↦ y ])
  nay! b x y e h = rw e h

  module _ (a b : ℕ) (x y : A) where
    pub le+ : a ≤ b → Ends Q x → Ends Q (elim (leb a b) as (λ z. A) [ true ↦ x | false ↦ y ])
    le+ p = yes! _ x y (le-leb a b p)

    pub le- : b < a → Ends Q y → Ends Q (elim (leb a b) as (λ z. A) [ true ↦ x | false ↦ y ])
    le- p = nay! _ x y (lt-leb a b p)

    pub lt+ : a < b → Ends Q x → Ends Q (elim (ltb a b) as (λ z. A) [ true ↦ x | false ↦ y ])
    lt+ p = yes! _ x y (lt-ltb a b p)

    pub lt- : b ≤ a → Ends Q y → Ends Q (elim (ltb a b) as (λ z. A) [ true ↦ x | false ↦ y ])
    lt- p = nay! _ x y (le-ltb a b p)

    pub eq+ : a ≡ b → Ends Q x → Ends Q (elim (eqb a b) as (λ z. A) [ true ↦ x | false ↦ y ])
    eq+ p = yes! _ x y (eq-eqb a b p)

    pub eq- : (a ≡ b → ⊥) → Ends Q y → Ends Q (elim (eqb a b) as (λ z. A) [ true ↦ x | false ↦ y ])
    eq- p = nay! _ x y (ne_eqb a b p)

  -- an option
  module _ {B : Type 0} (o : Option B) (f : B → A) (y : A) where
    pub some! : {n : B} → o ≡ some n → Ends Q (f n) → Ends Q (elim o as (λ z. A) [ some m ↦ f m | none ↦ y ])
    some! e h = rw e h

    pub none! : o ≡ none → Ends Q y → Ends Q (elim o as (λ z. A) [ some m ↦ f m | none ↦ y ])
    none! e h = rw e h

-- a call: the rest is left to show, or it was refused
module _ {A B : Type 0} {Q : Answer B → Type 0} {x : Answer A} (k : A → Answer B) where
  pub via : {a : A} → x ≡ got a → Ends Q (k a) → Ends Q (x >>= k)
  unfolding ◌>>=◌
  via e h = rw e h

  pub halt : {n p : ℕ} → x ≡ refused n p → Ends Q (refused n p) → Ends Q (x >>= k)
  unfolding ◌>>=◌
  halt e h = rw e h
