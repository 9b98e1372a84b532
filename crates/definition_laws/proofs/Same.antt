-- Equal answers, through branches and calls. Assumes nothing.
use mathlib.Core.Path.{◌≡◌, refl}
use mathlib.Core.Bool.{Bool, true, false}
use Prim.Native.Nat.{ℕ, suc, ◌<◌, ◌≤◌}
use native.Mathlib.Omega.{arith}
use native.Mathlib.Nat.{lt_of_not-le}
use native.Mathlib.Decide.{dec_le}
use lib.ListN.{length, get_or-eq_default}
use Rattle.definition.specs.Answer.{Answer, got, refused, ◌>>=◌}
use Rattle.definition.specs.Kind.{end}
use Rattle.definition.specs.Token.{Tokens, kind_at}
use Rattle.definition_laws.specs.Every.{Every}
use Rattle.definition_laws.specs.Enough.{Enough}

pub same_bool : {B : Type 0} (b : Bool) {x y x' y' : B} → (b ≡ true → x ≡ x') → (b ≡ false → y ≡ y')
    → ◌≡◌ {A = B} (elim b as (λ z. B) [ true ↦ x | false ↦ y ]) (elim b as (λ z. B) [ true ↦ x' | false ↦ y' ])
same_bool true h k = h refl
same_bool false h k = k refl

pub same_then : {A B : Type 0} {P : A → Type 0} (r : Answer A) (k k' : A → Answer B) → Every P r → ((a : A) → P a → k a ≡ k' a) → (r >>= k) ≡ (r >>= k')
unfolding ◌>>=◌
same_then (got a) k k' h f = f a (h.of a refl)
same_then (refused n at) k k' h f = refl

-- a call that was done, and one that was refused
module _ {A B : Type 0} (x : Answer A) (k : A → Answer B) where
  pub then-got : (a : A) → x ≡ got a → (x >>= k) ≡ k a
  unfolding ◌>>=◌
  then-got a e = rw e

  pub then-refused : (n p : ℕ) → x ≡ refused n p → (x >>= k) ≡ refused n p
  unfolding ◌>>=◌
  then-refused n p e = rw e

-- a token of a class that the end is not in stands among the tokens
pub there : (ts : Tokens) (class : ℕ → Bool) (i : ℕ) → class end ≡ false → class (kind_at ts i) ≡ true → i < length ts.kinds
there ts class i no_end e = go (dec_le (length ts.kinds) i)
  where
    go : Dec (length ts.kinds ≤ i) → i < length ts.kinds
    go (yes p) = let q : class end ≡ true = rw (get_or-eq_default ts.kinds end p) at e in let z : true ≡ false = cc in absurd (let y : ◌≡◌ {A = ℕ} 0 1 = cc in omega arith)
    go (no p) = lt_of_not-le p

-- where any two numbers of rounds above n agree, one more than n are enough
pub enough : {B : Type 0} {loop : ℕ → B} {n : ℕ} → ((f g : ℕ) → n < f → n < g → loop f ≡ loop g) → Enough loop (suc n)
enough {n} h = record { same = λ f p. h f (suc n) (omega arith) (omega arith) }
