-- (From the kit: examples/laws.) A rule of all numbers of a range, proved by one test that antt computes, one number after the other.
-- Assumes nothing.
use mathlib.Core.Path.{◌≡◌, refl, subst, sym}
use mathlib.Core.Bool.{Bool, true, false}
use mathlib.Core.List.{List, [], ◌∷◌}
use Prim.Native.Nat.{ℕ, zero, suc, ◌+◌, ◌≤◌, ◌<◌}
use native.Mathlib.Omega.{arith}
use borrow.Author.Tests.{eqb-true, eqb-false}
use lib.Dec.{T, eqb}

abbrev pub both : Bool → Bool → Bool
both true b = b
both false b = false

both_left : (a b : Bool) → T (both a b) → T a
both_left true b t = tt
both_left false b t = t

both_right : (a b : Bool) → T (both a b) → T b
both_right true b t = t
both_right false b t = absurd t

-- the test f passes at n numbers from i on
abbrev pub span : (ℕ → Bool) → ℕ → ℕ → Bool
span f i zero = true
span f i (suc n) = both (f i) (span f (suc i) n)

pub within : (f : ℕ → Bool) (i n : ℕ) → T (span f i n) → (b : ℕ) → i ≤ b → b < i + n → T (f b)
within f i zero t b l h = absurd (omega arith)
within f i (suc n) t b l h = by (eqb b i) refl (λ l' h'. within f (suc i) n (both_right (f i) (span f (suc i) n) t) b l' h')
  where
    by : (u : Bool) → eqb b i ≡ u → (suc i ≤ b → b < suc i + n → T (f b)) → T (f b)
    by true e ih = subst (λ (m : ℕ). T (f m)) (sym (eqb-true b i e)) (both_left (f i) (span f (suc i) n) t)
    by false e ih = let k = eqb-false b i e in ih (omega (arith, k)) (omega arith)

-- two tests that agree
abbrev pub alike : Bool → Bool → Bool
alike true b = b
alike false true = false
alike false false = true

pub equal : (a b : Bool) → T (alike a b) → a ≡ b
equal true true t = refl
equal true false t = absurd t
equal false true t = absurd t
equal false false t = refl

-- the default arm of a match: a number that is none of the arms' keys, the last key first
abbrev pub Apart : ℕ → List ℕ → Type 0
Apart v [] = Unit {0}
Apart v (k ∷ ks) = Apart v ks × (v ≡ k → ⊥)
