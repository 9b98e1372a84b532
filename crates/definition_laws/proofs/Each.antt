-- A property of every entry of a list and its number. Assumes nothing.
use mathlib.Core.Path.{◌≡◌, refl}
use mathlib.Core.Bool.{Bool, true, false}
use mathlib.Core.List.{List, [], ◌∷◌, ◌++◌}
use Prim.Native.Nat.{ℕ, zero, suc, ◌+◌, ◌<◌}
use native.Mathlib.Omega.{arith}
use lib.ListN.{length, get_or, set, take, drop}
use Rattle.definition.specs.Types.{changed_if, changed_from}

-- the entries are numbered from n on
pub data Each {E : Type 0} (P : ℕ → E → Type 0) : ℕ → List E → Type 0 where
  nil : {n : ℕ} → Each P n []
  cons : {n : ℕ} {e : E} {es : List E} → P n e → Each P (suc n) es → Each P n (e ∷ es)

module _ {E : Type 0} {P : ℕ → E → Type 0} where
  pub each_weaker : {Q : ℕ → E → Type 0} {n : ℕ} {es : List E} → Each P n es → ((i : ℕ) (e : E) → P i e → Q i e) → Each Q n es
  each_weaker nil f = nil
  each_weaker (cons h hs) f = cons (f _ _ h) (each_weaker hs f)

  pub each_at : {n : ℕ} {es : List E} → Each P n es → (i : ℕ) (d : E) → i < length es → P (n + i) (get_or es i d)
  each_at nil i d p = absurd (omega arith)
  each_at {n} (cons h hs) zero d p = let z : n + 0 ≡ n = omega arith in rw z h
  each_at {n} (cons h hs) (suc i) d p = let z : n + suc i ≡ suc n + i = omega arith in rw z (each_at hs i d (omega arith))

  pub each_append : {n : ℕ} {xs ys : List E} → Each P n xs → Each P (n + length xs) ys → Each P n (xs ++ ys)
  each_append {n} nil k = let z : n + 0 ≡ n = omega arith in rw z at k
  each_append {n} (cons {e} {es} h hs) k = let z : n + length (e ∷ es) ≡ suc n + length es = omega arith in cons h (each_append hs (rw z at k))

  pub each_set : {n : ℕ} {es : List E} → Each P n es → (i : ℕ) (x : E) → P (n + i) x → Each P n (set es i x)
  each_set nil i x p = nil
  each_set {n} (cons h hs) zero x p = let z : n + 0 ≡ n = omega arith in cons (rw z at p) hs
  each_set {n} (cons h hs) (suc i) x p = let z : n + suc i ≡ suc n + i = omega arith in cons h (each_set hs i x (rw z at p))

  pub each_take : {n : ℕ} {es : List E} → Each P n es → (k : ℕ) → Each P n (take k es)
  each_take h zero = nil
  each_take nil (suc k) = nil
  each_take {n} (cons h hs) (suc k) = cons h (each_take {n = suc n} hs k)

  pub each-drop : {n : ℕ} {es : List E} → Each P n es → (k : ℕ) → Each P (n + k) (drop k es)
  each-drop {n} h zero = let z : n + 0 ≡ n = omega arith in rw z h
  each-drop nil (suc k) = nil
  each-drop {n} (cons h hs) (suc k) = let z : n + suc k ≡ suc n + k = omega arith in rw z (each-drop {n = suc n} hs k)

-- the same of lists that are numbered from 0 on
module _ {E : Type 0} {P : ℕ → E → Type 0} {es : List E} (h : Each P 0 es) where
  pub each-get : (i : ℕ) (d : E) → i < length es → P i (get_or es i d)
  each-get i d p = let z : 0 + i ≡ i = omega arith in rw z at (each_at h i d p)

  pub each-push : {e : E} → P (length es) e → Each P 0 (es ++ e ∷ [])
  each-push p = let z : 0 + length es ≡ length es = omega arith in each_append h (rw z (cons p nil))

  pub each-put : (i : ℕ) (x : E) → P i x → Each P 0 (set es i x)
  each-put i x p = let z : 0 + i ≡ i = omega arith in each_set h i x (rw z p)

-- the entries from a number on that pass a test are changed, and the others are not
module _ {E : Type 0} (P Q : ℕ → E → Type 0) (test : E → Bool) (change : E → E) where
  one : (b : Bool) (i : ℕ) (e : E) → (b ≡ true → Q i (change e)) → (b ≡ false → Q i e) → Q i (changed_if b change e)
  one true i e h k = h refl
  one false i e h k = k refl

  module _ (f : (i : ℕ) (e : E) → test e ≡ true → P i e → Q i (change e)) (g : (i : ℕ) (e : E) → test e ≡ false → P i e → Q i e) where
    pub each_changed_all : {n : ℕ} {es : List E} → Each P n es → Each Q n (changed_from test change 0 es)
    unfolding changed_from
    each_changed_all nil = nil
    each_changed_all {n} (cons {e} h hs) = cons (one (test e) n e (λ t. f n e t h) (λ t. g n e t h)) (each_changed_all hs)

    pub each_changed : {n : ℕ} {es : List E} (k : ℕ) → ((i : ℕ) (e : E) → i < n + k → P i e → Q i e) → Each P n es → Each Q n (changed_from test change k es)
    unfolding changed_from
    each_changed zero early h = each_changed_all h
    each_changed (suc k) early nil = nil
    each_changed {n} (suc k) early (cons h hs) = cons (early n _ (omega arith) h) (each_changed {n = suc n} k (λ i e p. early i e (omega arith)) hs)

pub changed_length : {E : Type 0} (test : E → Bool) (change : E → E) (k : ℕ) (es : List E) → length (changed_from test change k es) ≡ length es
unfolding changed_from
changed_length test change zero [] = refl
changed_length test change (suc k) [] = refl
changed_length test change zero (e ∷ es) = let z = changed_length test change zero es in omega arith
changed_length test change (suc k) (e ∷ es) = let z = changed_length test change k es in omega arith
