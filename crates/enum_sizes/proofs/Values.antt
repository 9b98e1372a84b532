-- The values one by one. Assumes nothing.
use mathlib.Core.Path.{◌≡◌, refl, sym, ap, ◌∙◌}
use mathlib.Core.Bool.{Bool, true, false, ◌&&◌, and-false, and_assoc}
use mathlib.Core.List.{List, [], ◌∷◌}
use Prim.Native.Nat.{ℕ, zero, suc, ◌+◌, ◌-◌, ◌≤◌, ◌<◌}
use native.Mathlib.Omega.{arith}
use lib.ListN.{length, get_or, drop}
use Rattle.std.specs.Bool.{MatchBool}
use Rattle.std.specs.List.{AllWithin, HoldsAt, range_with_len}
use Rattle.std.proofs.lemmas.List.FromFn.{length-range_with_len, get_or-range_with_len}
use Rattle.definition.specs.Table.{Value}
use Rattle.definition.specs.Enumeration.{all_fit}
use Rattle.table.specs.Held.{no_value}
use Rattle.enum_sizes.specs.OfValues.{fits_four}

first_fits : (v : Value) (vs : List Value) → all_fit (v ∷ vs) ≡ (fits_four v.value && all_fit vs)
unfolding all_fit
first_fits v vs = simp and_assoc

-- all from number i on fit
all : (vs : List Value) (i : ℕ) → ((k : ℕ) → i ≤ k → k < length vs → fits_four (get_or vs k no_value).value ≡ true) → all_fit (drop i vs) ≡ true
unfolding all_fit
all [] zero h = refl
all [] (suc i) h = refl
all (v ∷ vs) zero h = first_fits v vs ∙ rw (h 0 (omega arith) (omega arith), all vs zero (λ k p q. h (suc k) (omega arith) (omega arith)))
all (v ∷ vs) (suc i) h = all vs i (λ k p q. h (suc k) (omega arith) (omega arith))

-- one of them does not
miss : (vs : List Value) (i k : ℕ) → i ≤ k → k < length vs → fits_four (get_or vs k no_value).value ≡ false → all_fit (drop i vs) ≡ false
miss [] i k p q e = absurd (omega arith)
miss (v ∷ vs) zero zero p q e = first_fits v vs ∙ rw e
miss (v ∷ vs) zero (suc k) p q e = first_fits v vs ∙ rw (miss vs zero k (omega arith) (omega arith) e) (and-false _)
miss (v ∷ vs) (suc i) zero p q e = absurd (omega arith)
miss (v ∷ vs) (suc i) (suc k) p q e = miss vs i k (omega arith) (omega arith) e

-- the numbers from i on, tested in turn
module _ (vs : List Value) (i : ℕ) {ns : List ℕ} (e : ns ≡ range_with_len i (length vs - i)) where
  long : length ns ≡ length vs - i
  long = ap length e ∙ length-range_with_len i (length vs - i)

  number : (k : ℕ) → k < length vs - i → get_or ns k 0 ≡ i + k
  number k p = ap (λ l. get_or l k 0) e ∙ get_or-range_with_len i (length vs - i) k 0 p

  pub tested : (r : Bool)
      → MatchBool r (AllWithin (λ k. fits_four (get_or vs k no_value).value ≡ true) ns 0 (length ns))
      ((k : ℕ) × (k < length ns) × HoldsAt (λ k. fits_four (get_or vs k no_value).value ≡ false) ns k)
      → r ≡ all_fit (drop i vs)
  tested true m = sym (all vs i (λ k p q.
      let f : get_or ns (k - i) 0 ≡ k = number (k - i) (omega arith) ∙ omega arith in
      rw f at (m (k - i) 0 (omega arith) (omega (arith, long)))))
  tested false (k, p, h) = sym (miss vs i (i + k) (omega arith) (omega (arith, long)) (rw (number k (omega (arith, long))) at (h 0)))
