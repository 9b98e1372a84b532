-- Parts of a slice that are filled with zeros. Assumes nothing.
use mathlib.Core.Path.{◌≡◌, refl, sym, ap, ◌∙◌}
use mathlib.Core.Bool.{Bool, true, false}
use mathlib.Core.List.{List}
use Prim.Native.Nat.{ℕ, ◌+◌, ◌≤◌, ◌<◌}
use native.Mathlib.Omega.{arith}
use lib.Dec.{ltb}
use lib.ListN.{length, get_or, take, drop, replicate, length-replicate, length-take, length-drop, get_or-replicate}
use lib.Seq.{ext_get_or}
use borrow.Author.Rules.{rules}
use borrow.Author.Tests.{ltb-true, ltb-false}
use borrow.Rule.Slice.PartMut.{put_mid}
use Rattle.std.proofs.lemmas.List.{places}
use Rattle.erasing.specs.Taken.{Zeros, Out}

-- numbers `from` to `to` are zero, and the others stand
pub record Blank {E : Type 0} (z : E) (from to : ℕ) (xs xs' : List E) : Type 0 where
  pub long : length xs' ≡ length xs
  pub inside : Zeros z from to xs'
  pub others : (i : ℕ) → (from ≤ i → i < to → ⊥) → get_or xs' i z ≡ get_or xs i z

module _ {E : Type 0} (z : E) where
  -- after a part of k numbers was filled
  module _ (from k to : ℕ) (xs ys : List E) (are : ys ≡ replicate (length (take k (drop from xs))) z) (sum : from + k ≡ to) (fits : to ≤ length xs) where
    abbrev part : length (take k (drop from xs)) ≡ k
    part = simp (length-take, length-drop) (omega arith)

    abbrev long : length ys ≡ k
    long = ap length are ∙ length-replicate {A = E} _ z ∙ part

    others-by : (i : ℕ) → (from ≤ i → i < to → ⊥) → (t : Bool) → ltb i from ≡ t → get_or (put_mid from k xs ys) i z ≡ get_or xs i z
    others-by i f true e = let h = long in let l = ltb-true i from e in search (rules, places)
    others-by i f false e = let h = long in let l = ltb-false i from e in let u : to ≤ i = omega (arith, f l) in search (rules, places)

    pub filled : Blank z from to xs (put_mid from k xs ys)
    filled = record {
      long = let h = long in search (rules, places);
      inside = λ i p q. let h = long in let g = part in search (rules, places);
      others = λ i f. others-by i f (ltb i from) refl;
    }

  -- zero up to `end`, which is the region's, or as far as it was used
  module _ {from end used to : ℕ} {xs ys : List E} (b : Blank z from end xs ys) (p : end ≤ to) (q : end < to → used ≤ end) where
    zero-by : ((i : ℕ) → used ≤ i → i < to → get_or xs i z ≡ z) → (i : ℕ) → from ≤ i → i < to → (t : Bool) → ltb i end ≡ t → get_or ys i z ≡ z
    zero-by f i u v true e = b.inside i u (ltb-true i end e)
    zero-by f i u v false e = let n = ltb-false i end e in let m = q (omega arith) in b.others i (λ _ s. omega arith) ∙ f i (omega arith) v

    out_of : Out z from used to xs ys
    out_of = record { long = b.long; zero = λ f i u v. zero-by f i u v (ltb i end) refl; others = λ i f. b.others i (λ u v. f u (omega arith)) }

  -- after a region was filled as far as it was used, or whole
  pub emptied : (from k used to : ℕ) (xs ys : List E) → ys ≡ replicate (length (take k (drop from xs))) z → to ≤ length xs → from + k ≤ to → (from + k < to → used ≤ from + k) → Out z from used to xs (put_mid from k xs ys)
  emptied from k used to xs ys are fits p q = out_of (filled from k (from + k) xs ys are refl (omega arith)) p q

  pub all-zero : (n : ℕ) (xs : List E) → length xs ≡ n → ((i : ℕ) → i < n → get_or xs i z ≡ z) → xs ≡ replicate n z
  all-zero n xs l f = ext_get_or z xs (replicate n z) (l ∙ sym (length-replicate {A = E} n z)) (λ i p. f i (omega arith) ∙ sym (get_or-replicate n i z z (omega arith)))
