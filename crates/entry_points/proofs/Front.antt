-- Slices that are longer than the limits ask: the front part is lent to the reader, and what lies after it stays zero. Assumes nothing.
use mathlib.Core.Path.{◌≡◌, refl, sym, ap, ◌∙◌}
use mathlib.Core.List.{List, ◌∷◌, ◌++◌}
use Prim.Native.Nat.{ℕ, zero, suc, ◌-◌, ◌≤◌}
use native.Mathlib.Omega.{arith}
use lib.IntN.{ℤ, pos}
use lib.ListN.{length, take, drop, replicate, length-replicate}
use lib.Seq.{length-take-le}
use Rattle.definition.specs.Limit.{max_names}
use Rattle.definition.specs.Table.{new_table}
use Rattle.definition.specs.Entry.{Accepted, accepted}
use Rattle.definition.specs.Lent.{Lent, padded, words, wides, signeds, zeroed, left_in}
use Rattle.definition.specs.Region.{words_length, wides_length, signeds_length}
use Rattle.definition_laws.specs.Inside.{WithinLimits}
use Rattle.definition_laws.proofs.Left.{Long, words-length, wides-length, signeds-length}
use Rattle.table.specs.Held.{Encodes}
use Rattle.starting.proofs.Fresh.{first_cursor, fresh}
use Rattle.clearing.specs.Slices.{lent}

-- ---- zeros

module _ {E : Type 0} (z : E) where
  take_zeros : (k n : ℕ) → k ≤ n → take k (replicate n z) ≡ replicate k z
  take_zeros zero n p = refl
  take_zeros (suc k) zero p = absurd (omega arith)
  take_zeros (suc k) (suc n) p = ap {B = List E} (λ l. z ∷ l) (take_zeros k n (omega arith))

  drop_zeros : (k n : ℕ) → drop k (replicate n z) ≡ replicate (n - k) z
  drop_zeros zero n = let e : n ≡ n - 0 = omega arith in ap (λ m. replicate m z) e
  drop_zeros (suc k) zero = let e : 0 ≡ 0 - suc k = omega arith in ap (λ m. replicate m z) e
  drop_zeros (suc k) (suc n) = drop_zeros k n ∙ (let e : n - k ≡ suc n - suc k = omega arith in ap (λ m. replicate m z) e)

  -- the front part of a slice of zeros is one
  front_length : (k n : ℕ) (xs : List E) → xs ≡ replicate n z → k ≤ n → length (take k xs) ≡ k
  front_length k n xs e p = length-take-le k xs (rw e (rw length-replicate p))

  front-zero : (k n : ℕ) (xs : List E) → xs ≡ replicate n z → k ≤ n → take k xs ≡ replicate (length (take k xs)) z
  front-zero k n xs e p = rw (front_length k n xs e p) (ap (λ l. take k l) e ∙ take_zeros k n p)

  -- a front part that was filled, and the zeros after it
  back : (k n : ℕ) (xs ys : List E) → xs ≡ replicate n z → length ys ≡ k → ys ++ drop k xs ≡ padded z n ys
  unfolding padded
  back k n xs ys e l = ap (λ t. ys ++ t) (ap (λ t. drop k t) e ∙ (drop_zeros k n ∙ ap (λ m. replicate (n - m) z) (sym l)))

-- ---- the lent slices

ap_lent : {w w' d d' : List ℕ} {v v' : List ℤ} → w ≡ w' → d ≡ d' → v ≡ v' → lent w d v ≡ lent w' d' v'
ap_lent p q r = rw (p, q, r)

module _ (l : Lent) (w d : List ℕ) (v : List ℤ) (e : lent w d v ≡ zeroed l) where
  w_zero : w ≡ replicate (length l.words) 0
  unfolding zeroed
  w_zero = ap (λ x. x.words) e

  d_zero : d ≡ replicate (length l.wides) 0
  unfolding zeroed
  d_zero = ap (λ x. x.wides) e

  v_zero : v ≡ replicate (length l.signeds) (pos 0)
  unfolding zeroed
  v_zero = ap (λ x. x.signeds) e

  module _ (long : Long l) where
    w_front : take words_length w ≡ replicate (length (take words_length w)) 0
    w_front = front-zero 0 words_length (length l.words) w w_zero long.words

    d_front : take wides_length d ≡ replicate (length (take wides_length d)) 0
    d_front = front-zero 0 wides_length (length l.wides) d d_zero long.wides

    v_front : take signeds_length v ≡ replicate (length (take signeds_length v)) (pos 0)
    v_front = front-zero (pos 0) signeds_length (length l.signeds) v v_zero long.signeds

    -- the front parts are zero
    pub front_zeros : lent (take words_length w) (take wides_length d) (take signeds_length v) ≡ zeroed (lent (take words_length w) (take wides_length d) (take signeds_length v))
    unfolding zeroed
    front_zeros = ap_lent w_front d_front v_front

    -- and hold the first table
    pub fresh-front : Encodes new_table first_cursor (take words_length w) (take wides_length d) (take signeds_length v)
    fresh-front = fresh (take words_length w) (take wides_length d) (take signeds_length v)
        (front_length 0 words_length (length l.words) w w_zero long.words) (front_length 0 wides_length (length l.wides) d d_zero long.wides) (front_length (pos 0) signeds_length (length l.signeds) v v_zero long.signeds)
        w_front d_front v_front

  -- filled with an accepted table, they leave what the definition says
  pub front-filled : (a : Accepted) → WithinLimits a.table → length a.names ≤ max_names
      → lent (words a ++ drop words_length w) (wides a.table ++ drop wides_length d) (signeds a.table ++ drop signeds_length v) ≡ left_in l (accepted a)
  unfolding left_in
  front-filled a h p = rw (
    back 0 words_length (length l.words) w (words a) w_zero (words-length a h p),
    back 0 wides_length (length l.wides) d (wides a.table) d_zero (wides-length a.table h),
    back (pos 0) signeds_length (length l.signeds) v (signeds a.table) v_zero (signeds-length a.table h),
  )
