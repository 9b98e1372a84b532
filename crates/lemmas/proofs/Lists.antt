-- Lists of one value, and lists by their next entry: what `lib.ListN` and `lib.Seq` leave. Assumes nothing.
use mathlib.Core.Path.{◌≡◌, refl}
use mathlib.Core.List.{List, ◌∷◌}
use Prim.Native.Nat.{ℕ, zero, suc, ◌+◌, ◌<◌}
use native.Mathlib.Numerals.{add-one}
use native.Mathlib.Omega.{arith}
use lib.ListN.{length, get_or, drop, set, replicate, length-replicate}
use lib.Seq.{drop-cons, get_or-set_same, get_or-set_other}

module _ {A : Type 0} where
  pub get_d_replicate_default : (z : A) (n i : ℕ) → get_or (replicate n z) i z ≡ z
  get_d_replicate_default z zero i = refl
  get_d_replicate_default z (suc n) zero = refl
  get_d_replicate_default z (suc n) (suc i) = get_d_replicate_default z n i

  pub length_of_replicate : (z : A) (n : ℕ) (l : List A) → l ≡ replicate n z → length l ≡ n
  length_of_replicate z n l e = rw e (length-replicate n z)

  pub drop-next : (l : List A) (i : ℕ) (d : A) → i < length l → drop i l ≡ get_or l i d ∷ drop (i + 1) l
  drop-next l i d h = rw add-one (drop-cons l i d h)

  -- an entry that was set, and one before it
  pub get_d_set_at : (l : List A) (i j : ℕ) (a d : A) → i < length l → j ≡ i → get_or (set l i a) j d ≡ a
  get_d_set_at l i j a d h e = rw e (get_or-set_same l i a d h)

  pub get_d_set_before : (l : List A) (i j : ℕ) (a d : A) → j < i → get_or (set l i a) j d ≡ get_or l j d
  get_d_set_before l i j a d h = get_or-set_other l i j a d (λ e. omega arith)
