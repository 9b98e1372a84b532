-- Laws of a value that is none where it is too large. Assumes nothing.
use mathlib.Core.Path.{◌≡◌, refl, sym, ap, ◌∙◌}
use mathlib.Core.Bool.{Bool, true, false}
use Prim.Native.Nat.{ℕ, ◌+◌, ◌*◌, ◌^◌, ◌≤◌, ◌<◌}
use native.Mathlib.Nat.{le-mul_of_pos_right, lt_of_not-le}
use native.Mathlib.Decide.{dec_le}
use native.Mathlib.Omega.{arith}
use lib.ListN.{length, take, get_or}
use Rattle.std.specs.Prelude.{Option, Some, None}
use Rattle.definition.specs.Answer.{got, refused}
use Rattle.definition.specs.Text.{Bytes}
use Rattle.definition.specs.Number.{digit_value, value_from, in_range}
use Rattle.lemmas.proofs.Branch.{lt_yes, lt_no}
use Rattle.literals.specs.Shown.{ranged, with_digit}
use Rattle.literals.proofs.Digits.{value-more, in_range_lem, out_of_range}

small : (v : ℕ) → v < 2 ^ 63 → ranged v ≡ Some v
small v h = lt_yes v (2 ^ 63) (Some v) None h

large : (v : ℕ) → 2 ^ 63 ≤ v → ranged v ≡ None
large v h = lt_no v (2 ^ 63) (Some v) None h

-- one digit more
pub digit_more : (v base d : ℕ) → 0 < base → with_digit (ranged v) base d ≡ ranged (v * base + d)
digit_more v base d p = by (dec_le (2 ^ 63) v)
  where
    by : Dec (2 ^ 63 ≤ v) → with_digit (ranged v) base d ≡ ranged (v * base + d)
    by (no q) = ap (λ (o : Option ℕ). with_digit o base d) (small v (lt_of_not-le q))
    by (yes l) = let m = le-mul_of_pos_right {m = base} v p in ap (λ (o : Option ℕ). with_digit o base d) (large v l) ∙ sym (large (v * base + d) (omega arith))

-- what it answers
pub ranged-some : (at n v : ℕ) → Some v ≡ ranged n → in_range at n ≡ got v
ranged-some at n v e = by (dec_le (2 ^ 63) n)
  where
    by : Dec (2 ^ 63 ≤ n) → in_range at n ≡ got v
    by (no q) = let l = lt_of_not-le q in let s = e ∙ small n l in let f : v ≡ n = cc in rw f (in_range_lem at n l)
    by (yes l) = let s = e ∙ large n l in absurd cc

pub ranged-none : (at n : ℕ) → None ≡ ranged n → in_range at n ≡ refused 8 at
ranged-none at n e = by (dec_le (2 ^ 63) n)
  where
    by : Dec (2 ^ 63 ≤ n) → in_range at n ≡ refused 8 at
    by (no q) = let s = e ∙ small n (lt_of_not-le q) in absurd cc
    by (yes l) = out_of_range at n l

-- a turn of the loop over digits
pub digits-next : {c r : Option ℕ} {d : ℕ} (base : ℕ) (w : Bytes) (i : ℕ) → i < length w → d < base → r ≡ with_digit c base d → d ≡ digit_value (get_or w i 0)
    → c ≡ ranged (value_from base 0 (take i w)) → r ≡ ranged (value_from base 0 (take (i + 1) w))
digits-next base w i h l a q k = rw (value-more base 0 w i h, ← q) (a ∙ rw k (digit_more _ base _ (omega arith)))
