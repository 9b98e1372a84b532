-- The size of a record. Assumes nothing.
use mathlib.Core.Path.{◌≡◌, refl, sym, ap, ◌∙◌}
use mathlib.Core.Bool.{Bool, true, false}
use Prim.Native.Nat.{ℕ, ◌*◌, ◌/◌, ◌^◌, ◌≤◌, ◌<◌}
use native.Mathlib.Omega.{arith}
use native.Mathlib.Nat.{mul-div_cancel, mul-le-mul_right, mul-lt-mul_of_pos_right}
use Rattle.definition.specs.Answer.{Answer, got, refused, ◌>>=◌}
use Rattle.definition.specs.Refusal.{layout_overflow}
use Rattle.definition.specs.Model.{Model}
use Rattle.definition.specs.Table.{Table}
use Rattle.definition.specs.Layout.{within, round_up, bytes_taken, record_size}
use Rattle.definition.specs.Layout as layout
use Rattle.arithmetic.proofs.Limit.{below, past}
use Rattle.layout_arithmetic.specs.Outcome.{exact, sized}
use Rattle.std.specs.Prelude.{Option, Some, None, Result, Ok, Err, IsErrAnd}
use Rattle.std.specs.Option.{ok_or}
use Rattle.layout_arithmetic.specs.declared.SizeError.{SizeError}
use Rattle.layout_arithmetic.specs.declared.SizeError.TheVariants as sizes
use Rattle.layout_arithmetic.proofs.RoundUp.{parts}
use Rattle.layout_arithmetic.proofs.Told.{fitting, goes_on, stops}

module _ {A B : Type 0} {r : Answer A} (k : A → Answer B) where
  then-got : {a : A} → r ≡ got a → (r >>= k) ≡ k a
  unfolding ◌>>=◌
  then-got e = rw (e, ◌>>=◌)

  then-refused : {n at : ℕ} → r ≡ refused n at → (r >>= k) ≡ refused n at
  unfolding ◌>>=◌
  then-refused e = rw (e, ◌>>=◌)

-- v in whole parts of d each: it stays below limit * d where there are fewer than limit parts
module _ (limit d v at : ℕ) (p : 0 < d) where
  parts-fit : {n : ℕ} → n ≡ round_up v d / d → n < limit → got n ≡ (fitting (limit * d) at (round_up v d) >>= λ b. got (b / d))
  parts-fit {n} q h = goes_on (limit * d) at (ap (λ x. x * d) q ∙ parts v d p) _ (mul-lt-mul_of_pos_right h p) (ap got (sym (mul-div_cancel n p)))

  parts_pass : limit ≤ round_up v d / d → refused layout_overflow at ≡ (fitting (limit * d) at (round_up v d) >>= λ b. got (b / d))
  parts_pass h = stops (limit * d) at (parts v d p) _ (mul-le-mul_right d h)

module _ (m : Model) (t : Table) (union : Bool) (at : ℕ) (l : layout.Laid) where
  pub union-bytes : union ≡ true → exact (Some l.widest) at ≡ bytes_taken m t union at l
  unfolding exact bytes_taken
  union-bytes e = rw (e, bytes_taken)

  pub struct_bytes : {n : ℕ} → union ≡ false → n ≡ round_up l.taken 8 / 8 → n < 2 ^ 61 → exact (Some n) at ≡ bytes_taken m t union at l
  unfolding exact bytes_taken within
  struct_bytes e q h = rw (e, bytes_taken) (parts-fit (2 ^ 61) 8 l.taken at (omega arith) q h)

  pub struct_out : union ≡ false → 2 ^ 61 ≤ round_up l.taken 8 / 8 → exact None at ≡ bytes_taken m t union at l
  unfolding exact bytes_taken within
  struct_out e h = rw (e, bytes_taken) (parts_pass (2 ^ 61) 8 l.taken at (omega arith) h)

  pub bytes-out : exact None at ≡ bytes_taken m t union at l → sized (Err sizes.Overflow) at ≡ record_size m t union at l
  unfolding exact sized record_size
  bytes-out e = sym (then-refused _ (sym e))

  module _ (b : ℕ) (e : exact (Some b) at ≡ bytes_taken m t union at l) where
    pub size-out : 2 ^ 64 ≤ round_up b l.align → sized (Err sizes.Overflow) at ≡ record_size m t union at l
    unfolding exact sized record_size within
    size-out h = stops (2 ^ 64) at refl _ h ∙ sym (then-got _ (sym e))

    pub size-large : round_up b l.align < 2 ^ 64 → 2 ^ 32 ≤ round_up b l.align → sized (Err sizes.TooLarge) at ≡ record_size m t union at l
    unfolding exact sized record_size within
    size-large h k = goes_on (2 ^ 64) at refl _ h (sym (past (2 ^ 32) _ _ _ k)) ∙ sym (then-got _ (sym e))

    pub size_is : {n : ℕ} → n ≡ round_up b l.align → n < 2 ^ 32 → sized (Ok n) at ≡ record_size m t union at l
    unfolding exact sized record_size within
    size_is q h = goes_on (2 ^ 64) at q _ (omega arith) (sym (below (2 ^ 32) _ _ _ h)) ∙ sym (then-got _ (sym e))

-- what the exit of a `?` returns
pub overflowed : (r : Result ℕ SizeError) (e : SizeError) (o : Option ℕ) → IsErrAnd r (λ y. y ≡ e) → Err e ≡ ok_or o sizes.Overflow → r ≡ Err sizes.Overflow
overflowed (Ok n) e o p q = absurd p
overflowed (Err y) e (Some n) p q = cc
overflowed (Err y) e None p q = cc
