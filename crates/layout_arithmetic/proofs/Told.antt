-- From numbers to answers, and back, for any limit of the numbers. Assumes nothing.
use mathlib.Core.Path.{◌≡◌, sym, ◌∙◌}
use Prim.Native.Nat.{ℕ, ◌^◌, ◌≤◌, ◌<◌}
use native.Mathlib.Omega.{arith}
use Rattle.std.specs.Prelude.{Option, Some, None, SomeIff}
use Rattle.definition.specs.Answer.{Answer, got, refused, ◌>>=◌}
use Rattle.definition.specs.Refusal.{layout_overflow}
use Rattle.definition.specs.Layout.{within}
use Rattle.arithmetic.proofs.Limit.{limited, below, past, either}
use Rattle.layout_arithmetic.specs.Outcome.{exact}

-- a number below a limit, or the refusal of any other
abbrev pub fitting : ℕ → ℕ → ℕ → Answer ℕ
fitting limit at x = limited limit x (got x) (refused layout_overflow at)

-- ---- what a function here answers

pub checked : (limit : ℕ) {x y : ℕ} (o : Option ℕ) → x ≡ y → SomeIff o (x < limit) x → (at : ℕ) → exact o at ≡ fitting limit at y
unfolding exact
checked limit {x} (Some n) e p at = rw (p.1, ← e) (sym (below limit x _ _ p.0))
checked limit {x} None e n at = rw (← e) (sym (past limit x _ _ (omega (arith, n))))

-- ---- what it answered: the number x, or that x is not below the limit

record NumberIs (limit n x : ℕ) : Type 0 where
  pub is : n ≡ x
  pub small : x < limit

number : {limit n x : ℕ} → exact (Some n) 0 ≡ fitting limit 0 x → NumberIs limit n x
unfolding exact
number {limit} {n} {x} = either limit x (got x) (refused layout_overflow 0) (λ r. got n ≡ r → NumberIs limit n x) (λ p e. record { is = cc; small = p }) (λ p e. let z : ◌≡◌ {A = ℕ} 0 1 = cc in absurd (omega arith))

overflow : {limit x : ℕ} → exact None 0 ≡ fitting limit 0 x → limit ≤ x
unfolding exact
overflow {limit} {x} = either limit x (got x) (refused layout_overflow 0) (λ r. refused layout_overflow 0 ≡ r → limit ≤ x) (λ p e. let z : ◌≡◌ {A = ℕ} 0 1 = cc in absurd (omega arith)) (λ p e. p)

-- with 64 bits
module _ {r : Option ℕ} {x : ℕ} (told : (at : ℕ) → exact r at ≡ within at x) where
  pub is_number : {n : ℕ} → r ≡ Some n → n ≡ x
  unfolding within
  is_number e = (number (rw e at (told 0))).is

  pub is-small : {n : ℕ} → r ≡ Some n → x < 2 ^ 64
  unfolding within
  is-small e = (number (rw e at (told 0))).small

  pub is-over : r ≡ None → 2 ^ 64 ≤ x
  unfolding within
  is-over e = overflow (rw e at (told 0))

-- ---- what comes after a number that may not fit

module _ (limit at : ℕ) {n x : ℕ} (e : n ≡ x) {B : Type 0} (k : ℕ → Answer B) where
  pub goes_on : {r : Answer B} → n < limit → r ≡ k n → r ≡ (fitting limit at x >>= k)
  unfolding ◌>>=◌
  goes_on p q = rw (← e) (q ∙ sym (rw (below limit n (got n) (refused layout_overflow at) p, ◌>>=◌)))

  pub stops : limit ≤ n → refused layout_overflow at ≡ (fitting limit at x >>= k)
  unfolding ◌>>=◌
  stops p = rw (← e) (sym (rw (past limit n (got n) (refused layout_overflow at) p, ◌>>=◌)))
