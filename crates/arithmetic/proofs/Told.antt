-- From an exact value to what an operator answers. Assumes nothing.
use mathlib.Core.Path.{◌≡◌, refl, fun_ext, ◌∙◌}
use native.Mathlib.Omega.{arith}
use borrow.Author.Rules.{sfits_of}
use mathlib.Core.Bool.{Bool, true, false}
use mathlib.Core.Option.{none, some}
use Rattle.std.specs.Prelude.{Option, Some, None, SomeIff, Result, Ok, Err, OkIff, MatchResult, IsErrAnd}
use Rattle.std.specs.Option.{ok_or}
use Prim.Native.Nat.{ℕ, ◌≤◌, ◌<◌, ◌^◌, ◌*◌, ◌%◌, ◌-◌, min}
use borrow.Author.Tests.{lt-ltb, le-ltb}
use native.Mathlib.Nat.{one-mul, mod-eq_of_lt}
use lib.Pow.{pow-lt}
use lib.IntN.{ℤ, pos, negsuc}
use lib.Signed.{mag, quot_z, rem_z, shr_z, mag_shr}
use lib.Bits.{bit_and, bit_or, bit_xor, and_mask, mask_lt}
use mir.Syntax.{Width, w64}
use mir.Val.{SFits, bits, hbits, to_z, of_z, bool_byte}
use mir.Facts.{to_z-of_z}
use Rattle.definition.specs.Arithmetic.{is_zero, over, rest, truth, modulo, count_modulus, count, and_z, or_z, xor_z, complement}
use Rattle.definition.specs.Range.{in_range, ranged, exact}
use Rattle.arithmetic.proofs.Half.{Past, double}
use Rattle.std.proofs.lemmas.Int.{to_z-of_z as machine}
use Rattle.arithmetic.proofs.Bitwise.{low_bits, narrow, plain, same_bits, zero_bits, and_bits, and_in, or_bits, or_in, xor_bits, xor_in, not_bits, not_in}
use Rattle.arithmetic.proofs.Signs.{shift_capped}
use Rattle.arithmetic.specs.Outcome.{answer}
use Rattle.arithmetic.specs.declared.ArithmeticError.{ArithmeticError}
use Rattle.arithmetic.specs.declared.ArithmeticError.TheVariants.{OutOfRange, DivisionByZero}

yes : (z : ℤ) → mag z < 2 ^ 63 → in_range z ≡ true
unfolding in_range
yes (pos n) p = lt-ltb n (2 ^ 63) p
yes (negsuc n) p = lt-ltb n (2 ^ 63) p

nay : (z : ℤ) → 2 ^ 63 ≤ mag z → in_range z ≡ false
unfolding in_range
nay (pos n) p = le-ltb n (2 ^ 63) p
nay (negsuc n) p = le-ltb n (2 ^ 63) p

pub value : (z : ℤ) → mag z < 2 ^ 63 → answer (Ok z) ≡ exact (some z)
unfolding answer exact ranged
value z p = fun_ext (λ at. rw (yes z p, ranged))

-- a value that the machine made from its bits
pub back : {z : ℤ} → SFits w64 z → to_z w64 (of_z w64 z) ≡ z
back f = to_z-of_z f

pub made : {z : ℤ} → SFits w64 z → answer (Ok (to_z w64 (of_z w64 z))) ≡ exact (some z)
made {z} f = rw (back f) (value z f.sfits)

pub beyond : {z : ℤ} → Past w64 z → answer (Err OutOfRange) ≡ exact (some z)
unfolding answer exact ranged
beyond {z} p = fun_ext (λ at. rw (nay z p.past, ranged))

pub undefined : answer (Err DivisionByZero) ≡ exact none
unfolding answer exact
undefined = refl

-- what the machine found to fit, or not
pub checked : (z : ℤ) (o : Option ℤ) (r : Result ℤ ArithmeticError) → r ≡ ok_or o OutOfRange → SomeIff o (SFits w64 z) z → answer r ≡ exact (some z)
checked z (Some x) r e p = rw (e, p.1) (value z p.0.sfits)
checked z None r e n = let h : mag z < 2 ^ 63 → ⊥ = λ p. n (sfits_of p) in rw e (beyond (record { past = omega arith }))

-- what was found of two facts, of which one is known
pub given : {A : Type 0} (P Q : Type 0) (v : A) (o : Option A) → P → SomeIff o (P × Q) v → SomeIff o Q v
given P Q v (Some x) p s = (s.0.1, s.1)
given P Q v None p s = λ q. s (p, q)

pub converted : {E : Type 0} (z : ℤ) (o : Result ℤ E) (r : Result ℤ ArithmeticError) → OkIff o (SFits w64 z) z → MatchResult o (λ x. r ≡ Ok x) (λ _. IsErrAnd r (λ d. d ≡ OutOfRange)) → answer r ≡ exact (some z)
converted z (Ok x) r p m = rw (m, p.1) (value z p.0.sfits)
converted z (Err e) (Ok x) n m = absurd m
converted z (Err e) (Err d) n m = let h : mag z < 2 ^ 63 → ⊥ = λ p. n (sfits_of p) in rw m (beyond (record { past = omega arith }))

-- ---- operators that have no value at 0

module _ (a b : ℤ) where
  pub over_none : is_zero b ≡ true → over a b ≡ none
  unfolding over
  over_none e = rw (e, over)

  pub over-some : is_zero b ≡ false → over a b ≡ some (quot_z a b)
  unfolding over
  over-some e = rw (e, over)

  pub rest-none : is_zero b ≡ true → rest a b ≡ none
  unfolding rest
  rest-none e = rw (e, rest)

  pub rest_some : is_zero b ≡ false → rest a b ≡ some (rem_z a b)
  unfolding rest
  rest_some e = rw (e, rest)

-- ---- the count of a shift

pub low_count : {b : ℤ} → SFits w64 b → bit_and (of_z w64 b) 4294967295 ≡ modulo b count_modulus
low_count {b} f = and_mask (of_z w64 b) 32 ∙ low_bits w64 32 32 refl b (narrow w64 b f.sfits)

pub low_small : (n : ℕ) → bit_and n 4294967295 < count_modulus
low_small n = mask_lt n 32

-- 1 moved up by fewer places than the sign's
pub power : (w : Width) (n : ℕ) → n < hbits w → to_z w (1 * 2 ^ n % 2 ^ bits w) ≡ pos (2 ^ n)
power w n p =
    let q : 2 ^ n < 2 ^ hbits w = pow-lt p in
    rw (one-mul (2 ^ n), mod-eq_of_lt {n = 2 ^ n} {m = 2 ^ bits w} (omega (arith, double w))) (plain w (2 ^ n) q)

-- ---- the operators that always have a value, on the machine's bits

-- a test, as a number
pub byte_truth : (t : Bool) → pos (bool_byte t) ≡ truth t
unfolding truth
byte_truth true = refl
byte_truth false = refl

-- what a conversion gave, which fits
pub whole : (z : ℤ) → mag z < 2 ^ 63 → answer (Ok (to_z w64 (of_z w64 z))) ≡ exact (some z)
whole z p = made (sfits_of p)

module _ {a b : ℤ} (f : SFits w64 a) (g : SFits w64 b) where
  pub anded : answer (Ok (to_z w64 (bit_and (of_z w64 a) (of_z w64 b)))) ≡ exact (some (and_z a b))
  anded = rw (and_bits w64 a b (narrow w64 a f.sfits) (narrow w64 b g.sfits)) (made (sfits_of (and_in 63 a b f.sfits g.sfits)))

  pub ored : answer (Ok (to_z w64 (bit_or (of_z w64 a) (of_z w64 b)))) ≡ exact (some (or_z a b))
  ored = rw (or_bits w64 a b (narrow w64 a f.sfits) (narrow w64 b g.sfits)) (made (sfits_of (or_in 63 a b f.sfits g.sfits)))

  pub xored : answer (Ok (to_z w64 (bit_xor (of_z w64 a) (of_z w64 b)))) ≡ exact (some (xor_z a b))
  xored = rw (xor_bits w64 a b (narrow w64 a f.sfits) (narrow w64 b g.sfits)) (made (sfits_of (xor_in 63 a b f.sfits g.sfits)))

  -- a shift goes by the last place where it would go farther
  pub moved : {k n : ℕ} → k ≡ count (to_z w64 (of_z w64 b)) → n ≡ min k 63 → answer (Ok (to_z w64 (of_z w64 (shr_z (to_z w64 (of_z w64 a)) (2 ^ n))))) ≡ exact (some (shr_z a (2 ^ count b)))
  moved p q = rw (q, p, back f, back g, shift_capped 63 a (count b) f.sfits) (made (sfits_of (omega (arith, f.sfits, mag_shr a (2 ^ count b)))))

pub turned : {a : ℤ} → SFits w64 a → answer (Ok (to_z w64 (2 ^ 64 - 1 - of_z w64 a))) ≡ exact (some (complement a))
turned {a} f = rw (not_bits w64 a (narrow w64 a f.sfits)) (made (sfits_of (not_in 63 a f.sfits)))

pub ruleset tests = (machine, same_bits, zero_bits, byte_truth, whole, ored, anded, xored, moved, turned)
