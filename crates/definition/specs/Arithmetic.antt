-- The operators of constants (C11 6.5, 6.6): exact values of whole numbers, before any range is asked for.
use Rattle.std.specs.Prelude.{List, [], ◌∷◌, Bool, true, false, ◌&&◌, ◌||◌, not, ℕ, ◌-◌, ◌%◌, ◌^◌, min, eqb, ℤ, pos, negsuc, neg_ℤ, ◌+ℤ◌, ◌-ℤ◌, ◌*ℤ◌}
use Rattle.std.proofs.Math.Option.{Option, none, some}
use Rattle.std.specs.Int.Bits.{bit_and, bit_or, bit_xor}
use Rattle.std.specs.Int.Signed.{lt_z, le_z, quot_z, rem_z, shr_z}
use Rattle.definition.specs.Kind as Kind

-- an operator's exact value; none where it has no value
abbrev pub Operator : Type 0
Operator = ℤ → ℤ → Option ℤ

unfoldable pub is_zero : ℤ → Bool
is_zero (pos n) = eqb n 0
is_zero (negsuc n) = false

-- C11 6.5.8: "1 if the specified relation is true and 0 if it is false"
unfoldable pub truth : Bool → ℤ
truth true = pos 1
truth false = pos 0

-- ---- products and sums

unfoldable pub times : Operator
times x y = some (x *ℤ y)

-- "Division truncates toward zero"; by zero it has no value
unfoldable pub over : Operator
over x y = elim (is_zero y) [ true ↦ none | false ↦ some (quot_z x y) ]

-- C11 6.5.5: "(a/b)*b + a%b shall equal a", so it has the sign of a
unfoldable pub rest : Operator
rest x y = elim (is_zero y) [ true ↦ none | false ↦ some (rem_z x y) ]

unfoldable pub sum : Operator
sum x y = some (x +ℤ y)

unfoldable pub difference : Operator
difference x y = some (x -ℤ y)

-- ---- shifts

abbrev pub count_modulus : ℕ
count_modulus = 2 ^ 32

abbrev pub count_cap : ℕ
count_cap = 127

unfoldable pub modulo : ℤ → ℕ → ℕ
modulo (pos n) m = n % m
modulo (negsuc n) m = m - 1 - n % m

-- "The shift count is the right side modulo 2^32, capped at 127."
unfoldable pub count : ℤ → ℕ
count y = min (modulo y count_modulus) count_cap

unfoldable pub shift_left : Operator
shift_left x y = some (x *ℤ pos (2 ^ count y))

-- "a right shift rounds down"
unfoldable pub shift_right : Operator
shift_right x y = some (shr_z x (2 ^ count y))

-- ---- comparisons

unfoldable pub less : Operator
less x y = some (truth (lt_z x y))

unfoldable pub greater : Operator
greater x y = some (truth (lt_z y x))

unfoldable pub at_most : Operator
at_most x y = some (truth (le_z x y))

unfoldable pub at_least : Operator
at_least x y = some (truth (le_z y x))

unfoldable pub eq_z : ℤ → ℤ → Bool
eq_z (pos a) (pos b) = eqb a b
eq_z (pos a) (negsuc b) = false
eq_z (negsuc a) (pos b) = false
eq_z (negsuc a) (negsuc b) = eqb a b

unfoldable pub equal : Operator
equal x y = some (truth (eq_z x y))

unfoldable pub unequal : Operator
unequal x y = some (truth (not (eq_z x y)))

-- ---- bits, in two's complement of any width: negsuc n has the bits of n turned over

-- the bits of a that b has not
unfoldable pub without : ℕ → ℕ → ℕ
without a b = a - bit_and a b

unfoldable pub and_z : ℤ → ℤ → ℤ
and_z (pos a) (pos b) = pos (bit_and a b)
and_z (pos a) (negsuc b) = pos (without a b)
and_z (negsuc a) (pos b) = pos (without b a)
and_z (negsuc a) (negsuc b) = negsuc (bit_or a b)

unfoldable pub or_z : ℤ → ℤ → ℤ
or_z (pos a) (pos b) = pos (bit_or a b)
or_z (pos a) (negsuc b) = negsuc (without b a)
or_z (negsuc a) (pos b) = negsuc (without a b)
or_z (negsuc a) (negsuc b) = negsuc (bit_and a b)

unfoldable pub xor_z : ℤ → ℤ → ℤ
xor_z (pos a) (pos b) = pos (bit_xor a b)
xor_z (pos a) (negsuc b) = negsuc (bit_xor a b)
xor_z (negsuc a) (pos b) = negsuc (bit_xor a b)
xor_z (negsuc a) (negsuc b) = pos (bit_xor a b)

unfoldable pub bits_and : Operator
bits_and x y = some (and_z x y)

unfoldable pub bits_xor : Operator
bits_xor x y = some (xor_z x y)

unfoldable pub bits_or : Operator
bits_or x y = some (or_z x y)

-- ---- truth values

unfoldable pub both : Operator
both x y = some (truth (not (is_zero x) && not (is_zero y)))

unfoldable pub either : Operator
either x y = some (truth (not (is_zero x) || not (is_zero y)))

-- C11 6.5.15: the second operand "if the first compares unequal to 0", else the third. "Every arm is evaluated."
unfoldable pub chosen : ℤ → ℤ → ℤ → ℤ
chosen c x y = elim (is_zero c) [ true ↦ y | false ↦ x ]

-- ---- the table of operators: mark, precedence, value

unfoldable pub operators : List (ℕ × ℕ × Operator)
operators =
    (Kind.or_or, 1, either)
    ∷ (Kind.and_and, 2, both)
    ∷ (Kind.bar, 3, bits_or)
    ∷ (Kind.caret, 4, bits_xor)
    ∷ (Kind.ampersand, 5, bits_and)
    ∷ (Kind.equal_equal, 6, equal) ∷ (Kind.not_equal, 6, unequal)
    ∷ (Kind.less, 7, less) ∷ (Kind.greater, 7, greater) ∷ (Kind.less_equal, 7, at_most) ∷ (Kind.greater_equal, 7, at_least)
    ∷ (Kind.shift_left, 8, shift_left) ∷ (Kind.shift_right, 8, shift_right)
    ∷ (Kind.plus, 9, sum) ∷ (Kind.minus, 9, difference)
    ∷ (Kind.star, 10, times) ∷ (Kind.slash, 10, over) ∷ (Kind.percent, 10, rest)
    ∷ []

-- of no operator: no precedence, and the left side as it is
abbrev pub no_precedence : ℕ
no_precedence = 0

unfoldable pub left_side : Operator
left_side x y = some x

unfoldable pub operator_in : List (ℕ × ℕ × Operator) → ℕ → ℕ × Operator
operator_in [] k = (no_precedence, left_side)
operator_in (o ∷ os) k = elim (eqb k o.0) [ true ↦ (o.1, o.2) | false ↦ operator_in os k ]

-- the precedence, and the value, of the operator that a kind of token is
unfoldable pub precedence : ℕ → ℕ
precedence k = (operator_in operators k).0

unfoldable pub operator : ℕ → Operator
operator k = (operator_in operators k).1

-- ---- the table of prefixes: mark, value

-- two's complement of any width: every bit turned over
unfoldable pub complement : ℤ → ℤ
complement (pos n) = negsuc n
complement (negsuc n) = pos n

-- C11 6.5.3.3: "!E is equivalent to (0==E)"
unfoldable pub is_false : ℤ → ℤ
is_false x = truth (is_zero x)

unfoldable pub unchanged : ℤ → ℤ
unchanged x = x

unfoldable pub prefixes : List (ℕ × (ℤ → ℤ))
prefixes = (Kind.minus, neg_ℤ) ∷ (Kind.plus, unchanged) ∷ (Kind.tilde, complement) ∷ (Kind.bang, is_false) ∷ []

unfoldable pub prefix_in : List (ℕ × (ℤ → ℤ)) → ℕ → Bool × (ℤ → ℤ)
prefix_in [] k = (false, unchanged)
prefix_in (p ∷ ps) k = elim (eqb k p.0) [ true ↦ (true, p.1) | false ↦ prefix_in ps k ]

-- a kind of token is a prefix; its value
unfoldable pub is_prefix : ℕ → Bool
is_prefix k = (prefix_in prefixes k).0

unfoldable pub prefixed : ℕ → ℤ → ℤ
prefixed k = (prefix_in prefixes k).1
