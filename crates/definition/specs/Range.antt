-- The range of values. "exact value outside -2^63 to 2^63 - 1; at the literal, operator or enumerator name" is refused.
use Rattle.std.specs.Prelude.{Bool, true, false, ℕ, ◌^◌, ltb, ℤ, pos, negsuc}
use Rattle.std.proofs.Math.Option.{Option, none, some}
use Rattle.definition.specs.Answer.{Answer, got, refused}
use Rattle.definition.specs.Refusal.{out_of_range, division_by_zero}

-- the least power of two above every value; negsuc n is -(n + 1), so n stays below the same power for -2^63
abbrev pub above_range : ℕ
above_range = 2 ^ 63

abbrev pub below_range : ℕ
below_range = 2 ^ 63

unfoldable pub in_range : ℤ → Bool
in_range (pos n) = ltb n above_range
in_range (negsuc n) = ltb n below_range

-- a value at an offset
unfoldable pub ranged : ℕ → ℤ → Answer ℤ
ranged at z = elim (in_range z) [ true ↦ got z | false ↦ refused out_of_range at ]

-- what an operator at an offset gives: "division by zero, any arm; at the operator" is the one that gives nothing
unfoldable pub exact : Option ℤ → ℕ → Answer ℤ
exact none at = refused division_by_zero at
exact (some z) at = ranged at z
