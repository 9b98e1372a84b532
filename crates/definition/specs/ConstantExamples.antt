-- Constant expressions, computed: the bodies of P5 to P8 of document 01, prefixes, precedence and depth.
use Rattle.std.specs.Prelude.{◌≡◌, refl, List, [], ◌∷◌, ◌++◌, map, ℕ, zero, suc, ◌+◌, ◌-◌, ◌^◌, true, false, eqb, ℤ, pos, negsuc}
use Rattle.std.proofs.Math.Option.{Option, none, some}
use Rattle.definition.specs.Answer.{got, refused, ◌>>=◌}
use Rattle.definition.specs.Refusal.{out_of_range, too_deep, missing_mark, division_by_zero, no_constant}
use Rattle.definition.specs.Kind.{number, identifier, is_name, sizeof_word, open_paren, close_paren, question, colon, star, slash, percent, plus, minus, tilde, bang, shift_left, shift_right, less, bar, ampersand, semicolon}
use Rattle.definition.specs.Token.{Token, columns, need}
use Rattle.definition.specs.Range.{in_range, ranged, exact}
use Rattle.definition.specs.Arithmetic.{is_zero, truth, times, over, rest, sum, difference, modulo, count, shift_left as lsh, shift_right as rsh, less as lt, greater, at_most, at_least, eq_z, equal, unequal, without, and_z, or_z, xor_z, bits_and, bits_xor, bits_or, both, either, chosen, operators, left_side, operator_in, precedence, operator, complement, is_false, unchanged, prefixes, prefix_in, is_prefix, prefixed}
use Rattle.definition.specs.Constant.{Read, primary, operand₁, operators_from, chain₁, condition₁, level, constant}

-- each token one byte long
abbrev numbered : ℕ → List (ℕ × ℕ) → List Token
numbered i [] = []
numbered i (t ∷ ts) = record { kind = t.0; place = i; number = t.1 } ∷ numbered (i + 1) ts

abbrev n : ℕ → ℕ × ℕ
n v = (number, v)

abbrev m : ℕ → ℕ × ℕ
m k = (k, 0)

-- one enumerator, named 7, is 1440
abbrev known : ℕ → Option ℤ
known k = elim (eqb k 7) [ true ↦ some (pos 1440) | false ↦ none ]

abbrev value : List (ℕ × ℕ) → Read
value ts = constant (columns (numbered 0 ts) 0).tokens known 0

unfoldable repeat : ℕ → ℕ × ℕ → List (ℕ × ℕ)
repeat zero t = []
repeat (suc k) t = t ∷ repeat k t

abbrev minus_seven : List (ℕ × ℕ)
minus_seven = m minus ∷ n 7 ∷ []

-- tokens, and what is read; a refusal names a token by its index
examples : List (List (ℕ × ℕ) × Read)
examples =
    (n 24 ∷ m star ∷ n 60 ∷ [], got (pos 1440, 3))  -- P5: 24*60
    ∷ (minus_seven ++ m slash ∷ n 2 ∷ [], got (negsuc 2, 4))  -- P6: -7/2
    ∷ (minus_seven ++ m percent ∷ n 2 ∷ [], got (negsuc 0, 4))  -- P6: -7%2
    ∷ (minus_seven ++ m shift_right ∷ n 1 ∷ [], got (negsuc 3, 4))  -- P6: -7>>1
    ∷ (n 1 ∷ m shift_left ∷ n 4294967296 ∷ [], got (pos 1, 3))  -- P7: 1<<4294967296
    ∷ (n 1 ∷ m question ∷ n 2 ∷ m colon ∷ n 1 ∷ m slash ∷ n 0 ∷ [], refused division_by_zero 5)  -- P8: 1?2:1/0
    ∷ (m minus ∷ m minus ∷ n 1 ∷ [], got (pos 1, 3))  -- --1
    ∷ (n 1 ∷ m plus ∷ n 2 ∷ m star ∷ n 3 ∷ m minus ∷ n 4 ∷ m semicolon ∷ [], got (pos 3, 7))  -- 1+2*3-4;
    ∷ (n 1 ∷ m bar ∷ n 6 ∷ m ampersand ∷ n 3 ∷ m less ∷ n 9 ∷ [], got (pos 1, 7))  -- 1|6&3<9
    ∷ (m tilde ∷ n 5 ∷ m ampersand ∷ n 7 ∷ [], got (pos 2, 4))  -- ~5&7
    ∷ (n 0 ∷ m question ∷ n 2 ∷ m colon ∷ (identifier, 7) ∷ [], got (pos 1440, 5))  -- 0?2:NAME
    ∷ ((identifier, 6) ∷ [], refused no_constant 0)
    ∷ (n 1 ∷ m plus ∷ m sizeof_word ∷ [], refused no_constant 2)  -- 1+sizeof
    ∷ (n 1 ∷ m plus ∷ [], refused no_constant 2)  -- 1+ at the end
    ∷ (m open_paren ∷ n 1 ∷ n 2 ∷ [], refused missing_mark 2)  -- (1 2
    ∷ (n 1 ∷ m shift_left ∷ n 63 ∷ [], refused out_of_range 1)  -- 1<<63
    ∷ (m minus ∷ n 1 ∷ m shift_left ∷ n 63 ∷ [], got (negsuc (2 ^ 63 - 1), 4))  -- -1<<63
    ∷ (n 0 ∷ m shift_left ∷ m minus ∷ n 1 ∷ [], got (pos 0, 4))  -- 0<<-1
    ∷ (repeat 64 (m open_paren) ++ n 5 ∷ repeat 64 (m close_paren), got (pos 5, 129))
    ∷ (repeat 65 (m open_paren) ++ n 5 ∷ repeat 65 (m close_paren), refused too_deep 65)
    ∷ (repeat 64 (m bang) ++ n 5 ∷ [], got (pos 1, 65))
    ∷ (repeat 65 (m bang) ++ n 5 ∷ [], refused too_deep 65)
    ∷ []

-- every one of them, by computation
computed : map (λ e. value e.0) examples ≡ map (λ e. e.1) examples
unfolding examples repeat constant level condition₁ chain₁ operators_from operand₁ primary is_prefix prefixed prefix_in prefixes unchanged is_false complement operator precedence operator_in left_side operators chosen either both bits_or bits_xor bits_and xor_z or_z and_z without unequal equal eq_z at_least at_most greater lt rsh lsh count modulo difference sum rest over times truth is_zero exact ranged in_range need columns is_name ◌>>=◌
computed = refl
