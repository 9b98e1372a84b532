-- Integer constants (`integer`; C11 6.4.4.1): a base, digits of the base, and any run of u U l L z Z.
use Rattle.std.specs.Prelude.{Bool, true, false, ◌&&◌, ◌||◌, not, [], ◌∷◌, ℕ, zero, suc, ◌+◌, ◌-◌, ◌*◌, eqb, leb, ltb, length, drop, take}
use Prim.Native.Char.{code}
use Rattle.definition.specs.Answer.{Answer, got, refused}
use Rattle.definition.specs.Range.{above_range}
use Rattle.definition.specs.Refusal.{bad_literal, out_of_range}
use Rattle.definition.specs.Text.{Bytes, bytes, byte_at}
use Rattle.definition.specs.Byte.{dot_byte}
use Rattle.definition.specs.Class.{between, among, is_word_byte}
use Rattle.definition.specs.Scan.{first}

-- a byte of a number after its first
unfoldable pub is_number_byte : ℕ → Bool
is_number_byte b = is_word_byte b || eqb b dot_byte

unfoldable pub ends_number : Bytes → Bool
ends_number bs = not (is_number_byte (first bs))

-- what is no digit has a value that no base has
abbrev pub no_digit : ℕ
no_digit = 99

-- the value of a digit, in capital or small letters
unfoldable pub digit_value : ℕ → ℕ
digit_value b =
    elim (between (code "0") (code "9") b) [
      | true ↦ b - code "0"
      | false ↦
          elim (between (code "a") (code "f") b) [
            | true ↦ b - code "a" + 10
            | false ↦
                elim (between (code "A") (code "F") b) [ true ↦ b - code "A" + 10 | false ↦ no_digit ]
          ]
    ]

unfoldable pub suffix_bytes : Bytes
suffix_bytes = bytes "uUlLzZ"

-- how many bytes of a word are left once the suffix is taken off its end
unfoldable pub body_length : Bytes → ℕ
body_length [] = zero
body_length (b ∷ bs) = elim (eqb (body_length bs) zero && among b suffix_bytes) [ true ↦ zero | false ↦ suc (body_length bs) ]

-- the base of a body, and how many bytes say so
pub record Base : Type 0 where
  pub base : ℕ
  pub prefix : ℕ

unfoldable pub base_of : Bytes → Base
base_of body =
    elim (eqb (byte_at body 0) (code "0") && leb 2 (length body)) [
      | false ↦ record { base = 10; prefix = 0 }
      | true ↦
          elim (among (byte_at body 1) (bytes "xX")) [
            | true ↦ record { base = 16; prefix = 2 }
            | false ↦
                elim (among (byte_at body 1) (bytes "bB")) [ true ↦ record { base = 2; prefix = 2 } | false ↦ record { base = 8; prefix = 1 } ]
          ]
    ]

-- every byte is a digit of the base
unfoldable pub are_digits : ℕ → Bytes → Bool
are_digits base [] = true
are_digits base (b ∷ bs) = elim (ltb (digit_value b) base) [ true ↦ are_digits base bs | false ↦ false ]

-- the value of digits after a value
unfoldable pub value_from : ℕ → ℕ → Bytes → ℕ
value_from base v [] = v
value_from base v (b ∷ bs) = value_from base (v * base + digit_value b) bs

-- "exact value outside -2^63 to 2^63 - 1; at the literal"
unfoldable pub in_range : ℕ → ℕ → Answer ℕ
in_range at v = elim (ltb v above_range) [ true ↦ got v | false ↦ refused out_of_range at ]

-- "malformed number .. a literal only too large is 8"
unfoldable pub digits_value : ℕ → ℕ → Bytes → Answer ℕ
digits_value at base digits =
    elim (leb 1 (length digits) && are_digits base digits) [ true ↦ in_range at (value_from base zero digits) | false ↦ refused bad_literal at ]

-- the value of a number's body that stands at an offset
unfoldable pub body_value : ℕ → Bytes → Answer ℕ
body_value at body = digits_value at (base_of body).base (drop (base_of body).prefix body)

-- the value of a number that stands at an offset
unfoldable pub number_value : ℕ → Bytes → Answer ℕ
number_value at word = body_value at (take (body_length word) word)
