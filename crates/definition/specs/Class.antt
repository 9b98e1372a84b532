-- The class of a byte. Everything that the lexer asks of a byte's class goes through `classOf`.
use Rattle.std.specs.Prelude.{Bool, true, false, ◌&&◌, ◌||◌, [], ◌∷◌, ℕ, eqb, leb}
use Prim.Native.Char.{code}
use Rattle.definition.specs.Text.{Bytes, bytes}
use Rattle.definition.specs.Byte.{space, underscore}

-- a byte that begins nothing by its class: # ' " \ and what is no part of C, and what stands past the end
abbrev pub none : ℕ
none = 0

abbrev pub blank : ℕ
blank = 1

abbrev pub letter : ℕ
letter = 2

abbrev pub digit : ℕ
digit = 3

-- a byte with which a mark begins
abbrev pub mark : ℕ
mark = 4

abbrev pub between : ℕ → ℕ → ℕ → Bool
between low high b = leb low b && leb b high

unfoldable pub among : ℕ → Bytes → Bool
among b [] = false
among b (m ∷ ms) = elim (eqb b m) [ true ↦ true | false ↦ among b ms ]

-- `char::is_whitespace` of ASCII: tab, line feed, vertical tab, form feed, carriage return, space
unfoldable pub is_blank_byte : ℕ → Bool
is_blank_byte b = between 9 13 b || eqb b space

-- a letter, or _
unfoldable pub is_letter_byte : ℕ → Bool
is_letter_byte b = between (code "a") (code "z") b || (between (code "A") (code "Z") b || eqb b underscore)

unfoldable pub is_digit_byte : ℕ → Bool
is_digit_byte b = between (code "0") (code "9") b

-- the first bytes of PUNCT
unfoldable pub mark_bytes : Bytes
mark_bytes = bytes "()[]{}*,;:?=+-~!/%&^|<>."

unfoldable pub class_of : ℕ → ℕ
class_of b =
    elim (is_blank_byte b) [
      | true ↦ blank
      | false ↦
          elim (is_letter_byte b) [
            | true ↦ letter
            | false ↦
                elim (is_digit_byte b) [
                  | true ↦ digit
                  | false ↦
                      elim (among b mark_bytes) [ true ↦ mark | false ↦ none ]
                ]
          ]
    ]

unfoldable pub is_blank : ℕ → Bool
is_blank b = eqb (class_of b) blank

-- a byte of a word after its first
unfoldable pub is_word_byte : ℕ → Bool
is_word_byte b = eqb (class_of b) letter || eqb (class_of b) digit
