-- Character constants (`char_literal`; C11 6.4.4.4): the bytes between the quotes, packed to the base 256.
use Rattle.std.specs.Prelude.{Bool, true, false, ◌&&◌, not, ℕ, zero, suc, ◌+◌, ◌*◌, ◌^◌, ◌%◌, eqb, leb, ltb, length, take}
use Prim.Native.Char.{code}
use Rattle.definition.specs.Answer.{Answer, got, refused, ◌>>=◌}
use Rattle.definition.specs.Refusal.{bad_literal}
use Rattle.definition.specs.Text.{Bytes, byte_at}
use Rattle.definition.specs.Byte.{backslash, apostrophe}
use Rattle.definition.specs.Scan.{from, first, before}
use Rattle.definition.specs.Number.{digit_value, value_from, in_range}

-- a value read, and the offset after what was read
pub record Read : Type 0 where
  pub value : ℕ
  pub next : ℕ

unfoldable pub ends_hex : Bytes → Bool
ends_hex bs = not (ltb (digit_value (first bs)) 16)

-- what a byte after a backslash stands for; any other byte for itself
unfoldable pub escaped : ℕ → ℕ
escaped b =
    elim (eqb b (code "n")) [
      | true ↦ 10
      | false ↦
          elim (eqb b (code "t")) [
            | true ↦ 9
            | false ↦
                elim (eqb b (code "r")) [
                  | true ↦ 13
                  | false ↦
                      elim (eqb b (code "0")) [
                        | true ↦ 0
                        | false ↦
                            elim (eqb b (code "a")) [
                              | true ↦ 7
                              | false ↦
                                  elim (eqb b (code "b")) [
                                    | true ↦ 8
                                    | false ↦
                                        elim (eqb b (code "f")) [
                                          | true ↦ 12
                                          | false ↦
                                              elim (eqb b (code "v")) [ true ↦ 11 | false ↦ b ]
                                        ]
                                  ]
                            ]
                      ]
                ]
          ]
    ]

-- \x with the digits from an offset on: "bad without digits or from 2^127 up", and it keeps its low 8 bits
unfoldable pub hex_byte : Bytes → ℕ → ℕ → Answer Read
hex_byte text start at =
    let n = before ends_hex (from text at) in
    let v = value_from 16 zero (take n (from text at)) in
    elim (leb 1 n && ltb v (2 ^ 127)) [ true ↦ got (record { value = v % 256; next = at + n }) | false ↦ refused bad_literal start ]

-- the byte that an escape stands for, whose backslash stands at an offset
unfoldable pub escape : Bytes → ℕ → ℕ → Answer Read
escape text start at =
    elim (leb (length text) (at + 1)) [
      | true ↦ refused bad_literal start
      | false ↦
          elim (eqb (byte_at text (at + 1)) (code "x")) [
            | true ↦ hex_byte text start (at + 2)
            | false ↦
                got (record { value = escaped (byte_at text (at + 1)); next = at + 2 })
          ]
    ]

-- one byte of a constant
unfoldable pub one_byte : Bytes → ℕ → ℕ → Answer Read
one_byte text start at =
    elim (eqb (byte_at text at) backslash) [ true ↦ escape text start at | false ↦ got (record { value = byte_at text at; next = at + 1 }) ]

-- the value of a constant, and where it ends
abbrev pub closed_at : ℕ → ℕ → ℕ → Answer Read
closed_at start v at = in_range start v >>= (λ w. got (record { value = w; next = at + 1 }))

-- the bytes of a constant from an offset on, after a value, to the closing quote; the first argument bounds the number of bytes left
unfoldable pub bytes_from : ℕ → Bytes → ℕ → ℕ → ℕ → Answer Read
bytes_from zero text start v at = refused bad_literal start
bytes_from (suc n) text start v at =
    elim (leb (length text) at) [
      | true ↦ refused bad_literal start
      | false ↦
          elim (eqb (byte_at text at) apostrophe) [
            | true ↦ closed_at start v at
            | false ↦
                (one_byte text start at >>= (λ r. bytes_from n text start (v * 256 + r.value) r.next))
          ]
    ]

-- the constant whose opening quote stands at an offset; "empty, unclosed or bad character constant" is refused there
unfoldable pub character_at : Bytes → ℕ → Answer Read
character_at text start =
    elim (eqb (byte_at text (start + 1)) apostrophe) [ true ↦ refused bad_literal start | false ↦ bytes_from (suc (length text)) text start zero (start + 1) ]
