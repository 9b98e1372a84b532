-- # lines: "a # line that `object_like_macro` would keep" is refused, any other is skipped.
use Rattle.std.specs.Prelude.{Bool, true, false, ◌&&◌, ◌||◌, not, [], ◌∷◌, ℕ, zero, suc, ◌+◌, min, eqb, leb, length, drop}
use Rattle.definition.specs.Text.{Bytes, bytes, byte_at}
use Rattle.definition.specs.Byte.{space, backslash, open_byte}
use Rattle.definition.specs.Class.{digit, class_of, is_blank, is_word_byte}
use Rattle.definition.specs.Scan.{from, first, before, starts_with}
use Rattle.definition.specs.Comment.{joins, opens_line_comment, opens_comment, ends_line, line_length, comment_end}

-- A # line as one line: joined lines and comments in it are blanks. `line` is what stands in it from an offset on, `next` where it ends.
pub record Line : Type 0 where
  pub line : Bytes
  pub next : ℕ

abbrev pub and_then : ℕ → Line → Line
and_then b l = record { line = b ∷ l.line; next = l.next }

-- the rest of a # line from an offset on; the first argument bounds the number of bytes left
unfoldable pub line_from : ℕ → Bytes → ℕ → Line
line_from zero text at = record { line = []; next = at }
line_from (suc n) text at =
    elim (leb (length text) at) [
      | true ↦ record { line = []; next = at }
      | false ↦
          elim (joins (from text at)) [
            | true ↦ and_then space (line_from n text (at + 2))
            | false ↦
                elim (opens_comment (from text at)) [
                  | true ↦ and_then space (line_from n text (min (comment_end text at + 2) (length text)))
                  | false ↦
                      elim (opens_line_comment (from text at)) [
                        | true ↦ line_from n text (at + line_length (from text at))
                        | false ↦
                            elim (ends_line (from text at)) [
                              | true ↦ record { line = []; next = at }
                              | false ↦
                                  and_then (byte_at text at) (line_from n text (at + 1))
                            ]
                      ]
                ]
          ]
    ]

-- the # line whose # stands at an offset
unfoldable pub directive : Bytes → ℕ → Line
directive text at = line_from (length text) text (at + 1)

-- `str::trim_start`
unfoldable pub past_blanks : Bytes → Bytes
past_blanks [] = []
past_blanks (b ∷ bs) = elim (is_blank b) [ true ↦ past_blanks bs | false ↦ b ∷ bs ]

-- `str::trim` leaves something once backslashes are blanks
unfoldable pub says_something : Bytes → Bool
says_something [] = false
says_something (b ∷ bs) = elim (is_blank b || eqb b backslash) [ true ↦ says_something bs | false ↦ true ]

unfoldable pub ends_word : Bytes → Bool
ends_word bs = not (is_word_byte (first bs))

-- what follows the name of a macro: no parameter list, and a body
unfoldable pub is_body : Bytes → Bool
is_body bs = not (eqb (first bs) open_byte) && says_something bs

-- a name, and what follows it is a body
unfoldable pub is_name_and_body : Bytes → Bool
is_name_and_body bs =
    elim (ends_word bs || eqb (class_of (first bs)) digit) [ true ↦ false | false ↦ is_body (drop (before ends_word bs) bs) ]

-- `object_like_macro`: `define`, a blank, a name, and a body
unfoldable pub is_macro : Bytes → Bool
is_macro line =
    let rest = past_blanks line in
    elim (starts_with (bytes "define") rest && is_blank (byte_at rest 6)) [ true ↦ is_name_and_body (past_blanks (drop 6 rest)) | false ↦ false ]
