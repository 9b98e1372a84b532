-- Comments and joined lines: what counts as a blank (C11 6.4.9; 5.1.1.2 phase 2).
use Rattle.std.specs.Prelude.{Bool, true, false, ◌||◌, ℕ, ◌+◌, eqb, leb, length}
use Rattle.definition.specs.Answer.{Answer, got, refused}
use Rattle.definition.specs.Refusal.{not_closed}
use Rattle.definition.specs.Text.{Bytes}
use Rattle.definition.specs.Byte.{line_feed, backslash, slash_byte, star_byte}
use Rattle.definition.specs.Scan.{from, first, begins, before}

-- "A backslash at the end of a line joins it to the next one"
unfoldable pub joins : Bytes → Bool
joins bs = begins backslash line_feed bs

unfoldable pub opens_line_comment : Bytes → Bool
opens_line_comment bs = begins slash_byte slash_byte bs

unfoldable pub opens_comment : Bytes → Bool
opens_comment bs = begins slash_byte star_byte bs

unfoldable pub ends_line : Bytes → Bool
ends_line bs = eqb (first bs) line_feed

-- how much of what follows stands on this line
unfoldable pub line_length : Bytes → ℕ
line_length bs = before ends_line bs

-- the closing of a comment, or the last byte of the text
unfoldable pub ends_comment : Bytes → Bool
ends_comment bs = begins star_byte slash_byte bs || leb (length bs) 1

-- where a comment that opens at an offset closes: the offset of the closing star, or else of the text's last byte
-- (its end, where nothing stands after the opening)
unfoldable pub comment_end : Bytes → ℕ → ℕ
comment_end text at = at + 2 + before ends_comment (from text (at + 2))

-- the offset after a comment. One that is not closed is refused where the Rust stops looking
unfoldable pub after_comment : Bytes → ℕ → Answer ℕ
after_comment text at =
    elim (leb (length text) (comment_end text at + 1)) [ true ↦ refused not_closed (comment_end text at) | false ↦ got (comment_end text at + 2) ]
