-- Strings: only where they end matters. A backslash takes the next byte with it; a line feed may stand in a string.
use Rattle.std.specs.Prelude.{Bool, true, false, ◌&&◌, not, [], ◌∷◌, ℕ, zero, suc, ◌+◌, eqb, leb, length}
use Rattle.definition.specs.Answer.{Answer, got, refused}
use Rattle.definition.specs.Refusal.{not_closed}
use Rattle.definition.specs.Text.{Bytes}
use Rattle.definition.specs.Byte.{backslash, quote}
use Rattle.definition.specs.Scan.{from}

-- how many bytes stand before the closing quote; all of them where there is none. `taken`: a backslash stands before
unfoldable pub in_quotes : Bool → Bytes → ℕ
in_quotes taken [] = zero
in_quotes taken (b ∷ bs) =
    elim (not taken && eqb b quote) [ true ↦ zero | false ↦ suc (in_quotes (not taken && eqb b backslash) bs) ]

-- the offset after the string that opens at an offset; "string not closed" is refused there
unfoldable pub after_string : Bytes → ℕ → Answer ℕ
after_string text at =
    let close = at + 1 + in_quotes false (from text (at + 1)) in
    elim (leb (length text) close) [ true ↦ refused not_closed at | false ↦ got (close + 1) ]
