-- Marks: "Punctuators, longest first so `<<` is not two `<`" (PUNCT).
use Rattle.std.specs.Prelude.{true, false, ◌&&◌, List, [], ◌∷◌, ℕ, ◌*◌, ◌+◌, eqb}
use Prim.Native.Char.{code}
use Rattle.definition.specs.Text.{Bytes, byte_at}
use Rattle.definition.specs.Byte.{dot_byte}
use Rattle.definition.specs.Kind as kind

-- a mark: its kind and how many bytes it takes; the kind `end` is no mark
pub record Mark : Type 0 where
  pub kind : ℕ
  pub size : ℕ

-- a mark of a table: its bytes as one number, and its kind
pub record Written : Type 0 where
  pub written : ℕ
  pub kind : ℕ

-- two bytes as one number
abbrev pub pair : ℕ → ℕ → ℕ
pair a b = 256 * a + b

unfoldable pub two_byte_marks : List Written
two_byte_marks =
    record { written = pair (code "<") (code "<"); kind = kind.shift_left }
    ∷ record { written = pair (code ">") (code ">"); kind = kind.shift_right }
    ∷ record { written = pair (code "<") (code "="); kind = kind.less_equal }
    ∷ record { written = pair (code ">") (code "="); kind = kind.greater_equal }
    ∷ record { written = pair (code "=") (code "="); kind = kind.equal_equal }
    ∷ record { written = pair (code "!") (code "="); kind = kind.not_equal }
    ∷ record { written = pair (code "&") (code "&"); kind = kind.and_and }
    ∷ record { written = pair (code "|") (code "|"); kind = kind.or_or } ∷ []

unfoldable pub one_byte_marks : List Written
one_byte_marks =
    record { written = code "("; kind = kind.open_paren } ∷ record { written = code ")"; kind = kind.close_paren }
    ∷ record { written = code "["; kind = kind.open_bracket } ∷ record { written = code "]"; kind = kind.close_bracket }
    ∷ record { written = code "{"; kind = kind.open_brace } ∷ record { written = code "}"; kind = kind.close_brace }
    ∷ record { written = code "*"; kind = kind.star } ∷ record { written = code ","; kind = kind.comma }
    ∷ record { written = code ";"; kind = kind.semicolon } ∷ record { written = code ":"; kind = kind.colon }
    ∷ record { written = code "?"; kind = kind.question } ∷ record { written = code "="; kind = kind.equals }
    ∷ record { written = code "+"; kind = kind.plus } ∷ record { written = code "-"; kind = kind.minus }
    ∷ record { written = code "~"; kind = kind.tilde } ∷ record { written = code "!"; kind = kind.bang }
    ∷ record { written = code "/"; kind = kind.slash } ∷ record { written = code "%"; kind = kind.percent }
    ∷ record { written = code "&"; kind = kind.ampersand } ∷ record { written = code "^"; kind = kind.caret }
    ∷ record { written = code "|"; kind = kind.bar } ∷ record { written = code "<"; kind = kind.less }
    ∷ record { written = code ">"; kind = kind.greater } ∷ record { written = code "."; kind = kind.dot } ∷ []

-- the kind of a mark of a table, `end` where it is not there
unfoldable pub mark_among : List Written → ℕ → ℕ
mark_among [] n = kind.end
mark_among (m ∷ ms) n = elim (eqb n m.written) [ true ↦ m.kind | false ↦ mark_among ms n ]

-- the mark that begins with a byte, where the marks of two bytes are not there
unfoldable pub short_mark : ℕ → Mark
short_mark a = record { kind = mark_among one_byte_marks a; size = 1 }

-- the mark with which three bytes begin
unfoldable pub mark_of : ℕ → ℕ → ℕ → Mark
mark_of a b c =
    elim (eqb a dot_byte && (eqb b dot_byte && eqb c dot_byte)) [
      | true ↦ record { kind = kind.ellipsis; size = 3 }
      | false ↦
          elim (eqb (mark_among two_byte_marks (pair a b)) kind.end) [
            | true ↦ short_mark a
            | false ↦ record { kind = mark_among two_byte_marks (pair a b); size = 2 }
          ]
    ]

-- the mark that stands next
unfoldable pub mark_at : Bytes → Mark
mark_at bs = mark_of (byte_at bs 0) (byte_at bs 1) (byte_at bs 2)
