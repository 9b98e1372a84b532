-- The whole text cut into tokens (`lex`). "Order: 1, 2, 3, then the whole text cut into tokens (4 to 8 for literals)".
use Rattle.std.specs.Prelude.{Bool, true, false, ◌&&◌, List, [], ◌∷◌, ◌++◌, ℕ, zero, suc, ◌+◌, eqb, leb, ltb, length, take}
use Rattle.definition.specs.Answer.{Answer, got, refused, ◌>>=◌}
use Rattle.definition.specs.Refusal.{text_too_long, not_ascii, macro_line, stray_byte}
use Rattle.definition.specs.Limit.{max_text}
use Rattle.definition.specs.Text.{Bytes, byte_at}
use Rattle.definition.specs.Byte.{line_feed, hash, apostrophe, quote}
use Rattle.definition.specs.Class.{letter, digit, class_of, is_blank}
use Rattle.definition.specs.Scan.{from, first, before}
use Rattle.definition.specs.Comment.{joins, opens_line_comment, opens_comment, line_length, after_comment}
use Rattle.definition.specs.Directive.{directive, is_macro, ends_word}
use Rattle.definition.specs.Attribute.{Attribute, attribute_at}
use Rattle.definition.specs.Number.{ends_number, number_value}
use Rattle.definition.specs.Character.{character_at}
use Rattle.definition.specs.Quoted.{after_string}
use Rattle.definition.specs.Mark.{mark_at}
use Rattle.definition.specs.Word.{kind_of}
use Rattle.definition.specs.Name.{no_name, name_of}
use Rattle.definition.specs.Spelling.{Spelling, known_name}
use Rattle.definition.specs.Token.{Token, Lexed, columns}
use Rattle.definition.specs.Kind as kind

-- "Domain: bytes 0 to 127"
abbrev pub last_byte : ℕ
last_byte = 127

-- Where the cutting stands: the next offset; whether only blanks, comments and joined lines stand before it on its line; the tokens so far;
-- and the names so far, each spelling once at its first place.
pub record Cutting : Type 0 where
  pub at : ℕ
  pub line_start : Bool
  pub tokens : List Token
  pub names : List Spelling

-- nothing but a blank stands before an offset
unfoldable pub skip_to : ℕ → Cutting → Cutting
skip_to at s = record { at = at; line_start = s.line_start; tokens = s.tokens; names = s.names }

-- a line begins at an offset
unfoldable pub new_line : ℕ → Cutting → Cutting
new_line at s = record { at = at; line_start = true; tokens = s.tokens; names = s.names }

-- something other than a blank stands before an offset, and is no token
unfoldable pub drop_to : ℕ → Cutting → Cutting
drop_to at s = record { at = at; line_start = false; tokens = s.tokens; names = s.names }

-- a token of a kind, with a number, from here to an offset
unfoldable pub push : ℕ → ℕ → ℕ → Cutting → Cutting
push k n next s = record {
  at = next;
  line_start = false;
  names = s.names;
  tokens = s.tokens ++ record { kind = k; place = s.at; number = n } ∷ [];
}

-- a new name stands here
unfoldable pub meet : Bytes → Cutting → Cutting
meet w s = record {
  at = s.at;
  line_start = s.line_start;
  tokens = s.tokens;
  names = s.names ++ record { spelling = w; offset = s.at } ∷ [];
}

-- a name
unfoldable pub push_name : ℕ → Bytes → Cutting → Cutting
push_name k w s =
    elim (eqb (known_name s.names w) no_name) [
      | true ↦ push k (name_of s.at (length w)) (s.at + length w) (meet w s)
      | false ↦ push k (known_name s.names w) (s.at + length w) s
    ]

-- an attribute whose body could change a layout is a token
unfoldable pub push_attribute : Attribute → Cutting → Cutting
push_attribute a s = elim a.layout [ true ↦ push kind.attribute 0 a.next s | false ↦ drop_to a.next s ]

-- a word of a kind
unfoldable pub cut_word_of : Bytes → ℕ → Bytes → Cutting → Answer Cutting
cut_word_of text k w s =
    elim (eqb k kind.attribute) [
      | true ↦ (do
        a ← attribute_at text s.at (s.at + length w)
        got (push_attribute a s))
      | false ↦
          elim (kind.is_name k) [ true ↦ got (push_name k w s) | false ↦ got (push k 0 (s.at + length w) s) ]
    ]

unfoldable pub word_at : Bytes → ℕ → Bytes
word_at text at = take (before ends_word (from text at)) (from text at)

unfoldable pub cut_word : Bytes → Cutting → Answer Cutting
cut_word text s = cut_word_of text (kind_of (word_at text s.at)) (word_at text s.at) s

unfoldable pub number_word : Bytes → ℕ → Bytes
number_word text at = take (before ends_number (from text at)) (from text at)

unfoldable pub cut_number : Bytes → Cutting → Answer Cutting
cut_number text s = do
  v ← number_value s.at (number_word text s.at)
  got (push kind.number v (s.at + length (number_word text s.at)) s)

unfoldable pub cut_character : Bytes → Cutting → Answer Cutting
cut_character text s = do
  r ← character_at text s.at
  got (push kind.number r.value r.next s)

unfoldable pub cut_string : Bytes → Cutting → Answer Cutting
cut_string text s = do
  next ← after_string text s.at
  got (push kind.text 0 next s)

-- "byte outside the token set"
unfoldable pub cut_mark : Bytes → Cutting → Answer Cutting
cut_mark text s =
    let m = mark_at (from text s.at) in
    elim (eqb m.kind kind.end) [ true ↦ refused stray_byte s.at | false ↦ got (push m.kind 0 (s.at + m.size) s) ]

-- what stands here, which is no blank
unfoldable pub cut_token : Bytes → Cutting → Answer Cutting
cut_token text s =
    let b = byte_at text s.at in
    elim (eqb (class_of b) letter) [
      | true ↦ cut_word text s
      | false ↦
          elim (eqb (class_of b) digit) [
            | true ↦ cut_number text s
            | false ↦
                elim (eqb b apostrophe) [
                  | true ↦ cut_character text s
                  | false ↦
                      elim (eqb b quote) [ true ↦ cut_string text s | false ↦ cut_mark text s ]
                ]
          ]
    ]

-- a # line
unfoldable pub cut_directive : Bytes → Cutting → Answer Cutting
cut_directive text s =
    let l = directive text s.at in
    elim (is_macro l.line) [ true ↦ refused macro_line s.at | false ↦ got (skip_to l.next s) ]

unfoldable pub cut_comment : Bytes → Cutting → Answer Cutting
cut_comment text s = do
  next ← after_comment text s.at
  got (skip_to next s)

-- a comment, a # line or a token
unfoldable pub cut_other : Bytes → Cutting → Answer Cutting
cut_other text s =
    let bs = from text s.at in
    elim (joins bs) [
      | true ↦ got (skip_to (s.at + 2) s)
      | false ↦
          elim (opens_line_comment bs) [
            | true ↦ got (skip_to (s.at + line_length bs) s)
            | false ↦
                elim (opens_comment bs) [
                  | true ↦ cut_comment text s
                  | false ↦
                      elim (eqb (first bs) hash && s.line_start) [ true ↦ cut_directive text s | false ↦ cut_token text s ]
                ]
          ]
    ]

-- one step: a blank, or what else stands here
unfoldable pub cut_next : Bytes → Cutting → Answer Cutting
cut_next text s =
    let b = byte_at text s.at in
    elim (eqb b line_feed) [
      | true ↦ got (new_line (s.at + 1) s)
      | false ↦
          elim (is_blank b) [ true ↦ got (skip_to (s.at + 1) s) | false ↦ cut_other text s ]
    ]

-- to the end; the first argument bounds the number of bytes left
unfoldable pub cut_all : ℕ → Bytes → Cutting → Answer Cutting
cut_all zero text s = got s
cut_all (suc n) text s = elim (leb (length text) s.at) [ true ↦ got s | false ↦ (cut_next text s >>= cut_all n text) ]

abbrev pub start : Cutting
start = record { at = 0; line_start = true; tokens = []; names = [] }

unfoldable pub cut : Bytes → Answer Cutting
cut text = cut_all (suc (length text)) text start

-- "byte above 127; the first such"
unfoldable pub above_ascii : Bytes → Bool
above_ascii bs = ltb last_byte (first bs)

unfoldable pub check_bytes : Bytes → Answer ℕ
check_bytes text =
    let n = before above_ascii text in
    elim (ltb n (length text)) [ true ↦ refused not_ascii n | false ↦ got n ]

-- The tokens of a text, or its first refusal.
unfoldable pub tokenize : Bytes → Answer Lexed
tokenize text =
    elim (ltb max_text (length text)) [
      | true ↦ refused text_too_long 0
      | false ↦ (do
        n ← check_bytes text
        s ← cut text
        got (columns s.tokens (length text)))
    ]
