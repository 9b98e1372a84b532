-- Tokens: what the parser reads.
use Rattle.std.specs.Prelude.{List, map, true, false, ℕ, ◌+◌, ◌-◌, eqb, length, get_or}
use Rattle.definition.specs.Answer.{Answer, got, refused}
use Rattle.definition.specs.Refusal.{missing_mark}
use Rattle.definition.specs.Kind.{end}

-- A token: its kind, the offset of its first byte, and its number: a literal's value, the name that a word is (Name.antt), or 0.
pub record Token : Type 0 where
  pub kind : ℕ
  pub place : ℕ
  pub number : ℕ

-- What the parser reads: the kinds and the numbers of all tokens.
pub record Tokens : Type 0 where
  pub kinds : List ℕ
  pub numbers : List ℕ

-- A text cut into tokens: with the place of each, and the text's length.
pub record Lexed : Type 0 where
  pub tokens : Tokens
  pub places : List ℕ
  pub text_end : ℕ

unfoldable pub columns : List Token → ℕ → Lexed
columns ts e = record { tokens = record { kinds = map (λ t. t.kind) ts; numbers = map (λ t. t.number) ts }; places = map (λ t. t.place) ts; text_end = e }

-- the kind of the token at an index: `end` past the last
abbrev pub kind_at : Tokens → ℕ → ℕ
kind_at ts i = get_or ts.kinds i end

abbrev pub number_at : Tokens → ℕ → ℕ
number_at ts i = get_or ts.numbers i 0

-- Inside the parser a refusal names a token by its index; outside it names an offset: the token's, or the text's end.
unfoldable pub here : Lexed → ℕ → ℕ
here x i = elim (eqb (kind_at x.tokens i) end) [ true ↦ x.text_end | false ↦ get_or x.places i 0 ]

-- how many tokens are left
abbrev pub left : Tokens → ℕ → ℕ
left ts i = length ts.kinds - i

-- a mark that must stand here: the index after it
unfoldable pub need : Tokens → ℕ → ℕ → Answer ℕ
need ts mark i = elim (eqb (kind_at ts i) mark) [ true ↦ got (i + 1) | false ↦ refused missing_mark i ]
