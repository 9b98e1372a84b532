-- What is answered, and what stands in the lent columns then.
use Rattle.std.specs.Prelude.{Bool, true, false, ◌||◌, List, ℕ, ltb, length, replicate}
use Rattle.definition.specs.Answer.{Answer, got, refused}
use Rattle.definition.specs.Refusal.{bad_call}
use Rattle.definition.specs.Limit.{max_text}
use Rattle.definition.specs.Text.{Bytes}
use Rattle.definition.specs.Token.{Lexed}
use Rattle.definition.specs.Cut.{tokenize}
use Rattle.lexer.specs.Columns.{padded}

-- the answer, and the three columns: kinds, places, numbers
pub data Out : Type 0 where
  out : Answer ℕ → List ℕ → List ℕ → List ℕ → Out

-- in columns of some lengths: the tokens with zeros after them, and zeros alone on a refusal
unfoldable pub shown : ℕ → ℕ → ℕ → Answer Lexed → Out
shown k p n (got x) = out (got (length x.places)) (padded k x.tokens.kinds) (padded p x.places) (padded n x.tokens.numbers)
shown k p n (refused m at) = out (refused m at) (replicate k 0) (replicate p 0) (replicate n 0)

-- a text has no more tokens than bytes: shorter columns are refused before the text is read
unfoldable pub short : ℕ → ℕ → ℕ → Bool
short k p n = ltb k max_text || (ltb p max_text || ltb n max_text)

unfoldable pub answered : Bytes → ℕ → ℕ → ℕ → Out
answered text k p n = elim (short k p n) [ true ↦ shown k p n (refused bad_call 0) | false ↦ shown k p n (tokenize text) ]
