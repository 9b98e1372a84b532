-- The two entries on texts: what a text is read as, and which refusal comes first.
use Rattle.std.specs.Prelude.{List, Bool, true, false, ℕ}
use Rattle.std.proofs.Math.Option.{none, some}
use Rattle.definition.specs.Answer.{Answer, got, refused, ◌>>=◌}
use Rattle.definition.specs.Refusal.{bad_call}
use Rattle.definition.specs.Text.{Bytes}
use Rattle.definition.specs.Place.{place_of}
use Rattle.definition.specs.Token.{Lexed}
use Rattle.definition.specs.Cut.{tokenize}
use Rattle.definition.specs.Model.{Model, model_of}
use Rattle.definition.specs.Table.{Table}
use Rattle.definition.specs.Reader.{translation_unit, one_declaration}
use Rattle.definition.specs.NameTable.{name_table}

-- which of the two entries is called
pub data Entry : Type 0 where
  wholeHeader singleDeclaration : Entry

-- What an accepted text gives.
pub record Accepted : Type 0 where
  pub table : Table
  pub names : List ℕ

unfoldable pub parse : Entry → Lexed → Model → Answer Table
parse wholeHeader x m = translation_unit x m
parse singleDeclaration x m = one_declaration x m

-- "Order: 1, 2, 3, then the whole text cut into tokens (4 to 8 for literals), then parsing; the first found is given."
unfoldable pub read_with : Model → Entry → Bytes → Answer Accepted
read_with m entry text = do
  x ← tokenize text
  t ← parse entry x m
  got (record { table = t; names = name_table x t })

-- "model not 0 to 2, or a lent table shorter than its limit; offset 0"
unfoldable pub read : ℕ → Bool → Entry → Bytes → Answer Accepted
read model lentEnough entry text = elim (model_of model) [
  | none ↦ refused bad_call 0
  | some m ↦ elim lentEnough [ true ↦ read_with m entry text | false ↦ refused bad_call 0 ]
]

-- What the caller is told: the table's counts are its lengths, and a refusal has its line and column.
pub data Outcome : Type 0 where
  accepted : Accepted → Outcome
  rejected : ℕ → ℕ → ℕ → ℕ → Outcome  -- number, offset, line, column

unfoldable pub told : Bytes → Answer Accepted → Outcome
told text (got a) = accepted a
told text (refused n at) = rejected n at (place_of text at).line (place_of text at).column

unfoldable pub outcome : ℕ → Bool → Entry → Bytes → Outcome
outcome model lentEnough entry text = told text (read model lentEnough entry text)
