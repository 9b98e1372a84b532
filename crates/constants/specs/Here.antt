-- What a constant is where the table's cursor stands.
use Rattle.std.specs.Prelude.{List, ℕ, ℤ, Result}
use Rattle.definition.specs.Token.{Tokens}
use Rattle.definition.specs.Reader.{constant_here}
use Rattle.encoding.specs.declared.refusals.Refusal.{Refusal}
use Rattle.table.specs.declared.Cursor.{Cursor}
use Rattle.table.specs.Reply.{reply, Does}

-- The answer r is the definition's, and no slice changes; the second slice is not looked at.
pub record Evaluates (ts : Tokens) (c : Cursor) (w : List ℕ) (v : List ℤ) (r : Result (Cursor × ℤ) Refusal) : Type 0 where
  pub of : (d : List ℕ) → Does (constant_here ts) c w d v (reply r) w d v
