-- A member that is read, in the definition's terms.
use Rattle.std.proofs.Math.Option.{Option}
use Rattle.std.specs.Prelude.{ℕ}
use Rattle.definition.specs.Answer.{Answer, got, ◌>>=◌}
use Rattle.definition.specs.Table.{State, push_member}
use Rattle.definition.specs.Composite.{fresh}

-- the next member of a body
abbrev pub field_pushed : ℕ → ℕ → ℕ → Option ℕ → ℕ → State → Answer State
field_pushed first type name width at s = do
  e ← push_member (fresh first type name width at) s
  got e.1
