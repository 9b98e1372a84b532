-- What the parts of the parser hand to one another.
use Rattle.std.specs.Prelude.{List, [], ◌∷◌, Bool, ℕ, eqb, ℤ}
use Rattle.std.proofs.Math.Option.{Option}
use Rattle.definition.specs.Answer.{Answer, got, ◌>>=◌}
use Rattle.definition.specs.Name.{no_name}
use Rattle.definition.specs.Token.{Tokens, kind_at, need}
use Rattle.definition.specs.Row.{Qualifiers, Span}
use Rattle.definition.specs.Table.{State, Reads, moved_to}

-- A step of a declarator: "stars, bounds and parameter lists".
pub data DeclaratorStep : Type 0 where
  pointer_step : Qualifiers → DeclaratorStep
  array_step : Option ℕ → DeclaratorStep  -- bound
  function_step : Bool → Span → DeclaratorStep  -- `...`; parameters

-- A declarator: its steps in the order in which a base type takes them, and the name that it declares.
pub record Declarator : Type 0 where
  pub steps : List DeclaratorStep
  pub name : ℕ

abbrev pub named : ℕ → Declarator
named w = record { steps = []; name = w }

abbrev pub unnamed : Declarator
unnamed = named no_name

abbrev pub with_step : Declarator → DeclaratorStep → Declarator
with_step d x = record { steps = x ∷ d.steps; name = d.name }

-- The readers that take a level of nesting each, as `guard` counts them (000).
pub record Levels : Type 0 where
  pub composite : Bool → Reads ℕ  -- after `struct` (false) or `union` (true): its row
  pub enumeration : Reads ℕ  -- after `enum`: its row
  pub declarator : ℕ → Reads Declarator  -- after a number of steps of the same declarator
  pub direct : ℕ → Reads Declarator  -- the same, past its stars
  pub constant : Reads ℤ

-- the token that stands here is of a kind
abbrev pub stands : Tokens → ℕ → State → Bool
stands ts kind s = eqb (kind_at ts s.at) kind

-- a mark that must stand here
unfoldable pub needed : Tokens → ℕ → State → Answer State
needed ts mark s = do
  i ← need ts mark s.at
  got (moved_to s i)
