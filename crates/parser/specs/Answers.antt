-- What the parser's answers mean.
use Rattle.std.specs.Prelude.{◌≡◌, List, ℕ, ◌≤◌, ◌<◌, ℤ, length, Ok}
use Rattle.definition.specs.Answer.{Answer}
use Rattle.definition.specs.Limit.{max_text}
use Rattle.definition.specs.Table.{State, Reads}
use Rattle.definition.specs.Grammar.{Declarator}
use Rattle.definition.specs.Token.{Tokens}
use Rattle.definition.specs.Model.{Model}
use Rattle.definition.specs.Reader.{levels}
use Rattle.table.specs.Reply.{Reply, reply_by, Nothing, Does, Moves, Runs}
use Rattle.table.specs.declared.Cursor.{Cursor}
use Rattle.declarator_steps.specs.declared.Steps.{Steps}
use Rattle.declarator_steps.specs.Pending.{pending, Waiting}
use Rattle.parser.specs.Pieces.{typed_from}
use Rattle.parser.specs.declared.Declared.{Declared}
use Rattle.parser.specs.declared.Typed.{Typed}

-- a type and a name
abbrev pub typed : Typed → ℕ × ℕ
typed x = (x.ty, x.name)

-- as they stand in the definition's answer
abbrev pub both_numbers : ℕ × ℕ → State → ℕ × ℕ × State
both_numbers x s = (x.0, x.1, s)

-- the declarator that pending steps and a name are
abbrev pub declarator_of : Steps → ℕ → Declarator
declarator_of s name = record { steps = (pending s).steps; name = name }

abbrev pub declaring : Declared → Reply Declarator
declaring r = reply_by (declarator_of r.steps) r.answer

-- no steps yet, and stars that may wait
pub record Starting (s : Steps) : Type 0 where
  pub none : s.len ≡ 0
  pub waiting : Waiting s s.held

-- The code declares what f says, and the stars that waited before still wait.
pub record Declares (f : Reads Declarator) (c : Cursor) (s : Steps) (w d : List ℕ) (v : List ℤ) (r : Declared) (w' d' : List ℕ) (v' : List ℤ) : Type 0 where
  pub does : Does f c w d v (declaring r) w' d' v'
  pub stars : (e : Cursor) (name : ℕ) → r.answer ≡ Ok (e, name) → (pending r.steps).stars ≡ (pending s).stars
  pub waits : (e : Cursor) (name : ℕ) → r.answer ≡ Ok (e, name) → Waiting r.steps s.held

-- The same for a definition that counts rounds: with any number of them above l.
pub record MovesIn (g : ℕ → State → Answer State) (l : ℕ) (c : Cursor) (w d : List ℕ) (v : List ℤ) (r : Reply Nothing) (w' d' : List ℕ) (v' : List ℤ) : Type 0 where
  pub rounds : (f : ℕ) → l < f → Moves (g f) c w d v r w' d' v'

-- A declarator that the tokens and two levels are enough for is read: the model, and how many levels are left, say nothing of it.
pub record Types (ts : Tokens) (b : ℕ) (c : Cursor) (w d : List ℕ) (v : List ℤ) (r : Reply (ℕ × ℕ)) (w' d' : List ℕ) (v' : List ℤ) : Type 0 where
  pub of : (m : Model) (room : ℕ) → 2 ≤ room → Runs both_numbers (typed_from (levels ts m room) b) c w d v r w' d' v'
