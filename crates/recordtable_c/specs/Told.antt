-- What a caller in C or Rust is told, in numbers.
use Rattle.std.specs.Prelude.{List, [], ◌∷◌, ℕ, length}
use Rattle.definition.specs.Text.{Bytes}
use Rattle.definition.specs.Entry.{Entry, Outcome, accepted, rejected, outcome}
use Rattle.definition.specs.Lent.{Lent, long_enough}
use Rattle.entry_points.specs.Answers.{Told, Accepted, Rejected}

-- what is read of a text under a model's number, in slices of some lengths
abbrev pub outcome_in : Lent → ℕ → Entry → Bytes → Outcome
outcome_in l model entry text = outcome model (long_enough l) entry text

-- the number that is returned: 0 for a text that is accepted, else the refusal's
unfoldable pub number_of : Outcome → ℕ
number_of (accepted a) = 0
number_of (rejected n at line column) = n

-- the six numbers beside it: how many rows, members, values, parameters, declarations and names there are; or offset, line and column, and zeros
unfoldable pub numbers_of : Outcome → List ℕ
numbers_of (accepted a) = length a.table.rows
    ∷ length a.table.members
    ∷ length a.table.values
    ∷ length a.table.parameters
    ∷ length a.table.declarations
    ∷ length a.names
    ∷ []
numbers_of (rejected n at line column) = at ∷ line ∷ column ∷ 0 ∷ 0 ∷ 0 ∷ []

-- the same of the code's answer
unfoldable pub number_told : Told → ℕ
number_told (Accepted c) = 0
number_told (Rejected n at line column) = n

unfoldable pub numbers_told : Told → List ℕ
numbers_told (Accepted c) = c.rows ∷ c.members ∷ c.values ∷ c.parameters ∷ c.declarations ∷ c.names ∷ []
numbers_told (Rejected n at line column) = at ∷ line ∷ column ∷ 0 ∷ 0 ∷ 0 ∷ []

-- numbers written over the front of a slice: what does not fit is not written, and what lies after them stays
unfoldable pub over : List ℕ → List ℕ → List ℕ
over [] ys = ys
over (x ∷ xs) [] = []
over (x ∷ xs) (y ∷ ys) = x ∷ over xs ys
