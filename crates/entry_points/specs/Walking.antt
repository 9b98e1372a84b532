-- Demand 3 as the entries promise it: of every accepted text that meets the conditions, every walk ends inside its start type, and walks that part share no bit.
use Rattle.std.specs.Prelude.{◌≡◌, Bool, ℕ, T}
use Rattle.std.proofs.Math.Option.{some}
use Rattle.definition.specs.Text.{Bytes}
use Rattle.definition.specs.Model.{Model, model_of}
use Rattle.definition.specs.Entry as meant
use Rattle.walks.specs.Walk.{Walks}
use Rattle.walks.specs.Condition.{Meets, orderly}

pub record Walkable (model : ℕ) (lentEnough : Bool) (entry : meant.Entry) (text : Bytes) : Type 0 where
  -- from the conditions on the text
  pub walks : (m : Model) (a : meant.Accepted) → meant.outcome model lentEnough entry text ≡ meant.accepted a → model_of model ≡ some m → Meets text a.table → Walks m a.table
  -- from the weaker ones, on what was read
  pub walks_read : (m : Model) (a : meant.Accepted) → meant.outcome model lentEnough entry text ≡ meant.accepted a → model_of model ≡ some m → T (orderly a.table.log) → Walks m a.table
