-- Demand 3 holds at every call. Assumes nothing.
use mathlib.Core.Bool.{Bool}
use Prim.Native.Nat.{ℕ}
use Rattle.definition.specs.Text.{Bytes}
use Rattle.definition.specs.Entry as meant
use Rattle.walks.proofs.AcceptedWalks.{walks_stay_inside_and_apart, walks_stay_inside_and_apart_by_log}
use Rattle.entry_points.specs.Walking.{Walkable}

pub walkable : (model : ℕ) (lentEnough : Bool) (entry : meant.Entry) (text : Bytes) → Walkable model lentEnough entry text
walkable model lentEnough entry text = record { walks = λ m a e q c. walks_stay_inside_and_apart model lentEnough entry text m a e q c; walks_read = λ m a e q h. walks_stay_inside_and_apart_by_log model lentEnough entry text m a e q h }
