-- The loops of the definition count their rounds down. A number of rounds is enough for a loop where any more give the same: the loop
-- ends for what it reads, and never for want of rounds.
use Rattle.std.specs.Prelude.{◌≡◌, ℕ, ◌≤◌}

pub record Enough {B : Type 0} (loop : ℕ → B) (rounds : ℕ) : Type 0 where
  pub same : (f : ℕ) → rounds ≤ f → loop f ≡ loop rounds
