-- How many type words were read. A text has no more of them than bytes, so that their counts fit 32 bits.
use Rattle.std.specs.Prelude.{ℕ, ◌≤◌}
use Rattle.definition.specs.Specifier.{Words, total}

-- at most n words
pub record AtMost (n : ℕ) (ws : Words) : Type 0 where
  pub few : total ws ≤ n
