-- What holds of every value that an answer may give; of a refusal it says nothing.
use Rattle.std.specs.Prelude.{◌≡◌}
use Rattle.definition.specs.Answer.{Answer, got}

pub record Every {A : Type 0} (P : A → Type 0) (r : Answer A) : Type 0 where
  pub of : (a : A) → r ≡ got a → P a
