-- An answer: a value, or a refusal with its number (Refusal.antt) and its offset in the text.
use Rattle.std.specs.Prelude.{ℕ}

pub data Answer (A : Type 0) : Type 0 where
  got : A → Answer A
  refused : ℕ → ℕ → Answer A

infixl 1 ◌>>=◌
-- "the first found is given": what follows a refusal is not looked at
unfoldable pub ◌>>=◌ : {A B : Type 0} → Answer A → (A → Answer B) → Answer B
(got a) >>= f = f a
(refused n at) >>= f = refused n at
