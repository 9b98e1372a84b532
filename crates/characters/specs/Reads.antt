-- What is read of a character constant.
use Rattle.std.specs.Prelude.{ℕ, ◌≤◌, ◌<◌, Result, IfOk}
use Rattle.encoding.specs.declared.refusals.Refusal.{Refusal}

-- what is read is a byte, and goes on in the text
abbrev pub Goes : ℕ → ℕ → Result (ℕ × ℕ) Refusal → Type 0
Goes at end r = IfOk r (λ p. (p.0 < 256) × (at ≤ p.1) × (p.1 ≤ end))
