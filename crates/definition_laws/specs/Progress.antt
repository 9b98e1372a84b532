-- Readers go on among the tokens, and never back.
use Rattle.std.specs.Prelude.{◌≡◌, ℕ, ◌≤◌, ◌<◌, ℤ}
use Rattle.definition.specs.Answer.{Answer}
use Rattle.definition.specs.Table.{State}
use Rattle.definition_laws.specs.Every.{Every}

-- a reader that succeeds stands at an index or after it,
abbrev pub On : {A : Type 0} → ℕ → Answer (A × State) → Type 0
On {A} i r = Every (λ (x : A × State). i ≤ x.1.at) r

-- or after it: it took a token,
abbrev pub Past : {A : Type 0} → ℕ → Answer (A × State) → Type 0
Past {A} i r = Every (λ (x : A × State). i < x.1.at) r

-- or just there: it changed the table only.
abbrev pub Stays : {A : Type 0} → ℕ → Answer (A × State) → Type 0
Stays {A} i r = Every (λ (x : A × State). x.1.at ≡ i) r

-- The same of readers that give no value,
abbrev pub MovesOn : ℕ → Answer State → Type 0
MovesOn i r = Every (λ (s : State). i ≤ s.at) r

abbrev pub MovesPast : ℕ → Answer State → Type 0
MovesPast i r = Every (λ (s : State). i < s.at) r

abbrev pub Remains : ℕ → Answer State → Type 0
Remains i r = Every (λ (s : State). s.at ≡ i) r

-- and of constants, which give the index of the token after them.
abbrev pub ReadsPast : ℕ → Answer (ℤ × ℕ) → Type 0
ReadsPast i r = Every (λ (x : ℤ × ℕ). i < x.1) r
