-- What the readers of constants answer, and over which tokens.
use Rattle.std.specs.Prelude.{◌≡◌, List, ℕ, ℤ, Result}
use Rattle.std.proofs.Math.Option.{Option}
use Rattle.definition.specs.Token.{Tokens}
use Rattle.definition.specs.Constant.{Readers, primary}
use Rattle.encoding.specs.Kinds.{kind_numbers}
use Rattle.encoding.specs.Refusals.{answer_by}
use Rattle.encoding.specs.declared.refusals.Refusal.{Refusal}
use Rattle.constants.specs.Lookup.{known_value}
use Rattle.constants.specs.declared.Place.{Place}
use Rattle.constants.specs.declared.Source.{Source}

-- the index of a token
abbrev pub index : Place → ℕ
index p = p.at

-- a value, with the index of the token after it
abbrev pub with_place : Place × ℤ → ℤ × ℕ
with_place p = (p.1, p.0.at)

-- the columns of tokens
abbrev pub tokens : List ℕ → List ℕ → Tokens
tokens ks ns = record { kinds = ks; numbers = ns }

abbrev pub tokens_of : Source → Tokens
tokens_of s = tokens (kind_numbers s.kinds.now) s.numbers.now

-- the value of a name
abbrev pub known_to : Source → ℕ → Option ℤ
known_to s = known_value s.words.now s.values.now s.count

-- the answer r is a literal's or a name's; the readers of deeper levels do not bear on it
pub record ReadsPrimary (ts : Tokens) (known : ℕ → Option ℤ) (at : ℕ) (r : Result (Place × ℤ) Refusal) : Type 0 where
  pub is : (next : Readers) → answer_by with_place r ≡ primary ts known next at
