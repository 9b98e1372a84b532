-- Constant expressions (C11 6.6): "a condition, an operator chain and an operand contain one another".
use Rattle.std.specs.Prelude.{true, false, ℕ, zero, suc, ◌+◌, eqb, ltb, ℤ, pos}
use Rattle.std.proofs.Math.Option.{Option, none, some}
use Rattle.definition.specs.Answer.{Answer, got, refused, ◌>>=◌}
use Rattle.definition.specs.Refusal.{too_deep, no_constant}
use Rattle.definition.specs.Kind.{number, is_name, open_paren, close_paren, question, colon}
use Rattle.definition.specs.Token.{Tokens, kind_at, number_at, left, need}
use Rattle.definition.specs.Range.{ranged, exact}
use Rattle.definition.specs.Arithmetic.{precedence, no_precedence, operator, is_prefix, prefixed, chosen}

-- a value, and the index of the token after it
abbrev pub Read : Type 0
Read = Answer (ℤ × ℕ)

-- the readers of one level of nesting, each from the index of a token
pub record Readers : Type 0 where
  pub condition : ℕ → Read
  pub chain : ℕ → ℕ → Read
  pub operand : ℕ → Read

-- One level over the next deeper one; `known` is the value of the enumerator of a name.
module _ (ts : Tokens) (known : ℕ → Option ℤ) (next : Readers) where
  -- a literal, or an enumerator's name; a keyword has no value
  unfoldable pub primary : ℕ → Read
  primary at =
      elim (eqb (kind_at ts at) number) [
        | true ↦ (do
          v ← ranged at (pos (number_at ts at))
          got (v, at + 1))
        | false ↦
            elim (is_name (kind_at ts at)) [
              | true ↦
                  elim (known (number_at ts at)) [ some v ↦ got (v, at + 1) | none ↦ refused no_constant at ]
              | false ↦
                  refused no_constant at
            ]
      ]

  -- a prefix and its operand, a condition in parentheses, or neither; `--1` is two prefixes
  unfoldable pub operand₁ : ℕ → Read
  operand₁ at =
      elim (is_prefix (kind_at ts at)) [
        | true ↦ (do
          r ← next.operand (at + 1)
          v ← ranged at (prefixed (kind_at ts at) r.0)
          got (v, r.1))
        | false ↦
            elim (eqb (kind_at ts at) open_paren) [
              | true ↦ (do
                r ← next.condition (at + 1)
                after ← need ts close_paren r.1
                got (r.0, after))
              | false ↦
                  primary at
            ]
      ]

  -- operators of a precedence above `low`, from the left, each with its right side; every round takes an operator, so the rounds suffice
  unfoldable pub operators_from : ℕ → ℕ → ℤ → ℕ → Read
  operators_from zero low x at = got (x, at)
  operators_from (suc rounds) low x at =
      elim (ltb low (precedence (kind_at ts at))) [
        | false ↦ got (x, at)
        | true ↦ (do
          r ← next.chain (precedence (kind_at ts at)) (at + 1)
          v ← exact (operator (kind_at ts at) x r.0) at
          operators_from rounds low v r.1)
      ]

  unfoldable pub chain₁ : ℕ → ℕ → Read
  chain₁ low at = do
    r ← operand₁ at
    operators_from (suc (left ts r.1)) low r.0 r.1

  -- "Every arm is evaluated."
  unfoldable pub condition₁ : ℕ → Read
  condition₁ at = do
    c ← chain₁ no_precedence at
    elim (eqb (kind_at ts c.1) question) [
      | false ↦ got c
      | true ↦ (do
        x ← next.condition (c.1 + 1)
        after ← need ts colon x.1
        y ← next.condition after
        got (chosen c.0 x.0 y.0, y.1))
    ]

-- the readers with a number of levels left: with none, "depth above 64"
unfoldable pub level : Tokens → (ℕ → Option ℤ) → ℕ → Readers
level ts known zero = record {
  condition = λ at. refused too_deep at;
  chain = λ low at. refused too_deep at;
  operand = λ at. refused too_deep at;
}
level ts known (suc room) = let next = level ts known room in record {
  condition = condition₁ ts known next;
  chain = chain₁ ts known next;
  operand = operand₁ ts known next;
}

-- depths 0 to 64
abbrev pub depths : ℕ
depths = 65

unfoldable pub constant : Tokens → (ℕ → Option ℤ) → ℕ → Read
constant ts known at = (level ts known depths).condition at
