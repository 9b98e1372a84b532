-- Every constant goes past the token that it begins at. Assumes nothing.
use mathlib.Core.Path.{◌≡◌, refl}
use mathlib.Core.Option.{Option}
use Prim.Native.Nat.{ℕ, zero, suc, ◌+◌, ◌≤◌}
use native.Mathlib.Omega.{arith}
use native.Mathlib.Nat.{le_refl}
use lib.Dec.{eqb, ltb}
use lib.IntN.{ℤ}
use Rattle.definition.specs.Kind.{number, is_name, open_paren, close_paren, question, colon}
use Rattle.definition.specs.Token.{Tokens, kind_at, number_at, left, need}
use Rattle.definition.specs.Arithmetic.{precedence, no_precedence, is_prefix}
use Rattle.definition.specs.Constant.{Readers, primary, operand₁, operators_from, chain₁, condition₁, level, depths, constant}
use Rattle.definition_laws.specs.Every.{Every}
use Rattle.definition_laws.specs.Progress.{ReadsPast}
use Rattle.definition_laws.proofs.Every.{got!, no!, bool!, option!, then!, weaker!, any! }

-- a mark that must stand at an index is there
pub need-on : (ts : Tokens) (mark i : ℕ) → Every (λ (j : ℕ). j ≡ i + 1) (need ts mark i)
unfolding need
need-on ts mark i = bool! (eqb (kind_at ts i) mark) (got! refl) no!

-- the readers of a level go past
pub record ReadersPast (next : Readers) : Type 0 where
  pub condition : (at : ℕ) → ReadsPast at (next.condition at)
  pub chain : (low at : ℕ) → ReadsPast at (next.chain low at)
  pub operand : (at : ℕ) → ReadsPast at (next.operand at)

module _ (ts : Tokens) (known : ℕ → Option ℤ) (next : Readers) (ok : ReadersPast next) where
  primary-past : (at : ℕ) → ReadsPast at (primary ts known next at)
  unfolding primary
  primary-past at = bool! (eqb (kind_at ts at) number) (then! _ _ any! λ v h. got! (omega arith))
      (bool! (is_name (kind_at ts at)) (option! (known (number_at ts at)) (λ v e. got! (omega arith)) no!) no!)

  operand-past : (at : ℕ) → ReadsPast at (operand₁ ts known next at)
  unfolding operand₁
  operand-past at = bool! (is_prefix (kind_at ts at))
      (then! _ _ (ok.operand (at + 1)) λ r h. then! _ _ any! λ v k. got! (omega arith))
      (bool! (eqb (kind_at ts at) open_paren)
      (then! _ _ (ok.condition (at + 1)) λ r h. then! _ _ (need-on ts close_paren r.1) λ a e. got! (omega arith))
      (primary-past at))

  pub operators-on : (f low : ℕ) (x : ℤ) (at : ℕ) → Every (λ (y : ℤ × ℕ). at ≤ y.1) (operators_from ts known next f low x at)
  unfolding operators_from
  operators-on zero low x at = got! (le_refl _)
  operators-on (suc f) low x at = bool! (ltb low (precedence (kind_at ts at)))
      (then! _ _ (ok.chain (precedence (kind_at ts at)) (at + 1)) λ r h. then! _ _ any! λ v k.
      weaker! (operators-on f low v r.1) (λ y p. omega arith))
      (got! (le_refl _))

  chain-past : (low at : ℕ) → ReadsPast at (chain₁ ts known next low at)
  unfolding chain₁
  chain-past low at = then! _ _ (operand-past at) λ r h. weaker! (operators-on (suc (left ts r.1)) low r.0 r.1) (λ y p. omega arith)

  condition-past : (at : ℕ) → ReadsPast at (condition₁ ts known next at)
  unfolding condition₁
  condition-past at = then! _ _ (chain-past no_precedence at) λ c h. bool! (eqb (kind_at ts c.1) question)
      (then! _ _ (ok.condition (c.1 + 1)) λ x p. then! _ _ (need-on ts colon x.1) λ a e. then! _ _ (ok.condition a) λ y q. got! (omega arith))
      (got! h)

-- at every level
pub level-past : (ts : Tokens) (known : ℕ → Option ℤ) (room : ℕ) → ReadersPast (level ts known room)
unfolding level
level-past ts known zero = record { condition = λ at. no!; chain = λ low at. no!; operand = λ at. no! }
level-past ts known (suc room) = let h = level-past ts known room in record {
  condition = condition-past ts known _ h;
  chain = chain-past ts known _ h;
  operand = operand-past ts known _ h;
}

pub constant-past : (ts : Tokens) (known : ℕ → Option ℤ) (at : ℕ) → ReadsPast at (constant ts known at)
unfolding constant
constant-past ts known at = (level-past ts known depths).condition at
