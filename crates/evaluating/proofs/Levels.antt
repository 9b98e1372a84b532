-- A level's constant: refused where no level is left. Assumes nothing.
use mathlib.Core.Path.{◌≡◌, ap}
use Prim.Native.Nat.{ℕ, suc, ◌-◌}
use native.Mathlib.Omega.{arith}
use Rattle.definition.specs.Answer.{refused}
use Rattle.definition.specs.Refusal.{too_deep}
use Rattle.definition.specs.Token.{Tokens}
use Rattle.definition.specs.Model.{Model}
use Rattle.definition.specs.Table.{State}
use Rattle.definition.specs.Reader.{constant_here, levels}

module _ (ts : Tokens) (m : Model) {room : ℕ} (s : State) where
  pub no_constant_lem : room ≡ 0 → (levels ts m room).constant s ≡ refused too_deep s.at
  unfolding levels
  no_constant_lem e = rw e

  pub a-constant : (room ≡ 0 → ⊥) → (levels ts m room).constant s ≡ constant_here ts s
  unfolding levels
  a-constant e = let h : room ≡ suc (room - 1) = omega arith in ap (λ k. (levels ts m k).constant s) h
