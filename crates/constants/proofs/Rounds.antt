-- The loop over operators against a definition that counts its rounds. Assumes nothing.
use mathlib.Core.Path.{◌≡◌, refl, ap, ◌∙◌}
use mathlib.Core.Option.{Option}
use Prim.Native.Nat.{ℕ, suc, ◌-◌, ◌≤◌, ◌<◌}
use native.Mathlib.Omega.{arith}
use lib.IntN.{ℤ}
use Rattle.definition.specs.Answer.{Answer}
use Rattle.definition.specs.Token.{Tokens, left}
use Rattle.definition.specs.Constant.{Readers, operators_from}
use Rattle.table.specs.Ends.{Ends}
use Rattle.table.proofs.Branch.{by}

-- the answer a is what the operators from here give, with rounds enough for the tokens left
pub record Going (ts : Tokens) (known : ℕ → Option ℤ) (next : Readers) (low : ℕ) (x : ℤ) (at : ℕ) (a : Answer (ℤ × ℕ)) : Type 0 where
  pub rounds : ℕ
  pub enough : left ts at < rounds
  pub goes : a ≡ operators_from ts known next rounds low x at

module _ {ts : Tokens} {known : ℕ → Option ℤ} {next : Readers} {low : ℕ} {x : ℤ} {at : ℕ} where
  pub starts : (n : ℕ) → left ts at < n → Ends (Going ts known next low x at) (operators_from ts known next n low x at)
  starts n p = record { ends = record { rounds = n; enough = p; goes = refl } }

  -- the same, where the value and the index are equal to those of the code
  pub starts_as : {y : ℤ} {i : ℕ} (n : ℕ) → y ≡ x → i ≡ at → left ts i < n → Ends (Going ts known next low y i) (operators_from ts known next n low x at)
  starts_as n d e p = record { ends = record { rounds = n; enough = p; goes = rw (d, e) } }

  pub turn : {Q : Answer (ℤ × ℕ) → Type 0} {a : Answer (ℤ × ℕ)} → Ends (Going ts known next low x at) a
      → ((f : ℕ) → left ts at ≤ f → Ends Q (operators_from ts known next (suc f) low x at)) → Ends Q a
  turn r k =
      let e = r.ends in
      let h : e.rounds ≡ suc (e.rounds - 1) = omega (arith, e.enough) in
      by (e.goes ∙ ap (λ m. operators_from ts known next m low x at) h) (k (e.rounds - 1) (omega (arith, e.enough)))
