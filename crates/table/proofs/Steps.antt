-- Tests of tokens that were read. Assumes nothing.
use mathlib.Core.Path.{◌≡◌, sym, ◌∙◌}
use mathlib.Core.Bool.{true, false}
use mathlib.Core.List.{List, [], ◌∷◌}
use Prim.Native.Nat.{ℕ, zero, suc, ◌<◌, ◌+◌}
use native.Mathlib.Omega.{arith}
use lib.Dec.{eqb}
use lib.ListN.{length, get_or}
use Rattle.definition.specs.Answer.{Answer, got, refused, ◌>>=◌}
use Rattle.definition.specs.Refusal.{missing_mark}
use Rattle.definition.specs.Token.{Tokens, need}
use Rattle.definition.specs.Table.{State, skip}
use Rattle.definition.specs.Grammar.{needed}
use Rattle.encoding.specs.Kinds.{kind_number, kind_numbers}
use Rattle.encoding.specs.declared.token_kinds.TokenKind.{TokenKind}
use Rattle.std.proofs.lemmas.List.{length-map}
use Rattle.table.specs.Ends.{Ends}
use Rattle.table.specs.Reply.{Peek}
use Rattle.table.proofs.Branch.{eq+, eq-, via, halt}
use Rattle.lemmas.proofs.Branch.{eq_yes, eq_no}

-- a token of a kind that is not 0 is there
there' : (ks : List ℕ) (i k : ℕ) → get_or ks i 0 ≡ suc k → i < length ks
there' [] i k e = absurd (omega arith)
there' (x ∷ xs) zero k e = omega arith
there' (x ∷ xs) (suc i) k e = let h = there' xs i k e in omega arith

pub there : {ks : List ℕ} {i k b : ℕ} → Peek ks i k → k ≡ suc b → i < length ks
there {ks} {i} {k} {b} p e = there' ks i b (sym p.is ∙ e)

-- and one of the code's
pub inside : (ks : List TokenKind) {i k : ℕ} → Peek (kind_numbers ks) i k → 0 < k → i < length ks
inside ks {k = zero} p e = absurd (omega (arith, e))
inside ks {k = suc b} p e = omega (arith, there {b = b} p (λ i. suc b), length-map ks kind_number)

-- a test of what was read
module _ {A : Type 0} {Q : A → Type 0} {ks : List ℕ} {i k b : ℕ} (x y : A) (p : Peek ks i k) where
  pub is+ : k ≡ b → Ends Q x → Ends Q (elim (eqb (get_or ks i 0) b) as (λ z. A) [ true ↦ x | false ↦ y ])
  is+ q = eq+ _ _ x y (sym p.is ∙ q)

  pub is- : (k ≡ b → ⊥) → Ends Q y → Ends Q (elim (eqb (get_or ks i 0) b) as (λ z. A) [ true ↦ x | false ↦ y ])
  is- q = eq- _ _ x y (λ e. q (p.is ∙ e))

-- a mark that must stand there, and what follows
module _ {B : Type 0} {Q : Answer B → Type 0} {k b : ℕ} (ts : Tokens) (s : State) (f : State → Answer B) (p : Peek ts.kinds s.at k) where
  pub ate : k ≡ b → Ends Q (f (skip s)) → Ends Q (needed ts b s >>= f)
  unfolding needed need ◌>>=◌
  ate e h = via f (via-is (eq_yes _ _ _ _ (sym p.is ∙ e))) h
    where
      via-is : need ts b s.at ≡ got (s.at + 1) → needed ts b s ≡ got (skip s)
      via-is q = rw q

  pub missed : (k ≡ b → ⊥) → Ends Q (refused missing_mark s.at) → Ends Q (needed ts b s >>= f)
  unfolding needed need ◌>>=◌
  missed e h = halt f (halt-is (eq_no _ _ _ _ (λ z. e (p.is ∙ z)))) h
    where
      halt-is : need ts b s.at ≡ refused missing_mark s.at → needed ts b s ≡ refused missing_mark s.at
      halt-is q = rw q
