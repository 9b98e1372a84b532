-- A loop of the code against a definition that counts its rounds. Assumes nothing.
use mathlib.Core.Path.{◌≡◌, refl, ap, ◌∙◌}
use mathlib.Core.List.{List}
use Prim.Native.Nat.{ℕ, suc, ◌-◌, ◌≤◌, ◌<◌}
use native.Mathlib.Omega.{arith}
use lib.IntN.{ℤ}
use Rattle.definition.specs.Answer.{Answer}
use Rattle.definition.specs.Table.{Table, State}
use Rattle.table.specs.Ends.{Ends}
use Rattle.table.specs.Held.{state, moved_to, Encodes, Held}
use Rattle.table.specs.declared.Cursor.{Cursor}
use Rattle.table.proofs.Shown.{held, at_other}

-- the answer a is what g says from here, with more than l rounds
pub record Going {B : Type 0} (g : ℕ → State → Answer B) (l : ℕ) (c : Cursor) (w d : List ℕ) (v : List ℤ) (a : Answer B) : Type 0 where
  pub table : Table
  pub rounds : ℕ
  pub enough : l < rounds
  pub holds : Encodes table c w d v
  pub same : a ≡ g rounds (state c table)

module _ {B : Type 0} {g : ℕ → State → Answer B} {l : ℕ} {c : Cursor} {w d : List ℕ} {v : List ℤ} where
  pub starts : {n : ℕ} {t : Table} → Encodes t c w d v → l < n → Ends (Going g l c w d v) (g n (state c t))
  starts h p = record { ends = record { table = _; rounds = _; enough = p; holds = h; same = refl } }

  -- a round, and what is left after it
  pub turn : {Q : Answer B → Type 0} {a : Answer B} → Ends (Going g l c w d v) a
      → ((t : Table) (f : ℕ) → l ≤ f → Encodes t c w d v → Ends Q (g (suc f) (state c t))) → Ends Q a
  turn r k =
      let e = r.ends in
      let h : e.rounds ≡ suc (e.rounds - 1) = omega arith in
      rw (e.same ∙ ap (λ m. g m (state c e.table)) h) (k e.table (e.rounds - 1) (omega arith) e.holds)

  pub held-now : {a : Answer B} → Ends (Going g l c w d v) a → Held c w d v
  held-now r = held r.ends.holds

-- the same after a step in the tokens
pub starts-at : {B : Type 0} {g : ℕ → State → Answer B} {l n : ℕ} {c m : Cursor} {k : ℕ} {w d : List ℕ} {v : List ℤ} {t : Table}
    → m ≡ moved_to c k → Encodes t c w d v → l < n → Ends (Going g l m w d v) (g n (state (moved_to c k) t))
starts-at {k = k} e h p = rw e (starts (at_other h k) p)
