-- The rounds of the loop over enumerators. Assumes nothing.
use mathlib.Core.Path.{◌≡◌, subst, ◌∙◌}
use mathlib.Core.List.{List}
use Prim.Native.Nat.{ℕ, suc, ◌+◌, ◌-◌, ◌≤◌, ◌<◌}
use native.Mathlib.Omega.{arith}
use lib.IntN.{ℤ, pos, suc_ℤ}
use Rattle.definition.specs.Answer.{Answer}
use Rattle.definition.specs.Token.{Tokens, left}
use Rattle.definition.specs.Model.{Model}
use Rattle.definition.specs.Table.{Table, State}
use Rattle.definition.specs.Reader.{levels}
use Rattle.definition.specs.Enumeration.{enumerator, enumerators_from}
use Rattle.definition_laws.proofs.Progress.{enumerator-past, levels-on}
use Rattle.table.specs.Ends.{Ends}
use Rattle.table.specs.Held.{state, moved_to, Encodes, Held}
use Rattle.table.specs.Reply.{Reply, ok, Does}
use Rattle.table.specs.declared.Cursor.{Cursor}
use Rattle.table.proofs.Rounds.{Going, starts, starts-at}
use Rattle.table.proofs.Shown.{went}
use Rattle.enumerators.specs.Doing.{enumerators_here}

-- the rounds from a state on, with the value that is pending
abbrev pub rounds : Tokens → ℕ → Model → ℕ → ℤ → ℕ → State → Answer State
rounds ts room m first z n s = enumerators_from ts m (levels ts m room) n first z s

-- what the loop keeps: what is left to read says the whole body's answer
pub record Reading (ts : Tokens) (room first : ℕ) (c : Cursor) (w₀ d₀ : List ℕ) (v₀ : List ℤ) (z : ℤ) (s : Cursor) (w d : List ℕ) (v : List ℤ) : Type 0 where
  pub held : Held s w d v
  pub few : first ≤ 4096
  pub going : (m : Model) (t : Table) → Encodes t c w₀ d₀ v₀ → Ends (Going (rounds ts room m first z) (left ts s.at) s w d v) (enumerators_here ts m (levels ts m room) (state c t))

pub begin : {first : ℕ} {c : Cursor} {w d : List ℕ} {v : List ℤ} (ts : Tokens) (room : ℕ) → first ≡ c.values → first ≤ 4096 → Held c w d v → Reading ts room first c w d v (pos 0) c w d v
begin {first} {c} {w} {d} {v} ts room e j k = record {
  held = k;
  few = j;
  going = λ m t h. subst (λ (i : ℕ). Ends (Going (rounds ts room m first (pos 0)) (left ts c.at) c w d v) (enumerators_from ts m (levels ts m room) (suc (left ts c.at)) i (pos 0) (state c t))) (e ∙ h.counts.values) (starts h (omega arith));
}

-- an enumerator takes a token, so fewer are left after it and its comma
pub on-past : {c e : Cursor} {w d w' d' : List ℕ} {v v' : List ℤ} {r : Reply ℤ} {x : ℤ} (ts : Tokens) (m : Model) (room first : ℕ) (z : ℤ)
    → Does (enumerator ts m (levels ts m room) first z) c w d v r w' d' v' → Held c w d v → r ≡ ok e x → c.at < e.at
on-past {c} ts m room first z g h q = (enumerator-past ts m _ (levels-on ts m room) first z (state c h.table)).of _ (went (g.run h.table h.encodes) q).says

pub fewer : {e s : Cursor} (i n : ℕ) → s ≡ moved_to e (e.at + 1) → i < e.at → e.at < n → n - s.at < n - i
fewer i n q p l = rw q (omega arith)

pub again : {s e : Cursor} {w d : List ℕ} {v : List ℤ} {t : Table} (ts : Tokens) (m : Model) (room first f k : ℕ) (z x : ℤ) → z ≡ suc_ℤ x → s ≡ moved_to e k → Encodes t e w d v → left ts s.at < f
    → Ends (Going (rounds ts room m first z) (left ts s.at) s w d v) (enumerators_from ts m (levels ts m room) f first (suc_ℤ x) (state (moved_to e k) t))
again {s} {e} {w} {d} {v} {t} ts m room first f k z x q u h p = subst (λ (y : ℤ). Ends (Going (rounds ts room m first z) (left ts s.at) s w d v) (enumerators_from ts m (levels ts m room) f first y (state (moved_to e k) t))) q (starts-at u h p)
