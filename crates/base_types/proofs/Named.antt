-- Rows that words and known names make, added. Assumes nothing.
use mathlib.Core.Path.{◌≡◌}
use mathlib.Core.Option.{Option, none, some}
use mathlib.Core.List.{List}
use Prim.Native.Nat.{ℕ}
use lib.IntN.{ℤ}
use Rattle.definition.specs.Answer.{Answer}
use Rattle.definition.specs.Row.{Row}
use Rattle.definition.specs.Table.{Table, State}
use Rattle.definition.specs.Types.{add}
use Rattle.table.specs.Held.{state, Encodes}
use Rattle.table.specs.Reply.{Reply, bad, reply, both, Shows, numbers}
use Rattle.table.specs.declared.Cursor.{Cursor}
use Rattle.table.specs.declared.Numbers.{Numbers}
use Rattle.table.proofs.Branch.{some!, none! }
use Rattle.words.specs.declared.types.BaseRow.{BaseRow}
use Rattle.std.specs.Prelude.{Option as CodeOption, Some, None, Result, Err}
use Rattle.std.specs.Option.{ok_or}
use Rattle.std.specs.Result.{IsErrAnd}
use Rattle.std.proofs.lemmas.Result.{err_from_is_err_and}
use Rattle.encoding.specs.Refusals.{number_of}
use Rattle.encoding.specs.declared.refusals.Refusal.{Refusal}
use Rattle.words.specs.Meaning.{numbers as base_numbers, known}
use Rattle.words.specs.Plain.{Plain, AllPlain}
use Rattle.words.proofs.Uses.{a-row, no_row}
use Rattle.base_types.specs.Basing.{AddsPlain}

-- the numbers of a plain row
pub plain_numbers : {b : BaseRow} (x : Row) → b ≡ base_numbers x → Plain x
    → ◌≡◌ {A = Numbers} (record { kind = b.kind; target = 0; flags = b.flags; name = 0; first = 0; count = 0; extent = b.extent }) (numbers x)
unfolding base_numbers
plain_numbers {b} x e p = rw (e, p.target, p.name, p.entries)

-- the row of an answer that words or a name gave, added; or nothing to add
module _ (o : Option Row) {c : Cursor} {t : Table} {w d w' d' : List ℕ} {v v' : List ℤ} {r : Reply ℕ} (y : Answer (ℕ × State)) where
  pub added : {b : BaseRow} → AllPlain o → Some b ≡ known o → AddsPlain b c w d v r w' d' v' → Encodes t c w d v
      → Shows both (elim o as (λ z. Answer (ℕ × State)) [ some x ↦ add x (state c t) | none ↦ y ]) r w' d' v'
  added p e a h =
      let s = a-row o e in
      some! o (λ x. add x (state c t)) y s.there ((a.of s.row s.same (p.of s.row s.there)).run t h)

pub none-added : (o : Option Row) {w d : List ℕ} {v : List ℤ} {r : Reply ℕ} (s : State) (y : Answer (ℕ × State)) → None ≡ known o → Shows both y r w d v
    → Shows both (elim o as (λ z. Answer (ℕ × State)) [ some x ↦ add x s | none ↦ y ]) r w d v
none-added o s y e h = none! o (λ x. add x s) y (no_row o e) h

-- the refusal where there is nothing to add
pub refused-as : {A X : Type 0} (o : CodeOption A) (r : Result (Cursor × X) Refusal) (x : Refusal) {e : Refusal} → Err e ≡ ok_or o x → o ≡ None → IsErrAnd r (λ y. y ≡ e) → reply r ≡ bad (number_of x.reason) x.at
refused-as {A} o r x {e} v n q =
    let p = err_from_is_err_and r q in
    let w : ◌≡◌ {A = Result A Refusal} (Err e) (Err x) = rw n at v in
    let z : e ≡ x = cc in
    rw (p.1, p.2, z)
