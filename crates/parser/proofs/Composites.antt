-- For structs and unions: a level of them, a tag's name as it was read, where the fields of a body begin, rounds that suffice after a type. Assumes nothing.
use mathlib.Core.Path.{◌≡◌, refl, sym, ap, ◌∙◌}
use mathlib.Core.Bool.{Bool}
use mathlib.Core.List.{List}
use Prim.Native.Nat.{ℕ, suc, ◌-◌, ◌≤◌, ◌<◌}
use native.Mathlib.Omega.{arith}
use lib.IntN.{ℤ}
use lib.ListN.{length}
use Rattle.definition.specs.Answer.{Answer, refused, ◌>>=◌}
use Rattle.definition.specs.Refusal.{too_deep}
use Rattle.definition.specs.Token.{Tokens, number_at, left}
use Rattle.definition.specs.Model.{Model}
use Rattle.definition.specs.Table.{State}
use Rattle.definition.specs.Grammar.{Levels}
use Rattle.definition.specs.Limit.{max_members}
use Rattle.definition.specs.Composite.{Body, members_from, body, tagged_composite, composite₁}
use Rattle.definition.specs.Reader.{levels}
use Rattle.definition_laws.specs.Every.{Every}
use Rattle.definition_laws.proofs.Every.{got!, then!, any! }
use Rattle.table.specs.Ends.{Ends}
use Rattle.table.specs.Held.{state, Held}
use Rattle.table.specs.Reply.{Reply, ok, Peek, Does}
use Rattle.table.specs.declared.Cursor.{Cursor}
use Rattle.table.proofs.Branch.{by}
use Rattle.table.proofs.Shown.{went}
use Rattle.member_entries.specs.Pieces.{closed}
use Rattle.member_entries.proofs.Made.{body-made}

-- refused where no level is left
module _ (ts : Tokens) (m : Model) {room : ℕ} (union : Bool) (s : State) where
  pub no_level : room ≡ 0 → (levels ts m room).composite union s ≡ refused too_deep s.at
  unfolding levels
  no_level e = rw e

  pub a-level : (room ≡ 0 → ⊥) → (levels ts m room).composite union s ≡ composite₁ ts m (levels ts m (room - 1)) union s
  unfolding levels
  a-level e = let h : room ≡ suc (room - 1) = omega arith in ap (λ k. (levels ts m k).composite union s) h

-- the tag's name as it was read
pub tagged : {Q : Answer (ℕ × State) → Type 0} {at n : ℕ} (ts : Tokens) (m : Model) (next : Levels) (union : Bool) (s : State) → Peek ts.numbers at n
    → Ends Q (tagged_composite ts m next union n at s) → Ends Q (tagged_composite ts m next union (number_at ts at) at s)
tagged {at = at} ts m next union s p h = by (ap (λ (z : ℕ). tagged_composite ts m next union z at s) (sym p.is)) h

-- a body's fields begin after the members that there were
pub body-first : (ts : Tokens) (m : Model) (next : Levels) (union : Bool) (at : ℕ) (s : State) → Every (λ (x : Body × State). x.0.fields.first ≡ length s.table.members) (body ts m next union at s)
unfolding body
body-first ts m next union at s = then! _ _ any! λ s₁ e. then! _ _ any! λ l i. got! refl

-- as the cursor counts them
pub first_fits : {c e : Cursor} {w d w' d' : List ℕ} {v v' : List ℤ} {r : Reply Body} {b : Body} (ts : Tokens) (m : Model) (next : Levels) (union : Bool) (at : ℕ)
    → Does (body ts m next union at) c w d v r w' d' v' → Held c w d v → r ≡ ok e b → b.fields.first ≤ max_members
first_fits {c} ts m next union at g h q =
    let k = went (g.run h.table h.encodes) q in
    let l = (body-first ts m next union at (state c h.table)).of _ k.says in
    let n = h.encodes.counts.members in
    let z = h.room.members in
    omega arith

-- a body by the number of members that the cursor counts
pub from_first : {Q : Answer (Body × State) → Type 0} {first : ℕ} (ts : Tokens) (m : Model) (next : Levels) (union : Bool) (at : ℕ) (s : State) → first ≡ length s.table.members
    → Ends Q (members_from ts m next (suc (left ts s.at)) first s >>= closed m union first at) → Ends Q (body ts m next union at s)
from_first ts m next union at s e h = by (body-made ts m next union at s ∙ ap (λ (i : ℕ). members_from ts m next (suc (left ts s.at)) i s >>= closed m union i at) (sym e)) h

-- rounds that suffice where a declaration began suffice after its type
pub enough : {i j k : ℕ} (ts : Tokens) → i ≤ j → k ≡ j → left ts k < suc (left ts i)
enough ts p q = omega arith
