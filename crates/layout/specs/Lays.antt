-- What the code's layout means.
use Rattle.std.specs.Prelude.{◌≡◌, List, ◌++◌, Bool, ◌&&◌, ℕ, ℤ, length, take, drop, Result, Ok, Err}
use Rattle.definition.specs.Answer.{Answer, got, refused, ◌>>=◌}
use Rattle.definition.specs.Model.{Model as MeantModel}
use Rattle.definition.specs.Table.{Table, Member, row_at, mark_of, with_members}
use Rattle.definition.specs.Types.{resolve}
use Rattle.definition.specs.Size.{size_of}
use Rattle.definition.specs.Layout.{Laid as MeantLaid, empty_body, located, is_unsized, member_size, is_last, placed, placed_all}
use Rattle.table.specs.Held.{InWords, Encodes, Left, member_at}
use Rattle.encoding.specs.Refusals.{number_of, answer}
use Rattle.encoding.specs.declared.refusals.Refusal.{Refusal}
use Rattle.table.specs.Reply.{Reply, ok, bad}
use Rattle.table.specs.declared.Cursor.{Cursor}
use Rattle.model.specs.declared.Model.{Model}
use Rattle.model.specs.Meaning.{model}
use Rattle.size_align.specs.Measure.{Extents}
use Rattle.layout_arithmetic.specs.declared.Laid.{Laid}
use Rattle.layout_arithmetic.specs.declared.Placed.{Placed}
use Rattle.layout_arithmetic.specs.Outcome.{laid_of}

-- a member where it stands, and what has been laid out with it
abbrev pub place : Result Placed Refusal → Member → Answer (Member × MeantLaid)
place (Ok p) e = got (located e p.offset p.bit, laid_of p.laid)
place (Err r) e = refused (number_of r.reason) r.at

-- what the members take, and the body's size: the cursor stays
abbrev pub placing : Cursor → Result Laid Refusal → Reply MeantLaid
placing c (Ok l) = ok c (laid_of l)
placing c (Err e) = bad (number_of e.reason) e.at

abbrev pub sized : Cursor → Result ℕ Refusal → Reply ℕ
sized c (Ok n) = ok c n
sized c (Err e) = bad (number_of e.reason) e.at

-- No entry from number i on carries the mark.
pub record LastIs (mark members i : ℕ) (w : List ℕ) (r : Bool) : Type 0 where
  pub of : (m : MeantModel) (t : Table) (union : Bool) → InWords t w → members ≡ length t.members → r ≡ is_last m t union mark (drop i t.members)

pub record BytesAre (m : Model) (type : ℕ) (last : Bool) (at : ℕ) (w d : List ℕ) (r : Result ℕ Refusal) : Type 0 where
  pub of : (t : Table) → InWords t w → Extents t d → answer r ≡ member_size (size_of (model m) t type) (last && is_unsized (row_at t (resolve t type))) at

-- The member is not laid out yet: its offset is still its place in the text.
pub record PlaceIs (m : Model) (members : ℕ) (union last : Bool) (i : ℕ) (l : Laid) (w d : List ℕ) (r : Result Placed Refusal) : Type 0 where
  pub of : (t : Table) → InWords t w → (x : Extents t d) → members ≡ length t.members → (member_at x.table i).offset ≡ (member_at t i).offset
      → place r (member_at t i) ≡ placed (model m) t union last (member_at t i) (laid_of l)

-- what the members of a body take, and all entries with those of the body at their places
unfoldable pub placed_from : MeantModel → Table → Bool → ℕ → Answer (MeantLaid × List Member)
placed_from m t union first = do
  r ← placed_all m t union (mark_of first) (drop first t.members) empty_body
  got (r.1, take first t.members ++ r.0)

-- An answer and the slices say what f says of whatever table they held: its value, and the member entries that it makes; or its refusal.
pub data Lays {A : Type 0} (t : Table) (c : Cursor) (w d : List ℕ) (v : List ℤ) (a : Answer (A × List Member)) (r : Reply A) : Type 0 where
  done : (x : A) (es : List Member) → a ≡ got (x, es) → r ≡ ok c x → Encodes (with_members t es) c w d v → Lays t c w d v a r
  stop : (n p : ℕ) → a ≡ refused n p → r ≡ bad n p → Left w d v → Lays t c w d v a r

pub record LaysOut {A : Type 0} (f : Table → Answer (A × List Member)) (c : Cursor) (w d : List ℕ) (r : Reply A) (d' : List ℕ) : Type 0 where
  pub of : (t : Table) (v : List ℤ) → Encodes t c w d v → Lays t c w d' v (f t) r
