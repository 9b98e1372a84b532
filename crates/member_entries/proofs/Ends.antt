-- The steps of the two ends. Assumes nothing.
use mathlib.Core.Path.{◌≡◌, refl, subst}
use mathlib.Core.Bool.{Bool, true, false, ◌&&◌, not}
use mathlib.Core.Logic.{◌⊎◌, inl, inr}
use mathlib.Core.List.{List}
use Prim.Native.Nat.{ℕ, zero, suc}
use native.Mathlib.Omega.{arith}
use lib.Dec.{eqb}
use lib.IntN.{ℤ}
use lib.ListN.{drop}
use borrow.Author.Tests.{ne_eqb}
use Rattle.definition.specs.Name.{no_name}
use Rattle.definition.specs.Model.{Model}
use Rattle.definition.specs.Table.{Table, Member, wide, with_members, mark_of}
use Rattle.definition.specs.Layout.{layout}
use Rattle.definition.specs.Composite.{how_many_carry, fields_only, noted}
use Rattle.table.specs.Held.{state, Encodes}
use Rattle.table.specs.Reply.{Reply, ok, bad, Shows, both, Moves, Nothing}
use Rattle.table.specs.Store.{ChangesWords}
use Rattle.table.specs.declared.Cursor.{Cursor}
use Rattle.table.proofs.Branch.{via, halt}
use Rattle.table.proofs.Shown.{got!, no_left}
use Rattle.open_lists.specs.Owning.{Counted}
use Rattle.layout.specs.Lays.{Lays, done, stop}
use Rattle.body_rows.specs.Bodies.{body_of}
use Rattle.body_rows.proofs.Logs.{logged-on}
use Rattle.member_entries.specs.Pieces.{closed}

-- a name, or none that is asked for
pub named : {b : Bool} {n : ℕ} → ((b ≡ false) × (n ≡ no_name → ⊥)) ⊎ (b ≡ true) → (not b && eqb n no_name) ≡ false
named (inl e) = rw (e.0, ne_eqb _ _ e.1)
named (inr e) = rw e

-- the note for the conditions of demand 3 stands in no slice
noted-on : {c : Cursor} {w d : List ℕ} {v : List ℤ} (b : Bool) (t : Table) (es : List Member) → Encodes (with_members t es) c w d v → Encodes (with_members (noted b t) es) c w d v
unfolding noted
noted-on true t es h = h
noted-on false t es h = logged-on wide h

module _ {t : Table} {c : Cursor} {w d : List ℕ} {v : List ℤ} (m : Model) (union : Bool) (first at : ℕ) where
  pub closed-refused : {n p : ℕ} → Lays t c w d v (layout m t union first at) (bad n p) → Shows both (closed m union first at (state c t)) (bad n p) w d v
  unfolding closed
  closed-refused (done x es a q h) = let z : ◌≡◌ {A = ℕ} 0 1 = cc in absurd (omega arith)
  closed-refused {n = n} {p} (stop k i a q l) =
      let x : n ≡ k = cc in
      let y : p ≡ i = cc in
      rw (x, y) (halt _ a (no_left l refl))

  pub closed-laid : {w' : List ℕ} {size count : ℕ} → Lays t c w d v (layout m t union first at) (ok c size)
      → ChangesWords (λ u. with_members u (fields_only first u.members)) c w w' → Counted (λ u. how_many_carry (mark_of first) (drop first u.members)) c w' count
      → Shows both (closed m union first at (state c t)) (ok c (body_of size (record { first = first; count = count }))) w' d v
  unfolding closed
  closed-laid {size = size} {count} (done x es a q h) f g =
      let z : size ≡ x = cc in
      let k = (f.with d v).run (with_members t es) h in
      let y : count ≡ how_many_carry (mark_of first) (drop first (fields_only first es)) = g.of _ k.words k.counts in
      via _ a (rw (z, y) (got! (noted-on _ t _ k)))
  closed-laid (stop n p a q l) f g = let z : ◌≡◌ {A = ℕ} 0 1 = cc in absurd (omega arith)
