-- Layout changes where members stand, and neither their rows nor their types. Assumes nothing.
use mathlib.Core.Path.{◌≡◌, refl, ◌∙◌}
use mathlib.Core.Bool.{Bool}
use mathlib.Core.Option.{Option, none, some}
use mathlib.Core.List.{List}
use Prim.Native.Nat.{ℕ, zero, suc, ◌+◌, ◌≤◌}
use native.Mathlib.Omega.{arith}
use lib.Dec.{eqb}
use lib.ListN.{length, take, length-append, length-take, length-drop}
use Rattle.definition.specs.Answer.{Answer}
use Rattle.definition.specs.Model.{Model}
use Rattle.definition.specs.Table.{Member, Table, mark_of}
use Rattle.definition.specs.Layout.{Laid, plain_member, zero_field, field_at, bit_field, in_struct, in_union, placed, placed_all, layout}
use Rattle.definition_laws.specs.Every.{Every}
use Rattle.definition_laws.proofs.Every.{got!, bool!, then!, any! }
use Rattle.definition_laws.proofs.Each.{Each, nil, cons, each_take, each-drop, each_append}
use Rattle.definition_laws.proofs.Sound.{MemberIn}

-- a member that was moved only
record Moved (e e' : Member) : Type 0 where
  row : e'.row ≡ e.row
  type : e'.type ≡ e.type

abbrev AllMoved : Member → Answer (Member × Laid) → Type 0
AllMoved e r = Every (λ (x : Member × Laid). Moved e x.0) r

moved! : {e : Member} → Moved e e
moved! = record { row = refl; type = refl }

bit_field-moves : (e : Member) (w unit a : ℕ) (l : Laid) → AllMoved e (bit_field e w unit a l)
unfolding bit_field field_at
bit_field-moves e w unit a l = then! _ _ any! λ u k. then! _ _ any! λ v j. got! (record { row = refl; type = refl })

in_struct_moves : (o : Option ℕ) (e : Member) (s a : ℕ) (l : Laid) → AllMoved e (in_struct o e s a l)
unfolding in_struct plain_member zero_field
in_struct_moves none e s a l = then! _ _ any! λ v k. got! (record { row = refl; type = refl })
in_struct_moves (some zero) e s a l = then! _ _ any! λ v k. got! (record { row = refl; type = refl })
in_struct_moves (some (suc w)) e s a l = bit_field-moves e (suc w) _ a l

module _ (m : Model) (t : Table) (union : Bool) where
  placed_moves : (last : Bool) (e : Member) (l : Laid) → AllMoved e (placed m t union last e l)
  unfolding placed in_union
  placed_moves last e l = then! _ _ any! λ s k. bool! union (got! (record { row = refl; type = refl })) (in_struct_moves e.width e s _ l)

  -- rows and types are as before, entry by entry
  record Same (n : ℕ) (os : List ℕ) (i : ℕ) (es es' : List Member) : Type 0 where
    each : Each (MemberIn n os) i es'
    long : length es' ≡ length es

  module _ (n : ℕ) (os : List ℕ) (mark : ℕ) where
    all_same : {i : ℕ} {es : List Member} (l : Laid) → Each (MemberIn n os) i es → Every (λ (x : List Member × Laid). Same n os i es x.0) (placed_all m t union mark es l)
    unfolding placed_all
    all_same l nil = got! (record { each = nil; long = refl })
    all_same l (cons {e} h hs) = bool! (eqb e.row mark)
        (then! _ _ (placed_moves _ e l) λ p k. then! _ _ (all_same p.1 hs) λ r j. got! (record {
          each = cons (record { carries = rw k.row h.carries; type = rw k.type h.type }) j.each;
          long = let z = j.long in omega arith;
        }))
        (then! _ _ (all_same l hs) λ r j. got! (record { each = cons h j.each; long = let z = j.long in omega arith }))

  pub layout-keeps : (n : ℕ) (os : List ℕ) (first at : ℕ) → first ≤ length t.members → Each (MemberIn n os) 0 t.members
      → Every (λ (x : ℕ × List Member). Each (MemberIn n os) 0 x.1 × (length x.1 ≡ length t.members)) (layout m t union first at)
  unfolding layout
  layout-keeps n os first at p h = then! _ _ (all_same n os (mark_of first) _ (each-drop h first)) λ r k. then! _ _ any! λ s j.
      let a : length (take first t.members) ≡ first = length-take first t.members ∙ omega arith in
      let b : 0 + length (take first t.members) ≡ 0 + first = omega arith in
      let c = k.long in
      got! (each_append (each_take h first) (rw b k.each), omega (arith, length-append (take first t.members) r.0, length-drop first t.members))
