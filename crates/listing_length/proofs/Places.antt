-- Layout gives every member of a body a place below 2^64, and changes nothing else. Assumes nothing.
use mathlib.Core.Path.{◌≡◌, refl, ap}
use mathlib.Core.Bool.{Bool}
use mathlib.Core.Option.{Option, none, some}
use mathlib.Core.List.{List, [], ◌∷◌}
use Prim.Native.Nat.{ℕ, zero, suc, ◌+◌, ◌*◌, ◌^◌, ◌≤◌, ◌<◌}
use native.Mathlib.Omega.{arith}
use native.Mathlib.Nat.{div-mul-le_self}
use lib.Dec.{eqb, ltb}
use lib.ListN.{take, drop}
use borrow.Author.Tests.{ltb-true, eqb-false}
use Rattle.definition.specs.Answer.{Answer}
use Rattle.definition.specs.Model.{Model}
use Rattle.definition.specs.Name.{length_of}
use Rattle.definition.specs.Table.{Member, Table, mark_of}
use Rattle.definition.specs.Layout.{round_up, within, located, Laid, empty_body, plain_member, zero_field, field_at, bit_field, in_struct, in_union, placed, placed_all, layout}
use Rattle.definition_laws.specs.Every.{Every}
use Rattle.definition_laws.proofs.Every.{got!, no!, bool!, test!, then!, any! }
use Rattle.definition_laws.proofs.Each.{Each, nil, cons, each_weaker, each_append, each-drop, each_take}
use Rattle.listing_length.specs.Weight.{sum_of, member_bytes}
use Rattle.listing_length.proofs.Sums.{sum-append}
use Rattle.listing_length.proofs.Fits.{StandsBelow, Stands, MemberFits}

-- the members of a body, from its first entry on, have a place
abbrev pub Ready : ℕ → ℕ → Member → Type 0
Ready first i e = first ≤ i → e.row ≡ mark_of first → Stands e

pub record LaidOut (first : ℕ) (ms ms' : List Member) : Type 0 where
  pub fits : Each (λ i e. MemberFits e) 0 ms'
  pub ready : Each (Ready first) 0 ms'
  pub bytes : sum_of member_bytes ms' ≡ sum_of member_bytes ms

-- a member that was given a place below a limit, which its end does not reach
record Located (limit : ℕ) (e e' : Member) : Type 0 where
  row : e'.row ≡ e.row
  name : e'.name ≡ e.name
  width : e'.width ≡ e.width
  stands : StandsBelow limit e'

located! : {limit end o b : ℕ} (e : Member) → end < limit → o ≤ end → b ≤ end → Located limit e (located e o b)
located! e p q r = record { row = refl; name = refl; width = refl; stands = record { offset = omega arith; first_bit = omega arith } }

-- with 64 bits
abbrev Locates : Member → Answer (Member × Laid) → Type 0
Locates e r = Every (λ (x : Member × Laid). Located (2 ^ 64) e x.0) r

record Below (n k : ℕ) : Type 0 where
  is : k ≡ n
  below : n < 2 ^ 64

within-below : (at n : ℕ) → Every (Below n) (within at n)
unfolding within
within-below at n = test! (ltb n (2 ^ 64)) (λ e. got! (record { is = refl; below = ltb-true n (2 ^ 64) e })) (λ e. no!)

field_at_locates : (e : Member) (w unit a : ℕ) (l : Laid) (b : ℕ) → Locates e (field_at e w unit a l b)
unfolding field_at
field_at_locates e w unit a l b = then! _ _ (within-below e.offset (b + w)) λ n k. let q = div-mul-le_self b unit in got! (located! e k.below (omega arith) (omega arith))

in_struct_locates : (o : Option ℕ) (e : Member) (s a : ℕ) (l : Laid) → Locates e (in_struct o e s a l)
unfolding in_struct plain_member zero_field bit_field
in_struct_locates none e s a l = then! _ _ (within-below e.offset (round_up l.taken (8 * a) + 8 * s)) λ n k. got! (located! e k.below (omega arith) (omega arith))
in_struct_locates (some zero) e s a l = then! _ _ (within-below e.offset (round_up l.taken (8 * a))) λ n k. let q = k.is in got! (located! e k.below (omega arith) (omega arith))
in_struct_locates (some (suc w)) e s a l = then! _ _ any! λ u k. field_at_locates e (suc w) _ a l _

module _ (m : Model) (t : Table) (union : Bool) where
  placed_locates : (last : Bool) (e : Member) (l : Laid) → Locates e (placed m t union last e l)
  unfolding placed in_union
  placed_locates last e l = then! _ _ any! λ s k. bool! union (got! (located! {end = 0} e (omega arith) (omega arith) (omega arith)))
      (in_struct_locates e.width e s _ l)

  -- where those of a mark were given places
  record Set (mark i : ℕ) (es es' : List Member) : Type 0 where
    fits : Each (λ i e. MemberFits e) i es'
    ready : Each (λ i e. e.row ≡ mark → Stands e) i es'
    bytes : sum_of member_bytes es' ≡ sum_of member_bytes es

  module _ (mark : ℕ) where
    all_set : {i : ℕ} (es : List Member) (l : Laid) → Each (λ i e. MemberFits e) i es → Every (λ (x : List Member × Laid). Set mark i es x.0) (placed_all m t union mark es l)
    unfolding placed_all sum_of
    all_set [] l nil = got! (record { fits = nil; ready = nil; bytes = refl })
    all_set (e ∷ es) l (cons h hs) = test! (eqb e.row mark)
        (λ q. then! _ _ (placed_locates _ e l) λ p k. then! _ _ (all_set es p.1 hs) λ r j. got! (record {
          fits = cons (record { width = rw k.width h.width; stands = λ z. k.stands }) j.fits;
          ready = cons (λ z. k.stands) j.ready;
          bytes = let x = j.bytes in let y = ap length_of k.name in omega arith;
        }))
        (λ q. then! _ _ (all_set es l hs) λ r j. got! (record {
          fits = cons h j.fits;
          ready = cons (λ z. absurd (eqb-false e.row mark q z)) j.ready;
          bytes = let x = j.bytes in omega arith;
        }))

  -- nothing is said of the entries before a number
  early : {P : ℕ → Member → Type 0} (n k : ℕ) (es : List Member) → Each (λ i e. n + k ≤ i → P i e) n (take k es)
  early n zero es = nil
  early n (suc k) [] = nil
  early {P} n (suc k) (e ∷ es) = cons (λ (p : n + suc k ≤ n). absurd (omega arith)) (each_weaker (early {P = P} (suc n) k es) (λ i e h p. h (omega arith)))

  sum-parts : (k : ℕ) (es : List Member) → sum_of member_bytes (take k es) + sum_of member_bytes (drop k es) ≡ sum_of member_bytes es
  unfolding sum_of
  sum-parts zero es = omega arith
  sum-parts (suc k) [] = omega arith
  sum-parts (suc k) (e ∷ es) = let h = sum-parts k es in omega arith

  anywhere : {P : Member → Type 0} (n n' : ℕ) {es : List Member} → Each (λ i e. P e) n es → Each (λ i e. P e) n' es
  anywhere n n' nil = nil
  anywhere n n' (cons h hs) = cons h (anywhere (suc n) (suc n') hs)

  pub layout-places : (first at : ℕ) → Each (λ i e. MemberFits e) 0 t.members → Every (λ (x : ℕ × List Member). LaidOut first t.members x.1) (layout m t union first at)
  unfolding layout
  layout-places first at h = then! _ _ (all_set (mark_of first) (drop first t.members) empty_body (each-drop h first)) λ r k. then! _ _ any! λ s j.
      got! (record {
        fits = each_append (each_take h first) (anywhere (0 + first) _ k.fits);
        ready = each_append (each_weaker (early {P = λ i e. e.row ≡ mark_of first → Stands e} 0 first t.members) (λ i e g p. g (omega arith)))
            (each_weaker (anywhere {P = λ e. e.row ≡ mark_of first → Stands e} (0 + first) _ k.ready) (λ i e g p. g));
        bytes = omega (arith, k.bytes, sum-append member_bytes (take first t.members) r.0, sum-parts first t.members);
      })
