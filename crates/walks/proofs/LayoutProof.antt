-- What a layout keeps: a struct's entries in order, each run within the size; a union's entries within the size.
use mathlib.Core.Path.{◌≡◌, refl, sym, ◌∙◌, ap, subst}
use mathlib.Core.Logic.{◌≢◌, ◌⊎◌, inl, inr}
use mathlib.Core.List.{List, [], ◌∷◌, ◌++◌}
use mathlib.Core.Option.{Option, none, some, some-injective, none-ne-some}
use mathlib.Core.Bool.{Bool, true, false, not, ◌&&◌, ◌||◌}
use Prim.Native.Nat.{ℕ, zero, suc, ◌+◌, ◌-◌, ◌*◌, ◌/◌, ◌^◌, ◌≤◌, ◌<◌, max}
use native.Mathlib.Nat.{div-add-mod', mod-lt}
use native.Mathlib.Omega.{arith}
use lib.Dec.{T, eqb, ltb, eqb→eq, leb→le, eqb_refl}
use lib.ListN.{take, drop, get_elem?}
use lib.Ieee.Fits.{and_l, and_r}
use Rattle.definition.specs.Model.{Model}
use Rattle.definition.specs.Row.{Row, void, int, float, bool, pointer, array, composite, enumeration, function, typedef, qualified, kind_of, flags_of, target_of, or_zero}
use Rattle.definition.specs.Table.{Member, Table, row_at, mark_of}
use Rattle.definition.specs.Types.{is_alias, resolve_within, resolve}
use Rattle.definition.specs.Size.{size_of}
use Rattle.definition.specs.Align.{align_of, or_one}
use Rattle.definition.specs.Layout.{round_up, within, Laid, empty_body, is_unsized, member_size, plain_member, zero_field, field_start, field_at, bit_field, in_struct, in_union, placed, is_last, placed_all, bytes_taken, record_size, layout, not_wider, none_wide}
use Rattle.definition_laws.specs.Every.{Every}
use Rattle.definition_laws.proofs.Every.{got!, no!, bool!, test!, then!, any!, weaker! }
use Rattle.walks.proofs.WalkProof.{Open, here, by_name, by_qualifiers, KnownOrOpen, entry_from, entry_end, PlainKnown, T_of}

within-is : (at n : ℕ) → Every (λ x. x ≡ n) (within at n)
unfolding within
within-is at n = bool! (ltb n (2 ^ 64)) (got! refl) no!

-- ---- rounding up

up_ge : (v k : ℕ) → 0 < k → v ≤ round_up v k
unfolding round_up
up_ge v k h = omega (arith, div-add-mod' (v + (k - 1)) k, mod-lt (v + (k - 1)) h)

-- a multiple of 8 is 8 times its eighth
up-eight : (v a : ℕ) → 8 * (round_up v (8 * a) / 8) ≡ round_up v (8 * a)
unfolding round_up
up-eight v a = eight ((v + (8 * a - 1)) / (8 * a) * (8 * a)) ((v + (8 * a - 1)) / (8 * a) * a) (omega arith)
  where
    eight : (x y : ℕ) → x ≡ 8 * y → 8 * (x / 8) ≡ x
    eight x y e = omega arith

field_ge : (q : Bool) (v a : ℕ) → 0 < a → v ≤ field_start q v a
unfolding field_start
field_ge true v a h = up_ge v (8 * a) (omega arith)
field_ge false v a h = omega arith

-- ---- an unsized array, looked for through at most so many typedefs and qualifiers

module _ (t : Table) where
  open_here : (n : ℕ) (r : Row) → row_at t n ≡ r → T (is_unsized r) → Open t n
  unfolding is_unsized kind_of flags_of
  open_here n void e h = absurd h
  open_here n (int s g) e h = absurd h
  open_here n (float s) e h = absurd h
  open_here n bool e h = absurd h
  open_here n (pointer r) e h = absurd h
  open_here n (array r none) e h = here e
  open_here n (array r (some b)) e h = absurd h
  open_here n (composite true w s k) e h = absurd h
  open_here n (composite false w s k) e h = absurd h
  open_here n (enumeration w s k) e h = absurd h
  open_here n (function r v k) e h = absurd h
  open_here n (typedef w r) e h = absurd h
  open_here n (qualified r q) e h = absurd h

  open_through : (n : ℕ) (r : Row) → row_at t n ≡ r → T (is_alias r) → Open t (target_of r) → Open t n
  unfolding is_alias kind_of target_of
  open_through n void e h o = absurd h
  open_through n (int s g) e h o = absurd h
  open_through n (float s) e h o = absurd h
  open_through n bool e h o = absurd h
  open_through n (pointer r) e h o = absurd h
  open_through n (array r b) e h o = absurd h
  open_through n (composite true w s k) e h o = absurd h
  open_through n (composite false w s k) e h o = absurd h
  open_through n (enumeration w s k) e h o = absurd h
  open_through n (function r v k) e h o = absurd h
  open_through n (typedef w r) e h o = by_name e o
  open_through n (qualified r q) e h o = by_qualifiers e o

  open_resolved : (f n : ℕ) → T (is_unsized (row_at t (resolve_within f t n))) → Open t n
  unfolding resolve_within
  open_resolved zero n h = open_here n (row_at t n) refl h
  open_resolved (suc f) n h = at (is_alias (row_at t n)) refl h (λ k. open_resolved f (target_of (row_at t n)) k)
    where
      at : (b : Bool) → is_alias (row_at t n) ≡ b → T (is_unsized (row_at t (elim b as (λ x. ℕ) [ true ↦ resolve_within f t (target_of (row_at t n)) | false ↦ n ])))
          → (T (is_unsized (row_at t (resolve_within f t (target_of (row_at t n))))) → Open t (target_of (row_at t n))) → Open t n
      at true z h k = open_through n (row_at t n) refl (T_of z) (k h)
      at false z h k = open_here n (row_at t n) refl h

module _ (m : Model) (t : Table) where
  -- a member's size, as the layout takes it: 0 for an unsized array
  pub record SizeIs (n s : ℕ) : Type 0 where
    size : or_zero (size_of m t n) ≡ s
    known : KnownOrOpen m t n

  size_is : (n at : ℕ) (last : Bool) → Every (λ s. SizeIs n s) (member_size (size_of m t n) (last && is_unsized (row_at t (resolve t n))) at)
  unfolding member_size
  size_is n at last = go (size_of m t n) refl (last && is_unsized (row_at t (resolve t n))) refl
    where
      go : (o : Option ℕ) → size_of m t n ≡ o → (q : Bool) → last && is_unsized (row_at t (resolve t n)) ≡ q → Every (λ s. SizeIs n s) (member_size o q at)
      go (some s) e q z = weaker! (within-is at s) (λ x h. record { size = ap or_zero e ∙ sym h; known = inl (s, e) })
      go none e true z = got! (record { size = ap or_zero e; known = inr (open_resolved t _ n (and_r last (is_unsized (row_at t (resolve t n))) (T_of z))) })
      go none e false z = no!

  -- ---- a struct's member

  pub record Put (e : Member) (l : Laid) (p : Member × Laid) : Type 0 where
    same_row : p.0.row ≡ e.row
    begins : l.taken ≤ entry_from m t p.0 p.0.width
    known : PlainKnown m t p.0 p.0.width
    ends : entry_end m t p.0 ≤ p.1.taken
    positive : 0 < p.1.align

  struct_step : (row type name : ℕ) (w : Option ℕ) (o b s a : ℕ) (l : Laid) → 0 < a → 0 < l.align → SizeIs type s
      → Every (λ p. Put (record { row = row; type = type; name = name; width = w; offset = o; first_bit = b }) l p)
      (in_struct w (record { row = row; type = type; name = name; width = w; offset = o; first_bit = b }) s a l)
  unfolding in_struct plain_member zero_field bit_field field_at
  struct_step row type name none o b s a l pos al z =
      let f = round_up l.taken (8 * a) in
      let ge : l.taken ≤ f = up_ge l.taken (8 * a) (omega arith) in
      let e8 : 8 * (f / 8) ≡ f = up-eight l.taken a in
      then! _ _ (within-is o (f + 8 * s)) λ end q. got! (record { same_row = refl; begins = omega arith; known = z.known; ends = omega (arith, e8, z.size, q); positive = omega arith })
  struct_step row type name (some zero) o b s a l pos al z =
      let ge : l.taken ≤ round_up l.taken (8 * a) = up_ge l.taken (8 * a) (omega arith) in
      then! _ _ (within-is o (round_up l.taken (8 * a))) λ end q. got! (record { same_row = refl; begins = omega arith; known = tt; ends = omega arith; positive = omega arith })
  struct_step row type name (some (suc w)) o b s a l pos al z =
      let unit = 8 * max s 1 in
      then! _ _ (within-is o (l.taken / unit * unit + unit)) λ u v.
      let f = field_start (ltb u (l.taken + suc w)) l.taken a in
      let ge : l.taken ≤ f = field_ge (ltb u (l.taken + suc w)) l.taken a pos in
      then! _ _ (within-is o (f + suc w)) λ end q. got! (record { same_row = refl; begins = ge; known = tt; ends = omega arith; positive = omega arith })

  -- ---- a union's member

  pub record Laps (e : Member) (l : Laid) (p : Member × Laid) : Type 0 where
    same_row : p.0.row ≡ e.row
    wider : l.widest ≤ p.1.widest
    known : PlainKnown m t p.0 p.0.width
    ends : entry_end m t p.0 ≤ 8 * p.1.widest
    positive : 0 < p.1.align

  union-step : (row type name : ℕ) (w : Option ℕ) (o b s a : ℕ) (l : Laid) → 0 < a → 0 < l.align → SizeIs type s → T (not_wider (or_zero (size_of m t type)) w)
      → Laps (record { row = row; type = type; name = name; width = w; offset = o; first_bit = b }) l
      (in_union (record { row = row; type = type; name = name; width = w; offset = o; first_bit = b }) s a l)
  unfolding in_union
  union-step row type name none o b s a l pos al z c = record { same_row = refl; wider = omega arith; known = z.known; ends = omega (arith, z.size); positive = omega arith }
  union-step row type name (some zero) o b s a l pos al z c = record { same_row = refl; wider = omega arith; known = tt; ends = omega arith; positive = omega arith }
  union-step row type name (some (suc w)) o b s a l pos al z c =
      let n : suc w ≤ 8 * or_zero (size_of m t type) = leb→le (suc w) (8 * or_zero (size_of m t type)) c in
      record { same_row = refl; wider = omega arith; known = tt; ends = omega (arith, z.size); positive = omega arith }

  -- ---- all entries that carry the body's mark

  eqb_no : (a b : ℕ) → eqb a b ≡ false → a ≢ b
  eqb_no a b z q = subst T z (subst (λ x. T (eqb a x)) q (eqb_refl a))

  -- entries before and after a layout: those that carry the mark still do, the others are as they were
  unfoldable pub Pairs : ℕ → List Member → List Member → Type 0
  Pairs mark [] [] = Unit
  Pairs mark [] (y ∷ ys) = ⊥
  Pairs mark (x ∷ xs) [] = ⊥
  Pairs mark (x ∷ xs) (y ∷ ys) = ((y ≡ x) ⊎ ((x.row ≡ mark) × (y.row ≡ mark))) × Pairs mark xs ys

  -- entries that carry the mark, in order, from lo up to hi
  Run : ℕ → ℕ → List Member → ℕ → Type 0
  Run mark lo [] hi = lo ≤ hi
  Run mark lo (e ∷ es) hi = ((e.row ≢ mark) × Run mark lo es hi)
      ⊎ ((lo ≤ entry_from m t e e.width) × PlainKnown m t e e.width × Run mark (entry_end m t e) es hi)

  run-from : (mark lo lo' : ℕ) (es : List Member) (hi : ℕ) → lo' ≤ lo → Run mark lo es hi → Run mark lo' es hi
  unfolding Run
  run-from mark lo lo' [] hi h r = omega arith
  run-from mark lo lo' (e ∷ es) hi h (inl q) = inl (q.0, run-from mark lo lo' es hi h q.1)
  run-from mark lo lo' (e ∷ es) hi h (inr q) = inr (omega arith, q.1, q.2)

  run-to : (mark lo : ℕ) (es : List Member) (hi hi' : ℕ) → hi ≤ hi' → Run mark lo es hi → Run mark lo es hi'
  unfolding Run
  run-to mark lo [] hi hi' h r = omega arith
  run-to mark lo (e ∷ es) hi hi' h (inl q) = inl (q.0, run-to mark lo es hi hi' h q.1)
  run-to mark lo (e ∷ es) hi hi' h (inr q) = inr (q.0, q.1, run-to mark (entry_end m t e) es hi hi' h q.2)

  struct_all : (mark : ℕ) (es : List Member) (l : Laid) → 0 < l.align
      → Every (λ r. Pairs mark es r.0 × Run mark l.taken r.0 r.1.taken × (0 < r.1.align)) (placed_all m t false mark es l)
  unfolding placed_all placed Pairs Run
  struct_all mark [] l al = got! (tt, omega arith, al)
  struct_all mark (e ∷ es) l al = test! (eqb e.row mark)
      (λ z. then! {P = λ p. Put e l p} _ _
      (then! _ _ (size_is e.type e.offset (is_last m t false mark es)) λ s q.
      struct_step e.row e.type e.name e.width e.offset e.first_bit s (max (or_one (align_of m t e.type)) 1) l (omega arith) al q) λ p put.
      then! _ _ (struct_all mark es p.1 put.positive) λ r h.
      let is : e.row ≡ mark = eqb→eq e.row mark (T_of z) in
      got! ((inr (is, put.same_row ∙ is), h.0), inr (put.begins, put.known, run-from mark p.1.taken (entry_end m t p.0) r.0 r.1.taken put.ends h.1), h.2))
      (λ z. then! _ _ (struct_all mark es l al) λ r h. got! ((inl refl, h.0), inl (eqb_no e.row mark z, h.1), h.2))

  -- entries that carry the mark, each up to a top
  Held : ℕ → List Member → ℕ → Type 0
  Held mark [] top = Unit
  Held mark (e ∷ es) top = ((e.row ≢ mark) ⊎ ((entry_end m t e ≤ top) × PlainKnown m t e e.width)) × Held mark es top

  held_to : (mark : ℕ) (es : List Member) (top top' : ℕ) → top ≤ top' → Held mark es top → Held mark es top'
  unfolding Held
  held_to mark [] top top' h r = tt
  held_to mark (e ∷ es) top top' h r = (one r.0, held_to mark es top top' h r.1)
    where
      one : (e.row ≢ mark) ⊎ ((entry_end m t e ≤ top) × PlainKnown m t e e.width) → (e.row ≢ mark) ⊎ ((entry_end m t e ≤ top') × PlainKnown m t e e.width)
      one (inl q) = inl q
      one (inr q) = inr (omega arith, q.1)

  narrow-here : (e : Member) (mark : ℕ) (b : Bool) → eqb e.row mark ≡ true → T (not (eqb e.row mark) || b) → T b
  narrow-here e mark b z h = subst (λ x. T (not x || b)) z h

  union-all : (mark : ℕ) (es : List Member) (l : Laid) → 0 < l.align → T (none_wide m t mark es)
      → Every (λ r. Pairs mark es r.0 × Held mark r.0 (8 * r.1.widest) × (l.widest ≤ r.1.widest) × (0 < r.1.align)) (placed_all m t true mark es l)
  unfolding placed_all placed Pairs Held none_wide
  union-all mark [] l al c = got! (tt, tt, omega arith, al)
  union-all mark (e ∷ es) l al c =
      let fit = not_wider (or_zero (size_of m t e.type)) e.width in
      let c₀ = and_l (not (eqb e.row mark) || fit) (none_wide m t mark es) c in
      let c₁ = and_r (not (eqb e.row mark) || fit) (none_wide m t mark es) c in
      test! (eqb e.row mark)
      (λ z. then! {P = λ p. Laps e l p} _ _
      (then! _ _ (size_is e.type e.offset (is_last m t true mark es)) λ s q.
      got! (union-step e.row e.type e.name e.width e.offset e.first_bit s (max (or_one (align_of m t e.type)) 1) l (omega arith) al q (narrow-here e mark fit z c₀))) λ p put.
      then! _ _ (union-all mark es p.1 put.positive c₁) λ r h.
      let is : e.row ≡ mark = eqb→eq e.row mark (T_of z) in
      let w = put.wider in
      let k = put.ends in
      got! ((inr (is, put.same_row ∙ is), h.0), (inr (omega arith, put.known), h.1), omega arith, h.3))
      (λ z. then! _ _ (union-all mark es l al c₁) λ r h. got! ((inl refl, h.0), (inl (eqb_no e.row mark z), h.1), h.2, h.3))

  -- ---- the size of the whole

  struct_size : (at : ℕ) (l : Laid) → 0 < l.align → Every (λ s. l.taken ≤ 8 * s) (record_size m t false at l)
  unfolding record_size bytes_taken
  struct_size at l al = then! {P = λ b. l.taken ≤ 8 * b} _ _
      (then! _ _ (within-is at (round_up l.taken 8)) λ b q. got! (omega (arith, q, up_ge l.taken 8 (omega arith), up-eight l.taken 1))) λ b h.
      then! _ _ (within-is at (round_up b l.align)) λ s q. let g = up_ge b l.align al in bool! (ltb s (2 ^ 32)) (got! (omega arith)) no!

  union-size : (at : ℕ) (l : Laid) → 0 < l.align → Every (λ s. l.widest ≤ s) (record_size m t true at l)
  unfolding record_size bytes_taken
  union-size at l al = then! {P = λ b. l.widest ≡ b} _ _ (got! refl) λ b h.
      then! _ _ (within-is at (round_up b l.align)) λ s q. let g = up_ge b l.align al in bool! (ltb s (2 ^ 32)) (got! (omega arith)) no!

  -- ---- what a body's entries are: each within s bytes, and a struct's in order

  pub record Laying (mark : ℕ) (u : Bool) (s : ℕ) (ds : List Member) : Type 0 where
    pub each : (k : ℕ) (e : Member) → get_elem? ds k ≡ some e → e.row ≡ mark → (entry_end m t e ≤ 8 * s) × PlainKnown m t e e.width
    pub in_order : u ≡ false → (j k : ℕ) (d e : Member) → j < k → get_elem? ds j ≡ some d → get_elem? ds k ≡ some e → d.row ≡ mark → e.row ≡ mark
        → entry_end m t d ≤ entry_from m t e e.width

  run_le : (mark lo : ℕ) (es : List Member) (hi : ℕ) → Run mark lo es hi → lo ≤ hi
  unfolding Run
  run_le mark lo [] hi r = r
  run_le mark lo (e ∷ es) hi (inl q) = run_le mark lo es hi q.1
  run_le mark lo (e ∷ es) hi (inr q) = let h = run_le mark (entry_end m t e) es hi q.2 in omega arith

  Fits : ℕ → Member → ℕ → Type 0
  Fits lo e hi = (lo ≤ entry_from m t e e.width) × (entry_end m t e ≤ hi) × PlainKnown m t e e.width

  run_at : (mark lo : ℕ) (es : List Member) (hi : ℕ) → Run mark lo es hi → (k : ℕ) (e : Member) → get_elem? es k ≡ some e → e.row ≡ mark → Fits lo e hi
  unfolding Run Fits
  run_at mark lo [] hi r k e h i = absurd (none-ne-some e h)
  run_at mark lo (d ∷ es) hi (inl q) zero e h i = absurd (q.0 (ap (λ x. x.row) (some-injective d e h) ∙ i))
  run_at mark lo (d ∷ es) hi (inl q) (suc k) e h i = run_at mark lo es hi q.1 k e h i
  run_at mark lo (d ∷ es) hi (inr q) zero e h i =
      subst (λ x. Fits lo x hi) (some-injective d e h) (q.0, run_le mark (entry_end m t d) es hi q.2, q.1)
  run_at mark lo (d ∷ es) hi (inr q) (suc k) e h i = let r = run_at mark (entry_end m t d) es hi q.2 k e h i in (omega arith, r.1, r.2)

  run-order : (mark lo : ℕ) (es : List Member) (hi : ℕ) → Run mark lo es hi → (j k : ℕ) (d e : Member) → j < k → get_elem? es j ≡ some d → get_elem? es k ≡ some e
      → d.row ≡ mark → e.row ≡ mark → entry_end m t d ≤ entry_from m t e e.width
  unfolding Run Fits
  run-order mark lo [] hi r j k d e l g h i i' = absurd (none-ne-some d g)
  run-order mark lo (a ∷ es) hi r zero zero d e l g h i i' = absurd (omega arith)
  run-order mark lo (a ∷ es) hi (inl q) zero (suc k) d e l g h i i' = absurd (q.0 (ap (λ x. x.row) (some-injective a d g) ∙ i))
  run-order mark lo (a ∷ es) hi (inr q) zero (suc k) d e l g h i i' =
      subst (λ x. entry_end m t x ≤ entry_from m t e e.width) (some-injective a d g) (run_at mark (entry_end m t a) es hi q.2 k e h i').0
  run-order mark lo (a ∷ es) hi r (suc j) zero d e l g h i i' = absurd (omega arith)
  run-order mark lo (a ∷ es) hi (inl q) (suc j) (suc k) d e l g h i i' = run-order mark lo es hi q.1 j k d e (omega arith) g h i i'
  run-order mark lo (a ∷ es) hi (inr q) (suc j) (suc k) d e l g h i i' = run-order mark (entry_end m t a) es hi q.2 j k d e (omega arith) g h i i'

  held_at : (mark : ℕ) (es : List Member) (top : ℕ) → Held mark es top → (k : ℕ) (e : Member) → get_elem? es k ≡ some e → e.row ≡ mark
      → (entry_end m t e ≤ top) × PlainKnown m t e e.width
  unfolding Held
  held_at mark [] top h k e g i = absurd (none-ne-some e g)
  held_at mark (d ∷ es) top h zero e g i = subst (λ x. (entry_end m t x ≤ top) × PlainKnown m t x x.width) (some-injective d e g) (one h.0)
    where
      one : (d.row ≢ mark) ⊎ ((entry_end m t d ≤ top) × PlainKnown m t d d.width) → (entry_end m t d ≤ top) × PlainKnown m t d d.width
      one (inl q) = absurd (q (ap (λ x. x.row) (some-injective d e g) ∙ i))
      one (inr q) = q
  held_at mark (d ∷ es) top h (suc k) e g i = held_at mark es top h.1 k e g i

  -- a body that was laid out: its size, and its entries from number `first` on
  pub record Placed (u : Bool) (first : ℕ) (r : ℕ × List Member) : Type 0 where
    pub from : List Member
    pub is_list : r.1 ≡ take first t.members ++ from
    pub pairs : Pairs (mark_of first) (drop first t.members) from
    pub laid : T (not u || none_wide m t (mark_of first) (drop first t.members)) → Laying (mark_of first) u r.0 from

  union_any : (mark : ℕ) (es : List Member) (l : Laid) → Every (λ r. Pairs mark es r.0) (placed_all m t true mark es l)
  unfolding placed_all placed in_union Pairs
  union_any mark [] l = got! tt
  union_any mark (e ∷ es) l = test! (eqb e.row mark)
      (λ z. then! {P = λ p. p.0.row ≡ e.row} _ _ (then! _ _ (size_is e.type e.offset (is_last m t true mark es)) λ s q. got! refl) λ p h.
      let is : e.row ≡ mark = eqb→eq e.row mark (T_of z) in
      then! _ _ (union_any mark es p.1) λ r k. got! (inr (is, h ∙ is), k))
      (λ z. then! _ _ (union_any mark es l) λ r k. got! (inl refl, k))

  pub layout-ok : (u : Bool) (first at : ℕ) → Every (λ r. Placed u first r) (layout m t u first at)
  unfolding layout
  layout-ok false first at =
      then! _ _ (struct_all (mark_of first) (drop first t.members) empty_body (omega arith)) λ r h.
      then! _ _ (struct_size at r.1 h.2) λ s q.
      let run = run-to (mark_of first) 0 r.0 r.1.taken (8 * s) q h.1 in
      got! (record {
        from = r.0;
        is_list = refl;
        pairs = h.0;
        laid = λ c. record {
          each = λ k e g i. (let f = run_at (mark_of first) 0 r.0 (8 * s) run k e g i in (unfold Fits in (f.1, f.2)));
          in_order = λ z. run-order (mark_of first) 0 r.0 (8 * s) run;
        };
      })
  layout-ok true first at = go (none_wide m t (mark_of first) (drop first t.members)) refl
    where
      go : (b : Bool) → none_wide m t (mark_of first) (drop first t.members) ≡ b → Every (λ r. Placed true first r) (layout m t true first at)
      go false z =
          then! _ _ (union_any (mark_of first) (drop first t.members) empty_body) λ r h.
          then! _ _ any! λ s q.
          got! (record { from = r.0; is_list = refl; pairs = h; laid = λ c. absurd (subst T z c) })
      go true z =
          then! _ _ (union-all (mark_of first) (drop first t.members) empty_body (omega arith) (T_of z)) λ r h.
          then! _ _ (union-size at r.1 h.3) λ s q.
          let held = held_to (mark_of first) r.0 (8 * r.1.widest) (8 * s) (omega arith) h.1 in
          got! (record {
            from = r.0;
            is_list = refl;
            pairs = h.0;
            laid = λ c. record {
              each = held_at (mark_of first) r.0 (8 * s) held;
              in_order = λ y. (let n : ◌≡◌ {A = ℕ} 0 1 = cc in absurd (omega arith));
            };
          })
