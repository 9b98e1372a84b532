-- The entries of a body: laid out they still carry its mark, then they get its row.
use mathlib.Core.Path.{◌≡◌, refl, sym, ◌∙◌, ap, subst}
use mathlib.Core.Logic.{◌⊎◌, inl, inr}
use mathlib.Core.List.{List, [], ◌∷◌, ◌++◌}
use mathlib.Core.Option.{Option, none, some, some-injective, none-ne-some}
use mathlib.Core.Bool.{Bool, true, false, not, ◌||◌, ◌&&◌}
use Prim.Native.Nat.{ℕ, zero, suc, ◌+◌, ◌*◌, ◌≤◌, ◌<◌}
use native.Mathlib.Omega.{arith}
use lib.Dec.{T, eqb, eqb→eq}
use lib.ListN.{get_or, get_elem?, take, drop}
use Rattle.definition.specs.Model.{Model}
use Rattle.definition.specs.Row.{Row, void}
use Rattle.definition.specs.Table.{Member, Table, row_at, mark_of}
use Rattle.definition.specs.Types.{changed_if, changed_from}
use Rattle.definition.specs.Layout.{none_wide}
use Rattle.definition.specs.Composite.{with_row, is_field, fields_only, own_members}
use Rattle.walks.proofs.WalkProof.{composed, view_at, entry_from, entry_wide, entry_end, PlainKnown, T_of}
use Rattle.walks.proofs.LayoutProof.{Pairs, Laying, Placed}
use Rattle.walks.proofs.GrowProof.{RowGrows, stays, Grows, Edge, Own, Kept, Adds, kept_grows, wide-kept, plain-kept, from-same, at_edge}

-- the rows and the members alone, on which a walk depends
abbrev pub tab : List Row → List Member → Table
tab rs ms = record { rows = rs; members = ms; values = []; parameters = []; declarations = []; log = [] }

pub mark-edge : (first n : ℕ) → n ≡ mark_of first → Edge n
unfolding mark_of
mark-edge first n e = inr (omega arith)

-- ---- entries that are changed from a number on

pub changed_at : (test : Member → Bool) (change : Member → Member) (f : ℕ) (es : List Member) (k : ℕ) (e : Member) → get_elem? (changed_from test change f es) k ≡ some e
    → (get_elem? es k ≡ some e) ⊎ ((d : Member) × (f ≤ k) × (get_elem? es k ≡ some d) × T (test d) × (e ≡ change d))
unfolding changed_from
changed_at test change f [] k e h = absurd (none-ne-some e h)
changed_at test change zero (x ∷ es) zero e h = at (test x) refl h
  where
    at : (b : Bool) → test x ≡ b → some (changed_if b change x) ≡ some e
        → (some x ≡ some e) ⊎ ((d : Member) × (0 ≤ 0) × (some x ≡ some d) × T (test d) × (e ≡ change d))
    at true z h = inr (x, omega arith, refl, T_of z, sym (some-injective (change x) e h))
    at false z h = inl h
changed_at test change zero (x ∷ es) (suc k) e h = up (changed_at test change zero es k e h)
  where
    up : (get_elem? es k ≡ some e) ⊎ ((d : Member) × (0 ≤ k) × (get_elem? es k ≡ some d) × T (test d) × (e ≡ change d))
        → (get_elem? es k ≡ some e) ⊎ ((d : Member) × (0 ≤ suc k) × (get_elem? es k ≡ some d) × T (test d) × (e ≡ change d))
    up (inl q) = inl q
    up (inr q) = inr (q.0, omega arith, q.2, q.3, q.4)
changed_at test change (suc f) (x ∷ es) zero e h = inl h
changed_at test change (suc f) (x ∷ es) (suc k) e h = up (changed_at test change f es k e h)
  where
    up : (get_elem? es k ≡ some e) ⊎ ((d : Member) × (f ≤ k) × (get_elem? es k ≡ some d) × T (test d) × (e ≡ change d))
        → (get_elem? es k ≡ some e) ⊎ ((d : Member) × (suc f ≤ suc k) × (get_elem? es k ≡ some d) × T (test d) × (e ≡ change d))
    up (inl q) = inl q
    up (inr q) = inr (q.0, omega arith, q.2, q.3, q.4)

pub changed_none : (test : Member → Bool) (change : Member → Member) (es : List Member) → ((k : ℕ) (e : Member) → get_elem? es k ≡ some e → test e ≡ false)
    → changed_from test change 0 es ≡ es
unfolding changed_from
changed_none test change [] h = refl
changed_none test change (x ∷ es) h =
    ap (λ b. changed_if b change x ∷ changed_from test change 0 es) (h 0 x refl) ∙ ap (λ l. x ∷ l) (changed_none test change es (λ k e g. h (suc k) e g))

-- ---- the entries after a layout

pairs-at : (m : Model) (t : Table) (mark : ℕ) (xs ys : List Member) → Pairs m t mark xs ys → (k : ℕ) (e : Member) → get_elem? ys k ≡ some e
    → (get_elem? xs k ≡ some e) ⊎ (e.row ≡ mark)
unfolding Pairs
pairs-at m t mark [] [] p k e h = absurd (none-ne-some e h)
pairs-at m t mark [] (y ∷ ys) p k e h = absurd p
pairs-at m t mark (x ∷ xs) [] p k e h = absurd p
pairs-at m t mark (x ∷ xs) (y ∷ ys) p zero e h = one p.0
  where
    one : (y ≡ x) ⊎ ((x.row ≡ mark) × (y.row ≡ mark)) → (some x ≡ some e) ⊎ (e.row ≡ mark)
    one (inl q) = inl (ap (λ z. some z) (sym q) ∙ h)
    one (inr q) = inr (ap (λ z. z.row) (sym (some-injective y e h)) ∙ q.1)
pairs-at m t mark (x ∷ xs) (y ∷ ys) p (suc k) e h = pairs-at m t mark xs ys p.1 k e h

-- of a list whose entries from number f on are laid out: an entry is as it was, or carries the mark
join-at : (m : Model) (t : Table) (mark f : ℕ) (ms from : List Member) → Pairs m t mark (drop f ms) from → (k : ℕ) (e : Member) → get_elem? (take f ms ++ from) k ≡ some e
    → (get_elem? ms k ≡ some e) ⊎ (e.row ≡ mark)
unfolding Pairs
join-at m t mark zero ms from p k e h = pairs-at m t mark ms from p k e h
join-at m t mark (suc f) [] [] p k e h = absurd (none-ne-some e h)
join-at m t mark (suc f) [] (y ∷ ys) p k e h = absurd p
join-at m t mark (suc f) (x ∷ ms) from p zero e h = inl h
join-at m t mark (suc f) (x ∷ ms) from p (suc k) e h = join-at m t mark f ms from p k e h

-- and one from number f on is one of those
join-from : (m : Model) (t : Table) (mark f : ℕ) (ms from : List Member) → Pairs m t mark (drop f ms) from → (k : ℕ) (e : Member) → f ≤ k
    → get_elem? (take f ms ++ from) k ≡ some e → (j : ℕ) × (k ≡ f + j) × (get_elem? from j ≡ some e)
unfolding Pairs
join-from m t mark zero ms from p k e l h = (k, omega arith, h)
join-from m t mark (suc f) [] [] p k e l h = absurd (none-ne-some e h)
join-from m t mark (suc f) [] (y ∷ ys) p k e l h = absurd p
join-from m t mark (suc f) (x ∷ ms) from p zero e l h = absurd (omega arith)
join-from m t mark (suc f) (x ∷ ms) from p (suc k) e l h = let q = join-from m t mark f ms from p k e (omega arith) h in (q.0, omega arith, q.2)

-- a body whose entries, from number `first` on, are laid out and carry its mark
pub record Closing (m : Model) (t : Table) (first : ℕ) (u : Bool) (s : ℕ) : Type 0 where
  pub each : (k : ℕ) (e : Member) → first ≤ k → get_elem? t.members k ≡ some e → e.row ≡ mark_of first → (entry_end m t e ≤ 8 * s) × PlainKnown m t e e.width
  pub in_order : u ≡ false → (j k : ℕ) (d e : Member) → first ≤ j → j < k → get_elem? t.members j ≡ some d → get_elem? t.members k ≡ some e
      → d.row ≡ mark_of first → e.row ≡ mark_of first → entry_end m t d ≤ entry_from m t e e.width

-- entries that are new carry no row
pub edge-adds : (m : Model) (t t' : Table) → ((n : ℕ) → Edge n → row_at t' n ≡ void)
    → ((k : ℕ) (e : Member) → get_elem? t'.members k ≡ some e → (get_elem? t.members k ≡ some e) ⊎ Edge e.row) → Adds m t t'
edge-adds m t t' edge' h = record { new = λ k e g. one k e (h k e g); order = λ j k d e l g g' same w s r. two j k d e same w s r (h j d g) (h k e g') }
  where
    one : (k : ℕ) (e : Member) → (get_elem? t.members k ≡ some e) ⊎ Edge e.row → (get_elem? t.members k ≡ some e) ⊎ (Edge e.row ⊎ Own m t' e)
    one k e (inl q) = inl q
    one k e (inr q) = inr (inl q)

    two : (j k : ℕ) (d e : Member) → d.row ≡ e.row → (w s : ℕ) → view_at t' e.row ≡ composed false w (some s)
        → (get_elem? t.members j ≡ some d) ⊎ Edge d.row → (get_elem? t.members k ≡ some e) ⊎ Edge e.row
        → ((get_elem? t.members j ≡ some d) × (get_elem? t.members k ≡ some e)) ⊎ (entry_end m t' d ≤ entry_from m t' e e.width)
    two j k d e same w s r (inl q) (inl q') = inl (q, q')
    two j k d e same w s r (inr q) x = at_edge t' e.row (edge' e.row (subst (λ n. Edge n) same q)) false w (some s) r
    two j k d e same w s r (inl q) (inr q') = at_edge t' e.row (edge' e.row q') false w (some s) r

-- the same rows
pub same_grows : (t t' : Table) → t'.rows ≡ t.rows → Grows t t'
same_grows t t' e = record { row = λ n. subst (λ l. RowGrows (row_at t n) (get_or l n void)) (sym e) (stays (row_at t n)) }

module _ (m : Model) (t : Table) (u : Bool) (first : ℕ) (r : ℕ × List Member) (p : Placed m t u first r) where
  -- the table after the layout, fields of width 0 left out
  abbrev t₂ : Table
  t₂ = tab t.rows (fields_only first r.1)

  -- an entry is one that the layout gave, or carries row 0
  kept_or_out : (k : ℕ) (e : Member) → get_elem? (fields_only first r.1) k ≡ some e → (get_elem? r.1 k ≡ some e) ⊎ (e.row ≡ 0)
  unfolding fields_only
  kept_or_out k e h = go (changed_at (λ x. eqb x.row (mark_of first) && not (is_field x.width)) (λ x. with_row x 0) first r.1 k e h)
    where
      go : (get_elem? r.1 k ≡ some e) ⊎ ((d : Member) × (first ≤ k) × (get_elem? r.1 k ≡ some d) × T (eqb d.row (mark_of first) && not (is_field d.width)) × (e ≡ with_row d 0))
          → (get_elem? r.1 k ≡ some e) ⊎ (e.row ≡ 0)
      go (inl q) = inl q
      go (inr q) = inr (ap (λ y. y.row) q.4)

  -- one that carries the mark is one that the layout gave
  still : (k : ℕ) (e : Member) → get_elem? (fields_only first r.1) k ≡ some e → e.row ≡ mark_of first → get_elem? r.1 k ≡ some e
  still k e h i = go (kept_or_out k e h)
    where
      go : (get_elem? r.1 k ≡ some e) ⊎ (e.row ≡ 0) → get_elem? r.1 k ≡ some e
      go (inl q) = q
      go (inr q) = absurd (unfold mark_of in omega arith)

  pub laid_kept : Kept m (tab t.rows t.members) → Kept m t₂
  laid_kept c = kept_grows m (tab t.rows t.members) t₂ c (same_grows (tab t.rows t.members) t₂ refl) c.edge
      (edge-adds m (tab t.rows t.members) t₂ c.edge (λ k e g. laid k e (kept_or_out k e g)))
    where
      marked : (k : ℕ) (e : Member) → (get_elem? t.members k ≡ some e) ⊎ (e.row ≡ mark_of first) → (get_elem? t.members k ≡ some e) ⊎ Edge e.row
      marked k e (inl q) = inl q
      marked k e (inr q) = inr (mark-edge first e.row q)

      laid : (k : ℕ) (e : Member) → (get_elem? r.1 k ≡ some e) ⊎ (e.row ≡ 0) → (get_elem? t.members k ≡ some e) ⊎ Edge e.row
      laid k e (inr z) = inr (inl z)
      laid k e (inl g) = marked k e (join-at m t (mark_of first) first t.members p.from p.pairs k e (subst (λ l. get_elem? l k ≡ some e) p.is_list g))

  pub laid_closing : T (not u || none_wide m t (mark_of first) (drop first t.members)) → Closing m t₂ first u r.0
  laid_closing narrow = record { each = each; in_order = in_order }
    where
      lay : Laying m t (mark_of first) u r.0 p.from
      lay = p.laid narrow

      g : Grows t t₂
      g = same_grows t t₂ refl

      found : (k : ℕ) (e : Member) → first ≤ k → get_elem? r.1 k ≡ some e → (j : ℕ) × (k ≡ first + j) × (get_elem? p.from j ≡ some e)
      found k e l h = join-from m t (mark_of first) first t.members p.from p.pairs k e l (subst (λ x. get_elem? x k ≡ some e) p.is_list h)

      each : (k : ℕ) (e : Member) → first ≤ k → get_elem? t₂.members k ≡ some e → e.row ≡ mark_of first → (entry_end m t₂ e ≤ 8 * r.0) × PlainKnown m t₂ e e.width
      each k e l h i =
          let q = found k e l (still k e h i) in
          let x = lay.each q.0 e q.2 i in
          let w = wide-kept m t t₂ g e e.width x.1 in
          let f = from-same m t t₂ e e.width in
          (omega arith, plain-kept m t t₂ g e e.width x.1)

      in_order : u ≡ false → (j k : ℕ) (d e : Member) → first ≤ j → j < k → get_elem? t₂.members j ≡ some d → get_elem? t₂.members k ≡ some e
          → d.row ≡ mark_of first → e.row ≡ mark_of first → entry_end m t₂ d ≤ entry_from m t₂ e e.width
      in_order z j k d e l o h h' i i' =
          let a = found j d l (still j d h i) in
          let b = found k e (omega arith) (still k e h' i') in
          let x = lay.in_order z a.0 b.0 d e (omega arith) a.2 b.2 i i' in
          let y = lay.each a.0 d a.2 i in
          let w = wide-kept m t t₂ g d d.width y.1 in
          let f = from-same m t t₂ d d.width in
          let f' = from-same m t t₂ e e.width in
          omega arith

-- an entry's place does not depend on its row
from_row : (m : Model) (t : Table) (d : Member) (n : ℕ) (o : Option ℕ) → entry_from m t (with_row d n) o ≡ entry_from m t d o
from_row m t d n none = refl
from_row m t d n (some w) = refl

wide_row : (m : Model) (t : Table) (d : Member) (n : ℕ) (o : Option ℕ) → entry_wide m t (with_row d n) o ≡ entry_wide m t d o
wide_row m t d n none = refl
wide_row m t d n (some w) = refl

plain_row : (m : Model) (t : Table) (d : Member) (n : ℕ) (o : Option ℕ) → PlainKnown m t d o → PlainKnown m t (with_row d n) o
plain_row m t d n none k = k
plain_row m t d n (some w) k = tt

-- ---- the body gets its row: one that was without a size, or a new one

module _ (m : Model) (rows rows' : List Row) (ms : List Member) (first n s : ℕ) (u : Bool) (w : ℕ) where
  abbrev t : Table
  t = tab rows ms

  abbrev t' : Table
  t' = tab rows' (own_members first n ms)

  module _ (c : Kept m t) (g : Grows t t') (edge' : (k : ℕ) → Edge k → row_at t' k ≡ void) (is_row : view_at t' n ≡ composed u w (some s))
      (unknown : (v : Bool) (x z : ℕ) → view_at t n ≡ composed v x (some z) → ⊥) (close : Closing m t first u s) where
    -- an entry is as it was, or it is one of the body's with its row
    Part : ℕ → Member → Type 0
    Part k e = (get_elem? ms k ≡ some e) ⊎ ((d : Member) × (first ≤ k) × (get_elem? ms k ≡ some d) × (d.row ≡ mark_of first) × (e ≡ with_row d n))

    part : (k : ℕ) (e : Member) → get_elem? (own_members first n ms) k ≡ some e → Part k e
    unfolding own_members Part
    part k e h = go (changed_at (λ x. eqb x.row (mark_of first)) (λ x. with_row x n) first ms k e h)
      where
        go : (get_elem? ms k ≡ some e) ⊎ ((d : Member) × (first ≤ k) × (get_elem? ms k ≡ some d) × T (eqb d.row (mark_of first)) × (e ≡ with_row d n))
            → (get_elem? ms k ≡ some e) ⊎ ((d : Member) × (first ≤ k) × (get_elem? ms k ≡ some d) × (d.row ≡ mark_of first) × (e ≡ with_row d n))
        go (inl q) = inl q
        go (inr q) = inr (q.0, q.1, q.2, eqb→eq q.0.row (mark_of first) q.3, q.4)

    own : (k : ℕ) (d : Member) → first ≤ k → get_elem? ms k ≡ some d → d.row ≡ mark_of first → Own m t' (with_row d n)
    own k d l h i =
        let q = close.each k d l h i in
        let x = wide-kept m t t' g d d.width q.1 in
        let f = from-same m t t' d d.width in
        let a = from_row m t' d n d.width in
        let b = wide_row m t' d n d.width in
        record { union = u; tag = w; size = s; is_row = is_row; fits = omega arith; known = plain_row m t' d n d.width (plain-kept m t t' g d d.width q.1) }

    -- an entry of before is not of the body's row
    stranger : (e : Member) → Edge e.row ⊎ Own m t e → e.row ≡ n → ⊥
    stranger e (inl z) q = at_edge t' n (edge' n (subst (λ y. Edge y) q z)) u w (some s) is_row
    stranger e (inr o) q = unknown o.union o.tag o.size (ap (λ y. view_at t y) (sym q) ∙ o.is_row)

    adds : Adds m t t'
    unfolding Part
    adds = record { new = λ k e h. one k e (part k e h); order = λ j k d e l h h' same x z r. two j k d e l same x z r (part j d h) (part k e h') }
      where
        one : (k : ℕ) (e : Member) → Part k e → (get_elem? ms k ≡ some e) ⊎ (Edge e.row ⊎ Own m t' e)
        one k e (inl q) = inl q
        one k e (inr q) = inr (inr (subst (λ y. Own m t' y) (sym q.4) (own k q.0 q.1 q.2 q.3)))

        two : (j k : ℕ) (d e : Member) → j < k → d.row ≡ e.row → (x z : ℕ) → view_at t' e.row ≡ composed false x (some z) → Part j d → Part k e
            → ((get_elem? ms j ≡ some d) × (get_elem? ms k ≡ some e)) ⊎ (entry_end m t' d ≤ entry_from m t' e e.width)
        two j k d e l same x z r (inl q) (inl q') = inl (q, q')
        two j k d e l same x z r (inl q) (inr b) = absurd (stranger d (c.owned j d q) (same ∙ ap (λ y. y.row) b.4))
        two j k d e l same x z r (inr a) (inl q) = absurd (stranger e (c.owned k e q) (sym same ∙ ap (λ y. y.row) a.4))
        two j k d e l same x z r (inr a) (inr b) =
            let here : view_at t' n ≡ composed false x (some z) = ap (λ y. view_at t' y) (sym (ap (λ y. y.row) b.4)) ∙ r in
            let isStruct : u ≡ false = cc in
            let o = close.in_order isStruct j k a.0 b.0 a.1 l a.2 b.2 a.3 b.3 in
            let y = close.each j a.0 a.1 a.2 a.3 in
            let wk = wide-kept m t t' g a.0 a.0.width y.1 in
            let f₁ = from-same m t t' a.0 a.0.width in
            let f₂ = from-same m t t' b.0 b.0.width in
            let x₁ = from_row m t' a.0 n a.0.width in
            let x₂ = wide_row m t' a.0 n a.0.width in
            let x₃ = from_row m t' b.0 n b.0.width in
            let le : entry_end m t' (with_row a.0 n) ≤ entry_from m t' (with_row b.0 n) b.0.width = omega arith in
            inr (subst (λ v. entry_end m t' v ≤ entry_from m t' e e.width) (sym a.4) (subst (λ v. entry_end m t' (with_row a.0 n) ≤ entry_from m t' v v.width) (sym b.4) le))

    pub closed-kept : Kept m t'
    closed-kept = kept_grows m t t' c g edge' adds
