-- How the table grows, and what stays true of it: rows are added at the end, and a struct or union of unknown size gets its size.
use mathlib.Core.Path.{◌≡◌, refl, sym, ◌∙◌, ap, subst}
use mathlib.Core.Logic.{◌⊎◌, inl, inr}
use mathlib.Core.Option.{Option, none, some}
use mathlib.Core.Bool.{Bool, true, false}
use Prim.Native.Nat.{ℕ, zero, suc, ◌*◌, ◌≤◌, ◌<◌}
use native.Mathlib.Omega.{arith}
use lib.Dec.{T, ltb}
use lib.ListN.{get_elem?}
use Rattle.definition.specs.Limit.{max_rows}
use Rattle.definition.specs.Model.{Model}
use Rattle.definition.specs.Row.{Row, void, int, float, bool, pointer, array, composite, enumeration, function, typedef, qualified, Span, or_zero}
use Rattle.definition.specs.Table.{Member, Table, row_at}
use Rattle.definition.specs.Size.{size_by, size_within, size_of, times, array_size}
use Rattle.walks.specs.Walk.{bits_of}
use Rattle.walks.proofs.WalkProof.{composed, other, view_of, view_at, Open, here, by_name, by_qualifiers, open_size, KnownOrOpen, entry_from, entry_wide, entry_end, PlainKnown, Sound}

-- a row's change: there was none; it stays; a struct or union gets its body
pub data RowGrows : Row → Row → Type 0 where
  fresh : (r : Row) → RowGrows void r
  stays : (r : Row) → RowGrows r r
  sized : (u : Bool) (w s : ℕ) (e e' : Span) → RowGrows (composite u w none e) (composite u w (some s) e')

pub record Grows (t t' : Table) : Type 0 where
  pub row : (n : ℕ) → RowGrows (row_at t n) (row_at t' n)

-- ---- a known size stays

Keeps : Option ℕ → Option ℕ → Type 0
Keeps none o = Unit
Keeps (some s) o = o ≡ some s

keeps_refl : (o : Option ℕ) → Keeps o o
unfolding Keeps
keeps_refl none = tt
keeps_refl (some s) = refl

keeps-times : (o o' : Option ℕ) (b : ℕ) → Keeps o o' → Keeps (times o b) (times o' b)
unfolding Keeps
keeps-times none o' b k = tt
keeps-times (some s) o' b k = ap (λ o. times o b) k

keeps-array : (o o' b : Option ℕ) → Keeps o o' → Keeps (array_size o b) (array_size o' b)
unfolding Keeps
keeps-array o o' none k = tt
keeps-array o o' (some b) k = keeps-times o o' b k

keeps-either : (b : Bool) (o o' : Option ℕ) → Keeps o o'
    → Keeps (elim b as (λ x. Option ℕ) [ true ↦ o | false ↦ none ]) (elim b as (λ x. Option ℕ) [ true ↦ o' | false ↦ none ])
unfolding Keeps
keeps-either true o o' k = k
keeps-either false o o' k = tt

by-keeps : (m : Model) (s s' : ℕ → Option ℕ) → ((r : ℕ) → Keeps (s r) (s' r)) → {r r' : Row} → RowGrows r r' → Keeps (size_by m s r) (size_by m s' r')
unfolding Keeps size_by
by-keeps m s s' h (fresh r) = tt
by-keeps m s s' h (sized u w z e e') = tt
by-keeps m s s' h (stays void) = tt
by-keeps m s s' h (stays (int z g)) = refl
by-keeps m s s' h (stays (float z)) = refl
by-keeps m s s' h (stays bool) = refl
by-keeps m s s' h (stays (pointer r)) = refl
by-keeps m s s' h (stays (array r b)) = keeps-array (s r) (s' r) b (h r)
by-keeps m s s' h (stays (composite u w z e)) = keeps_refl z
by-keeps m s s' h (stays (enumeration w z e)) = refl
by-keeps m s s' h (stays (function r v e)) = tt
by-keeps m s s' h (stays (typedef w r)) = h r
by-keeps m s s' h (stays (qualified r q)) = h r

-- ---- a row that is no void, struct, union or enum stays as it is

steady : Row → Bool
steady void = false
steady (int s g) = true
steady (float s) = true
steady bool = true
steady (pointer r) = true
steady (array r b) = true
steady (composite u w s e) = false
steady (enumeration w s e) = false
steady (function r v e) = true
steady (typedef w r) = true
steady (qualified r q) = true

steady_kept : {r r' : Row} (x : Row) → RowGrows r r' → r ≡ x → T (steady x) → r' ≡ x
unfolding steady
steady_kept x (fresh r) e h = absurd (subst (λ y. T (steady y)) (sym e) h)
steady_kept x (stays r) e h = e
steady_kept x (sized u w s k k') e h = absurd (subst (λ y. T (steady y)) (sym e) h)

pub not_other_lem : {X : Type 0} {u : Bool} {w : ℕ} {o : Option ℕ} → other ≡ composed u w o → X
not_other_lem e = let z : ◌≡◌ {A = ℕ} 0 1 = cc in absurd (omega arith)

-- a struct or union of known size stays as it is, and every one stays one
pub view-kept : {r r' : Row} {u : Bool} {w s : ℕ} → RowGrows r r' → view_of r ≡ composed u w (some s) → view_of r' ≡ composed u w (some s)
unfolding view_of
view-kept (fresh r) e = not_other_lem e
view-kept (stays r) e = e
view-kept (sized v x z k k') e = let q : ◌≡◌ {A = ℕ} 0 1 = cc in absurd (omega arith)

module _ (m : Model) (t t' : Table) (g : Grows t t') where
  size-keeps : (f n : ℕ) → Keeps (size_within f m t n) (size_within f m t' n)
  unfolding size_within Keeps
  size-keeps zero n = tt
  size-keeps (suc f) n = by-keeps m _ _ (λ r. keeps-either (ltb r n) (size_within f m t r) (size_within f m t' r) (size-keeps f r)) (g.row n)

  pub size-kept : (n s : ℕ) → size_of m t n ≡ some s → size_of m t' n ≡ some s
  unfolding Keeps
  size-kept n s e = subst (λ o. Keeps o (size_within (suc n) m t' n)) e (size-keeps (suc n) n)

  open_kept : (n : ℕ) → Open t n → Open t' n
  unfolding steady
  open_kept n (here e) = here (steady_kept _ (g.row n) e tt)
  open_kept n (by_name {r = r} e o) = by_name (steady_kept _ (g.row n) e tt) (open_kept r o)
  open_kept n (by_qualifiers {r = r} e o) = by_qualifiers (steady_kept _ (g.row n) e tt) (open_kept r o)

  known_kept : (n : ℕ) → KnownOrOpen m t n → KnownOrOpen m t' n
  known_kept n (inl k) = inl (k.0, size-kept n k.0 k.1)
  known_kept n (inr o) = inr (open_kept n o)

  bits-kept : (n : ℕ) → KnownOrOpen m t n → bits_of m t' n ≡ bits_of m t n
  bits-kept n (inl k) = ap (λ o. 8 * or_zero o) (size-kept n k.0 k.1 ∙ sym k.1)
  bits-kept n (inr o) = ap (λ x. 8 * or_zero x) (open_size m t' (suc n) n (open_kept n o) ∙ sym (open_size m t (suc n) n o))

  pub wide-kept : (e : Member) (o : Option ℕ) → PlainKnown m t e o → entry_wide m t' e o ≡ entry_wide m t e o
  wide-kept e none k = bits-kept e.type k
  wide-kept e (some w) k = refl

  pub plain-kept : (e : Member) (o : Option ℕ) → PlainKnown m t e o → PlainKnown m t' e o
  plain-kept e none k = known_kept e.type k
  plain-kept e (some w) k = tt

-- where an entry begins does not depend on the table
pub from-same : (m : Model) (t t' : Table) (e : Member) (o : Option ℕ) → entry_from m t' e o ≡ entry_from m t e o
from-same m t t' e none = refl
from-same m t t' e (some w) = refl

-- ---- what is kept true of the table

-- row numbers that no row has: 0, and the marks
abbrev pub Edge : ℕ → Type 0
Edge n = (n ≡ 0) ⊎ (max_rows ≤ n)

-- an entry of a struct or union of known size: it ends within it, and a plain one's type is known or an unsized array
pub record Own (m : Model) (t : Table) (e : Member) : Type 0 where
  pub union : Bool
  pub tag : ℕ
  pub size : ℕ
  pub is_row : view_at t e.row ≡ composed union tag (some size)
  pub fits : entry_end m t e ≤ 8 * size
  pub known : PlainKnown m t e e.width

pub record Kept (m : Model) (t : Table) : Type 0 where
  pub edge : (n : ℕ) → Edge n → row_at t n ≡ void
  pub owned : (k : ℕ) (e : Member) → get_elem? t.members k ≡ some e → Edge e.row ⊎ Own m t e
  pub ordered : (j k : ℕ) (d e : Member) → j < k → get_elem? t.members j ≡ some d → get_elem? t.members k ≡ some e → d.row ≡ e.row
      → (w s : ℕ) → view_at t e.row ≡ composed false w (some s) → entry_end m t d ≤ entry_from m t e e.width

-- no struct or union stands at an edge
pub at_edge : {X : Type 0} (t : Table) (n : ℕ) → row_at t n ≡ void → (u : Bool) (w : ℕ) (o : Option ℕ) → view_at t n ≡ composed u w o → X
unfolding view_of
at_edge t n v u w o e = not_other_lem (sym (ap view_of v) ∙ e)

-- the claim on walks needs no more
pub kept-sound : (m : Model) (t : Table) → Kept m t → Sound m t
kept-sound m t c = record { fits = λ k e g u w s r. one k e g u w s r (c.owned k e g); ordered = c.ordered }
  where
    one : (k : ℕ) (e : Member) → get_elem? t.members k ≡ some e → (u : Bool) (w s : ℕ) → view_at t e.row ≡ composed u w (some s) → Edge e.row ⊎ Own m t e
        → (entry_end m t e ≤ 8 * s) × PlainKnown m t e e.width
    one k e g u w s r (inl z) = at_edge t e.row (c.edge e.row z) u w (some s) r
    one k e g u w s r (inr o) = let q = o.is_row in let same : o.size ≡ s = cc in let h = o.fits in (omega arith, o.known)

own-kept : (m : Model) (t t' : Table) → Grows t t' → (e : Member) → Own m t e → Own m t' e
own-kept m t t' g e o = let w = wide-kept m t t' g e e.width o.known in let h = o.fits in let f = from-same m t t' e e.width in record {
  union = o.union;
  tag = o.tag;
  size = o.size;
  is_row = view-kept (g.row e.row) o.is_row;
  fits = omega arith;
  known = plain-kept m t t' g e e.width o.known;
}

-- what a change of the table has to show of the entries that it adds or changes
pub record Adds (m : Model) (t t' : Table) : Type 0 where
  pub new : (k : ℕ) (e : Member) → get_elem? t'.members k ≡ some e → (get_elem? t.members k ≡ some e) ⊎ (Edge e.row ⊎ Own m t' e)
  pub order : (j k : ℕ) (d e : Member) → j < k → get_elem? t'.members j ≡ some d → get_elem? t'.members k ≡ some e → d.row ≡ e.row
      → (w s : ℕ) → view_at t' e.row ≡ composed false w (some s)
      → ((get_elem? t.members j ≡ some d) × (get_elem? t.members k ≡ some e)) ⊎ (entry_end m t' d ≤ entry_from m t' e e.width)

module _ (m : Model) (t t' : Table) (c : Kept m t) (g : Grows t t') (edge' : (n : ℕ) → Edge n → row_at t' n ≡ void) where
  own-all : (k : ℕ) (e : Member) → (get_elem? t.members k ≡ some e) ⊎ (Edge e.row ⊎ Own m t' e) → Edge e.row ⊎ Own m t' e
  own-all k e (inr n) = n
  own-all k e (inl q) = old (c.owned k e q)
    where
      old : Edge e.row ⊎ Own m t e → Edge e.row ⊎ Own m t' e
      old (inl z) = inl z
      old (inr o) = inr (own-kept m t t' g e o)

  -- two old entries of one struct that has a size now: it had it before
  order-old : (j k : ℕ) (d e : Member) → j < k → get_elem? t.members j ≡ some d → get_elem? t.members k ≡ some e → d.row ≡ e.row
      → (w s : ℕ) → view_at t' e.row ≡ composed false w (some s) → Edge e.row ⊎ Own m t e → Edge d.row ⊎ Own m t d
      → entry_end m t' d ≤ entry_from m t' e e.width
  order-old j k d e l gj gk same w s r (inl z) x = at_edge t' e.row (edge' e.row z) false w (some s) r
  order-old j k d e l gj gk same w s r (inr o) (inl z) = at_edge t' e.row (edge' e.row (subst (λ n. Edge n) same z)) false w (some s) r
  order-old j k d e l gj gk same w s r (inr o) (inr q) =
      let now = view-kept (g.row e.row) o.is_row in
      let u : o.union ≡ false = cc in
      let before = c.ordered j k d e l gj gk same o.tag o.size (o.is_row ∙ ap (λ b. composed b o.tag (some o.size)) u) in
      let x = wide-kept m t t' g d d.width q.known in
      let f = from-same m t t' d d.width in
      let f' = from-same m t t' e e.width in
      omega arith

  pub kept_grows : Adds m t t' → Kept m t'
  kept_grows a = record { edge = edge'; owned = λ k e q. own-all k e (a.new k e q); ordered = order }
    where
      order : (j k : ℕ) (d e : Member) → j < k → get_elem? t'.members j ≡ some d → get_elem? t'.members k ≡ some e → d.row ≡ e.row
          → (w s : ℕ) → view_at t' e.row ≡ composed false w (some s) → entry_end m t' d ≤ entry_from m t' e e.width
      order j k d e l gj gk same w s r = go (a.order j k d e l gj gk same w s r)
        where
          go : ((get_elem? t.members j ≡ some d) × (get_elem? t.members k ≡ some e)) ⊎ (entry_end m t' d ≤ entry_from m t' e e.width) → entry_end m t' d ≤ entry_from m t' e e.width
          go (inr h) = h
          go (inl q) = order-old j k d e l q.0 q.1 same w s r (c.owned k e q.1) (c.owned j d q.0)
