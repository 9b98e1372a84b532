-- What the reader's changes of the table keep.
use borrow.Author.Tests.{ne_eqb, leb-false}
use mathlib.Core.Path.{◌≡◌, refl, sym, ◌∙◌, ap, subst}
use mathlib.Core.Logic.{◌≢◌, ◌⊎◌, inl, inr}
use mathlib.Core.List.{List, [], ◌∷◌, ◌++◌}
use mathlib.Core.Option.{Option, none, some, some-injective, none-ne-some}
use mathlib.Core.Bool.{Bool, true, false, not, ◌&&◌, ◌||◌}
use Prim.Native.Nat.{ℕ, zero, suc, ◌+◌, ◌≤◌, ◌<◌}
use native.Mathlib.Omega.{arith}
use lib.Dec.{T, eqb, leb, eqb→eq, eqb_refl, nleb→lt, T_not}
use lib.ListN.{length, get_or, set, get_elem?, length-append, length-set}
use lib.Ieee.Fits.{and_l, and_r}
use lib.Seq.{get_or-set_same, set-append_seam}
use Rattle.definition.specs.Answer.{Answer, got, refused, ◌>>=◌}
use Rattle.definition.specs.Limit.{max_rows, max_members}
use Rattle.definition.specs.Refusal.{limit_passed}
use Rattle.definition.specs.Name.{no_name}
use Rattle.definition.specs.Model.{Model}
use Rattle.definition.specs.RowKind.{enum_kind}
use Rattle.definition.specs.Row.{Row, void, int, float, bool, pointer, array, composite, enumeration, function, typedef, qualified, Span, nothing, composite_kind, kind_of, row_name, span_of}
use Rattle.definition.specs.Table.{Member, Table, State, Event, bodied, used, wide, mark_of, with_table, with_rows, logged, push_row, push_member}
use Rattle.definition.specs.Types.{row_named, composite_row, enum_row, equal_row, add, changed_from}
use Rattle.definition.specs.Composite.{with_row, own_members, release_members, Body, define_body, add_body, tag_row, noted}
use Rattle.definition.specs.Enumeration.{enum_tag_row, define_enum, add_enum, bare_enum, close_enum}
use Rattle.walks.specs.Condition.{has_body, has_use, met, orderly}
use Rattle.definition_laws.specs.Every.{Every}
use Rattle.definition_laws.proofs.Every.{got!, no!, bool!, test!, option!, then! }
use Rattle.walks.proofs.WalkProof.{composed, listed, other, view_of, view_at, T_of}
use Rattle.walks.proofs.GrowProof.{RowGrows, fresh, stays, sized, Grows, Edge, Own, Kept, kept_grows, not_other_lem, at_edge}
use Rattle.walks.proofs.BodyProof.{tab, changed_at, changed_none, Closing, edge-adds, same_grows, closed-kept}

-- ---- tests

T-or-left : (a b : Bool) → T a → T (a || b)
T-or-left true b h = tt
T-or-left false b h = absurd h

T-or-right : (a b : Bool) → T b → T (a || b)
T-or-right true b h = tt
T-or-right false b h = h

pub T-either : {X : Type 0} (a b : Bool) → (T a → X) → (T b → X) → T (a || b) → X
T-either true b f g h = f tt
T-either false b f g h = g h

-- ---- a log with more events

-- a tag is met by a body, or by a use, and in no other way
body-met : (w : ℕ) (l : List Event) → T (has_body w l) → T (met w l)
body-met w l h = T-or-left (has_body w l) (has_use w l) h

use_met : (w : ℕ) (l : List Event) → T (has_use w l) → T (met w l)
use_met w l h = T-or-right (has_body w l) (has_use w l) h

pub met_by : {X : Type 0} (w : ℕ) (l : List Event) → (T (has_body w l) → X) → (T (has_use w l) → X) → T (met w l) → X
met_by w l f g h = T-either (has_body w l) (has_use w l) f g h

pub record More (l l' : List Event) : Type 0 where
  pub body : (v : ℕ) → T (has_body v l) → T (has_body v l')
  pub meets : (v : ℕ) → T (met v l) → T (met v l')
  pub order : T (orderly l') → T (orderly l)

more_same : (l : List Event) → More l l
more_same l = record { body = λ v h. h; meets = λ v h. h; order = λ h. h }

body_more : (e : Event) (v : ℕ) (l : List Event) → T (has_body v l) → T (has_body v (e ∷ l))
unfolding has_body
body_more (bodied w) v l h = T-or-right (eqb v w) (has_body v l) h
body_more (used w) v l h = h
body_more wide v l h = h

use_more : (e : Event) (v : ℕ) (l : List Event) → T (has_use v l) → T (has_use v (e ∷ l))
unfolding has_use
use_more (bodied w) v l h = h
use_more (used w) v l h = T-or-right (eqb v w) (has_use v l) h
use_more wide v l h = h

-- a union's field that is too wide is never orderly
pub wide-never : {X : Type 0} (l : List Event) → T (orderly (wide ∷ l)) → X
unfolding orderly
wide-never l h = absurd h

order-more : (e : Event) (l : List Event) → T (orderly (e ∷ l)) → T (orderly l)
unfolding orderly
order-more (bodied w) l h = and_r (not (met w l)) (orderly l) h
order-more (used w) l h = h
order-more wide l h = wide-never l h

more_event : (e : Event) (l : List Event) → More l (e ∷ l)
more_event e l = record {
  body = λ v h. body_more e v l h;
  meets = λ v h. met_by v l (λ k. body-met v (e ∷ l) (body_more e v l k)) (λ k. use_met v (e ∷ l) (use_more e v l k)) h;
  order = order-more e l;
}

body-here : (w : ℕ) (l : List Event) → T (has_body w (bodied w ∷ l))
unfolding has_body
body-here w l = T-or-left (eqb w w) (has_body w l) (eqb_refl w)

use_here : (w : ℕ) (l : List Event) → T (has_use w (used w ∷ l))
unfolding has_use
use_here w l = T-or-left (eqb w w) (has_use w l) (eqb_refl w)

-- a body's tag was not met before, where the log is orderly
not_met : {X : Type 0} (w : ℕ) (l : List Event) → T (orderly (bodied w ∷ l)) → T (met w l) → X
unfolding orderly
not_met w l h k = absurd (T_not (met w l) (and_l (not (met w l)) (orderly l) h) k)

-- ---- rows: one more at the end, or one set

past : (l : List Row) (n : ℕ) → length l ≤ n → get_or l n void ≡ void
past [] n h = refl
past (x ∷ l) zero h = absurd (omega arith)
past (x ∷ l) (suc n) h = past l n (omega arith)

-- row n becomes r
pub record Update (rows rows' : List Row) (n : ℕ) (r : Row) : Type 0 where
  pub at : (k : ℕ) → ((k ≡ n) × (get_or rows' k void ≡ r)) ⊎ (get_or rows' k void ≡ get_or rows k void)
  pub here : get_or rows' n void ≡ r
  pub some' : 0 < length rows'
  pub few' : length rows' ≤ max_rows

append_at : (l : List Row) (r : Row) (k : ℕ) → ((k ≡ length l) × (get_or (l ++ r ∷ []) k void ≡ r)) ⊎ (get_or (l ++ r ∷ []) k void ≡ get_or l k void)
append_at [] r zero = inl (refl, refl)
append_at [] r (suc k) = inr refl
append_at (x ∷ l) r zero = inr refl
append_at (x ∷ l) r (suc k) = up (append_at l r k)
  where
    up : ((k ≡ length l) × (get_or (l ++ r ∷ []) k void ≡ r)) ⊎ (get_or (l ++ r ∷ []) k void ≡ get_or l k void)
        → ((suc k ≡ suc (length l)) × (get_or (l ++ r ∷ []) k void ≡ r)) ⊎ (get_or (l ++ r ∷ []) k void ≡ get_or l k void)
    up (inl q) = inl (ap suc q.0, q.1)
    up (inr q) = inr q

append-last : (l : List Row) (r : Row) → get_or (l ++ r ∷ []) (length l) void ≡ r
append-last [] r = refl
append-last (x ∷ l) r = append-last l r

update_push : (l : List Row) (r : Row) → length l < max_rows → Update l (l ++ r ∷ []) (length l) r
update_push l r h = let more = length-append l (r ∷ []) in record { at = append_at l r; here = append-last l r; some' = omega arith; few' = omega arith }

set_at : (l : List Row) (n : ℕ) (r : Row) (k : ℕ) → ((k ≡ n) × (get_or (set l n r) k void ≡ r)) ⊎ (get_or (set l n r) k void ≡ get_or l k void)
set_at [] n r k = inr refl
set_at (x ∷ l) zero r zero = inl (refl, refl)
set_at (x ∷ l) zero r (suc k) = inr refl
set_at (x ∷ l) (suc n) r zero = inr refl
set_at (x ∷ l) (suc n) r (suc k) = up (set_at l n r k)
  where
    up : ((k ≡ n) × (get_or (set l n r) k void ≡ r)) ⊎ (get_or (set l n r) k void ≡ get_or l k void)
        → ((suc k ≡ suc n) × (get_or (set l n r) k void ≡ r)) ⊎ (get_or (set l n r) k void ≡ get_or l k void)
    up (inl q) = inl (ap suc q.0, q.1)
    up (inr q) = inr q

-- ---- what is kept of rows and log

-- tags whose bodies are being read, with their rows: a union; tag; row
abbrev pub Pend : Type 0
Pend = Bool × ℕ × ℕ

abbrev pub IsTag : List Row → Bool → ℕ → ℕ → Type 0
IsTag rows u w n = (o : Option ℕ) × (view_of (get_or rows n void) ≡ composed u w o)

unfoldable pub Pending : List Pend → List Row → Type 0
Pending [] rows = Unit
Pending (x ∷ xs) rows = IsTag rows x.0 x.1 x.2 × Pending xs rows

pub record Names (ps : List Pend) (rows : List Row) (log : List Event) : Type 0 where
  pub some_row : 0 < length rows
  pub few : length rows ≤ max_rows
  pub first : get_or rows 0 void ≡ void
  pub pending : Pending ps rows
  -- a tag's row with a size has a body in the log, an enum tag's row a body or a use
  pub bodies : (n : ℕ) (u : Bool) (w z : ℕ) → view_of (get_or rows n void) ≡ composed u w (some z) → w ≢ no_name → T (has_body w log)
  pub enums : (n w z : ℕ) → view_of (get_or rows n void) ≡ listed w z → w ≢ no_name → T (met w log)

pub edge_of : {ps : List Pend} {rows : List Row} {log : List Event} → Names ps rows log → (n : ℕ) → Edge n → get_or rows n void ≡ void
edge_of {rows = rows} i n (inl z) = ap (λ k. get_or rows k void) z ∙ i.first
edge_of {rows = rows} i n (inr h) = let f = i.few in past rows n (omega arith)

module _ (ps : List Pend) (rows rows' : List Row) (n : ℕ) (r : Row) (log log' : List Event) (up : Update rows rows' n r) (more : More log log') (far : n ≢ 0)
    (tag : (u : Bool) (w : ℕ) (o : Option ℕ) → view_of (get_or rows n void) ≡ composed u w o → (o' : Option ℕ) × (view_of r ≡ composed u w o'))
    (nb : (u : Bool) (w z : ℕ) → view_of r ≡ composed u w (some z) → w ≢ no_name → T (has_body w log'))
    (ne : (w z : ℕ) → view_of r ≡ listed w z → w ≢ no_name → T (met w log')) (i : Names ps rows log) where
  pending' : (xs : List Pend) → Pending xs rows → Pending xs rows'
  unfolding Pending
  pending' [] h = tt
  pending' (x ∷ xs) h = (one (up.at x.2), pending' xs h.1)
    where
      one : ((x.2 ≡ n) × (get_or rows' x.2 void ≡ r)) ⊎ (get_or rows' x.2 void ≡ get_or rows x.2 void) → IsTag rows' x.0 x.1 x.2
      one (inl q) =
          let y = tag x.0 x.1 h.0.0 (ap (λ k. view_of (get_or rows k void)) (sym q.0) ∙ h.0.1) in
          (y.0, ap view_of q.1 ∙ y.1)
      one (inr q) = (h.0.0, ap view_of q ∙ h.0.1)

  pub update_names : Names ps rows' log'
  update_names = record {
    some_row = up.some';
    few = up.few';
    first = zeroth (up.at 0);
    pending = pending' ps i.pending;
    bodies = λ k u w z e d. bodies k u w z e d (up.at k);
    enums = λ k w z e d. enums k w z e d (up.at k);
  }
    where
      zeroth : ((0 ≡ n) × (get_or rows' 0 void ≡ r)) ⊎ (get_or rows' 0 void ≡ get_or rows 0 void) → get_or rows' 0 void ≡ void
      zeroth (inl q) = absurd (far (sym q.0))
      zeroth (inr q) = q ∙ i.first

      bodies : (k : ℕ) (u : Bool) (w z : ℕ) → view_of (get_or rows' k void) ≡ composed u w (some z) → w ≢ no_name
          → ((k ≡ n) × (get_or rows' k void ≡ r)) ⊎ (get_or rows' k void ≡ get_or rows k void) → T (has_body w log')
      bodies k u w z e d (inl q) = nb u w z (ap view_of (sym q.1) ∙ e) d
      bodies k u w z e d (inr q) = more.body w (i.bodies k u w z (ap view_of (sym q) ∙ e) d)

      enums : (k w z : ℕ) → view_of (get_or rows' k void) ≡ listed w z → w ≢ no_name
          → ((k ≡ n) × (get_or rows' k void ≡ r)) ⊎ (get_or rows' k void ≡ get_or rows k void) → T (met w log')
      enums k w z e d (inl q) = ne w z (ap view_of (sym q.1) ∙ e) d
      enums k w z e d (inr q) = more.meets w (i.enums k w z (ap view_of (sym q) ∙ e) d)

-- more events, and the same rows
log-names : (ps : List Pend) (rows : List Row) (log log' : List Event) → More log log' → Names ps rows log → Names ps rows log'
log-names ps rows log log' more i = record {
  some_row = i.some_row;
  few = i.few;
  first = i.first;
  pending = i.pending;
  bodies = λ n u w z e d. more.body w (i.bodies n u w z e d);
  enums = λ n w z e d. more.meets w (i.enums n w z e d);
}

grows_of : (rows rows' : List Row) (n : ℕ) (r : Row) (ms ms' : List Member) → Update rows rows' n r → RowGrows (get_or rows n void) r → Grows (tab rows ms) (tab rows' ms')
grows_of rows rows' n r ms ms' up g = record { row = λ k. go k (up.at k) }
  where
    go : (k : ℕ) → ((k ≡ n) × (get_or rows' k void ≡ r)) ⊎ (get_or rows' k void ≡ get_or rows k void) → RowGrows (get_or rows k void) (get_or rows' k void)
    go k (inl q) = subst (λ x. RowGrows (get_or rows k void) x) (sym q.1) (subst (λ j. RowGrows (get_or rows j void) r) (sym q.0) g)
    go k (inr q) = subst (λ x. RowGrows (get_or rows k void) x) (sym q) (stays (get_or rows k void))

-- ---- what is kept of a table

pub record Inv' (m : Model) (ps : List Pend) (rows : List Row) (ms : List Member) (log : List Event) : Type 0 where
  pub names : Names ps rows log
  pub kept : T (orderly log) → Kept m (tab rows ms)

-- it says nothing of values, parameters and declarations, nor of the place in the text: what changes only these has it as it is
abbrev pub Inv : Model → List Pend → Table → Type 0
Inv m ps t = Inv' m ps t.rows t.members t.log

abbrev pub On : {A : Type 0} → Model → List Pend → Answer (A × State) → Type 0
On {A} m ps r = Every (λ (x : A × State). Inv m ps x.1.table) r

abbrev pub To : Model → List Pend → Answer State → Type 0
To m ps r = Every (λ (s : State). Inv m ps s.table) r

-- a row that is no struct, union or enum
abbrev pub Plain : Row → Type 0
Plain r = view_of r ≡ other

pub not_listed : {X : Type 0} {w z : ℕ} → other ≡ listed w z → X
not_listed e = let q : ◌≡◌ {A = ℕ} 0 1 = cc in absurd (omega arith)

not_both : {X : Type 0} {u : Bool} {w z v : ℕ} {o : Option ℕ} → listed v z ≡ composed u w o → X
not_both e = let q : ◌≡◌ {A = ℕ} 0 1 = cc in absurd (omega arith)

view-past : (rows : List Row) → view_of (get_or rows (length rows) void) ≡ other
unfolding view_of
view-past rows = ap view_of (past rows (length rows) (omega arith))

module _ (m : Model) (ps : List Pend) (rows : List Row) (ms : List Member) (log : List Event) where
  -- a row that is added, of which the log says what it must
  push-names : (r : Row) (log' : List Event) → length rows < max_rows → More log log'
      → ((u : Bool) (w z : ℕ) → view_of r ≡ composed u w (some z) → w ≢ no_name → T (has_body w log'))
      → ((w z : ℕ) → view_of r ≡ listed w z → w ≢ no_name → T (met w log')) → Names ps rows log → Names ps (rows ++ r ∷ []) log'
  push-names r log' lt more nb ne i =
      let pos = i.some_row in
      update_names ps rows (rows ++ r ∷ []) (length rows) r log log' (update_push rows r lt) more (λ e. omega arith)
      (λ u w o e. not_other_lem (sym (view-past rows) ∙ e)) nb ne i

  push_inv : (r : Row) (log' : List Event) → length rows < max_rows → More log log'
      → ((u : Bool) (w z : ℕ) → view_of r ≡ composed u w (some z) → w ≢ no_name → T (has_body w log'))
      → ((w z : ℕ) → view_of r ≡ listed w z → w ≢ no_name → T (met w log')) → Inv' m ps rows ms log → Inv' m ps (rows ++ r ∷ []) ms log'
  push_inv r log' lt more nb ne i =
      let names = push-names r log' lt more nb ne i.names in
      record {
        names = names;
        kept = λ h. kept_grows m (tab rows ms) (tab (rows ++ r ∷ []) ms) (i.kept (more.order h))
            (grows_of rows (rows ++ r ∷ []) (length rows) r ms ms (update_push rows r lt) (subst (λ x. RowGrows x r) (sym (past rows (length rows) (omega arith))) (fresh r)))
            (edge_of names) (edge-adds m (tab rows ms) (tab (rows ++ r ∷ []) ms) (edge_of names) (λ k e g. inl g));
      }

  -- entries that change, or are added, and carry no row
  members_inv : (ms' : List Member) → ((k : ℕ) (e : Member) → get_elem? ms' k ≡ some e → (get_elem? ms k ≡ some e) ⊎ Edge e.row) → Inv' m ps rows ms log → Inv' m ps rows ms' log
  members_inv ms' h i = record {
    names = i.names;
    kept = λ o. kept_grows m (tab rows ms) (tab rows ms') (i.kept o) (same_grows (tab rows ms) (tab rows ms') refl)
        (edge_of i.names) (edge-adds m (tab rows ms) (tab rows ms') (edge_of i.names) h);
  }

  log_inv : (e : Event) → Inv' m ps rows ms log → Inv' m ps rows ms (e ∷ log)
  log_inv e i = record { names = log-names ps rows log (e ∷ log) (more_event e log) i.names; kept = λ h. i.kept (order-more e log h) }

below : (n k : ℕ) → leb k n ≡ false → n < k
below n k z = nleb→lt k n (subst (λ b. T (not b)) (sym z) tt)

-- ---- rows that are pushed

-- a row that is pushed, and what follows
push! : {B : Type 0} {Q : B → Type 0} (k : ℕ × State → Answer B) (r : Row) (s : State)
    → (length s.table.rows < max_rows → Every Q (k (length s.table.rows, with_table s (with_rows s.table (s.table.rows ++ r ∷ []))))) → Every Q (push_row r s >>= k)
unfolding push_row ◌>>=◌
push! {B} {Q} k r s f = go (leb max_rows (length s.table.rows)) refl
  where
    go : (b : Bool) → leb max_rows (length s.table.rows) ≡ b
        → Every Q ((elim b as (λ z. Answer (ℕ × State)) [ true ↦ refused limit_passed s.at | false ↦ got (length s.table.rows, with_table s (with_rows s.table (s.table.rows ++ r ∷ []))) ]) >>= k)
    go true z = no!
    go false z = f (leb-false max_rows (length s.table.rows) z)

-- and where nothing follows
pushed! : {Q : ℕ × State → Type 0} (r : Row) (s : State)
    → (length s.table.rows < max_rows → Q (length s.table.rows, with_table s (with_rows s.table (s.table.rows ++ r ∷ [])))) → Every Q (push_row r s)
unfolding push_row
pushed! r s f = test! (leb max_rows (length s.table.rows)) (λ z. no!) (λ z. got! (f (leb-false max_rows (length s.table.rows) z)))

module _ (m : Model) (ps : List Pend) where
  pub push_row_ok : (r : Row) (s : State) → Plain r → Inv m ps s.table → On m ps (push_row r s)
  push_row_ok r s p i = pushed! r s (λ lt. push_inv m ps s.table.rows s.table.members s.table.log r s.table.log lt (more_same s.table.log)
      (λ u w z e d. not_other_lem (sym p ∙ e)) (λ w z e d. not_listed (sym p ∙ e)) i)

  pub add_ok : (r : Row) (s : State) → Plain r → Inv m ps s.table → On m ps (add r s)
  unfolding add
  add_ok r s p i = option! (equal_row s.table r 0 s.table.rows) (λ n e. got! i) (push_row_ok r s p i)

  append-member : (l : List Member) (e : Member) (k : ℕ) (d : Member) → get_elem? (l ++ e ∷ []) k ≡ some d → (get_elem? l k ≡ some d) ⊎ (e ≡ d)
  append-member [] e zero d h = inr (some-injective e d h)
  append-member [] e (suc k) d h = absurd (none-ne-some d h)
  append-member (x ∷ l) e zero d h = inl h
  append-member (x ∷ l) e (suc k) d h = append-member l e k d h

  -- a member of a body that is being read
  pub push_member-ok : (e : Member) (s : State) → Edge e.row → Inv m ps s.table → On m ps (push_member e s)
  unfolding push_member
  push_member-ok e s q i = bool! (leb max_members (length s.table.members)) no!
      (got! (members_inv m ps s.table.rows s.table.members s.table.log (s.table.members ++ e ∷ []) (λ k d h. at k d (append-member s.table.members e k d h)) i))
    where
      at : (k : ℕ) (d : Member) → (get_elem? s.table.members k ≡ some d) ⊎ (e ≡ d) → (get_elem? s.table.members k ≡ some d) ⊎ Edge d.row
      at k d (inl h) = inl h
      at k d (inr h) = inr (subst (λ x. Edge x.row) h q)

-- ---- rows by their names

named-at : (kind w n : ℕ) (rs : List Row) (k : ℕ) → row_named kind w n rs ≡ some k
    → (j : ℕ) × (k ≡ n + j) × (kind_of (get_or rs j void) ≡ kind) × (row_name (get_or rs j void) ≡ w)
unfolding row_named
named-at kind w n [] k h = absurd (none-ne-some k h)
named-at kind w n (r ∷ rs) k h = at (eqb (kind_of r) kind && eqb (row_name r) w) refl h (λ e. named-at kind w (suc n) rs k e)
  where
    at : (b : Bool) → eqb (kind_of r) kind && eqb (row_name r) w ≡ b → (elim b as (λ x. Option ℕ) [ true ↦ some n | false ↦ row_named kind w (suc n) rs ]) ≡ some k
        → (row_named kind w (suc n) rs ≡ some k → (j : ℕ) × (k ≡ suc n + j) × (kind_of (get_or rs j void) ≡ kind) × (row_name (get_or rs j void) ≡ w))
        → (j : ℕ) × (k ≡ n + j) × (kind_of (get_or (r ∷ rs) j void) ≡ kind) × (row_name (get_or (r ∷ rs) j void) ≡ w)
    at true z e f =
        let q : n ≡ k = some-injective n k e in
        (0, omega arith, eqb→eq (kind_of r) kind (and_l (eqb (kind_of r) kind) (eqb (row_name r) w) (T_of z)), eqb→eq (row_name r) w (and_r (eqb (kind_of r) kind) (eqb (row_name r) w) (T_of z)))
    at false z e f = let q = f e in (suc q.0, omega (arith, q.1), q.2, q.3)

composite-kind : (u : Bool) → (6 ≤ composite_kind u) × (composite_kind u ≤ 7)
composite-kind true = omega arith
composite-kind false = omega arith

kind-union : (u v : Bool) → composite_kind u ≡ composite_kind v → u ≡ v
kind-union true true e = refl
kind-union false false e = refl
kind-union true false e = absurd (omega arith)
kind-union false true e = absurd (omega arith)

tag_of : (r : Row) (u : Bool) (w : ℕ) → kind_of r ≡ composite_kind u → row_name r ≡ w → (o : Option ℕ) × (view_of r ≡ composed u w o)
unfolding kind_of row_name view_of
tag_of void u w k e = let c = composite-kind u in absurd (omega arith)
tag_of (int s g) u w k e = let c = composite-kind u in absurd (omega arith)
tag_of (float s) u w k e = let c = composite-kind u in absurd (omega arith)
tag_of bool u w k e = let c = composite-kind u in absurd (omega arith)
tag_of (pointer r) u w k e = let c = composite-kind u in absurd (omega arith)
tag_of (array r b) u w k e = let c = composite-kind u in absurd (omega arith)
tag_of (composite v x s l) u w k e = (s, ap (λ b. composed b x s) (kind-union v u k) ∙ ap (λ y. composed u y s) e)
tag_of (enumeration x s l) u w k e = let c = composite-kind u in absurd (omega arith)
tag_of (function r v l) u w k e = let c = composite-kind u in absurd (omega arith)
tag_of (typedef x r) u w k e = let c = composite-kind u in absurd (omega arith)
tag_of (qualified r q) u w k e = let c = composite-kind u in absurd (omega arith)

enum_of : (r : Row) (w : ℕ) → kind_of r ≡ enum_kind → row_name r ≡ w → (z : ℕ) × (view_of r ≡ listed w z)
unfolding kind_of row_name view_of
enum_of void w k e = absurd (omega arith)
enum_of (int s g) w k e = absurd (omega arith)
enum_of (float s) w k e = absurd (omega arith)
enum_of bool w k e = absurd (omega arith)
enum_of (pointer r) w k e = absurd (omega arith)
enum_of (array r b) w k e = absurd (omega arith)
enum_of (composite v x s l) w k e = let c = composite-kind v in absurd (omega arith)
enum_of (enumeration x s l) w k e = (s, ap (λ y. listed y s) e)
enum_of (function r v l) w k e = absurd (omega arith)
enum_of (typedef x r) w k e = absurd (omega arith)
enum_of (qualified r q) w k e = absurd (omega arith)

-- a row without a size, as a row
row_of : (r : Row) (u : Bool) (w : ℕ) → view_of r ≡ composed u w none → (e : Span) × (r ≡ composite u w none e)
unfolding view_of
row_of void u w e = not_other_lem e
row_of (int s g) u w e = not_other_lem e
row_of (float s) u w e = not_other_lem e
row_of bool u w e = not_other_lem e
row_of (pointer r) u w e = not_other_lem e
row_of (array r b) u w e = not_other_lem e
row_of (composite v x s l) u w e =
    let a : v ≡ u = cc in
    let b : x ≡ w = cc in
    let c : s ≡ none = cc in
    (l, ap (λ y. composite y x s l) a ∙ ap (λ y. composite u y s l) b ∙ ap (λ y. composite u w y l) c)
row_of (enumeration x s l) u w e = not_both e
row_of (function r v l) u w e = not_other_lem e
row_of (typedef x r) u w e = not_other_lem e
row_of (qualified r q) u w e = not_other_lem e

known-row : (l : List Row) (n : ℕ) → (view_of (get_or l n void) ≡ other → ⊥) → n < length l
unfolding view_of
known-row [] n h = absurd (h refl)
known-row (r ∷ l) zero h = omega arith
known-row (r ∷ l) (suc n) h = let q = known-row l n h in omega arith

-- ---- tags

-- one more tag whose body is being read, and one less
pub push-tag : (m : Model) (ps : List Pend) (x : Pend) (t : Table) → IsTag t.rows x.0 x.1 x.2 → Inv m ps t → Inv m (x ∷ ps) t
unfolding Pending
push-tag m ps x t e i = let n = i.names in
    record { names = record { some_row = n.some_row; few = n.few; first = n.first; pending = (e, n.pending); bodies = n.bodies; enums = n.enums }; kept = i.kept }

pub pop_tag : (m : Model) (ps : List Pend) (x : Pend) (t : Table) → Inv m (x ∷ ps) t → Inv m ps t × IsTag t.rows x.0 x.1 x.2
unfolding Pending
pop_tag m ps x t i = let n = i.names in
    (record { names = record { some_row = n.some_row; few = n.few; first = n.first; pending = n.pending.1; bodies = n.bodies; enums = n.enums }; kept = i.kept }, n.pending.0)

module _ (m : Model) (ps : List Pend) where
  -- the row of a struct's or union's tag
  pub tag_row-ok : (u : Bool) (w : ℕ) (s : State) → Inv m ps s.table → Every (λ (x : ℕ × State). Inv m ps x.1.table × IsTag x.1.table.rows u w x.0) (tag_row u w s)
  unfolding tag_row
  tag_row-ok u w s i = option! (composite_row u s.table w)
      (λ n e. (let q = named-at (composite_kind u) w 0 s.table.rows n e in
      got! (i, subst (λ k. IsTag s.table.rows u w k) (sym (q.1 ∙ omega arith)) (tag_of (get_or s.table.rows q.0 void) u w q.2 q.3))))
      (pushed! (composite u w none nothing) s (λ lt. (
        push_inv m ps s.table.rows s.table.members s.table.log (composite u w none nothing) s.table.log lt (more_same s.table.log)
            (λ v x z q d. absurd (no_size q)) (λ x z q d. absurd (no_enum q)) i,
        (none, ap view_of (append-last s.table.rows (composite u w none nothing)) ∙ tag_view),
      )))
    where
      tag_view : view_of (composite u w none nothing) ≡ composed u w none
      tag_view = unfold view_of in refl

      no_size : {v : Bool} {x z : ℕ} → view_of (composite u w none nothing) ≡ composed v x (some z) → ⊥
      no_size e = let q = sym tag_view ∙ e in let r : ◌≡◌ {A = ℕ} 0 1 = cc in omega arith

      no_enum : {x z : ℕ} → view_of (composite u w none nothing) ≡ listed x z → ⊥
      no_enum e = let q = sym tag_view ∙ e in let r : ◌≡◌ {A = ℕ} 0 1 = cc in omega arith

  -- no entry carries a row without a size
  release_same : (rows : List Row) (ms : List Member) (u : Bool) (w n : ℕ) (log : List Event) (old : Row) → Names ps rows log → Kept m (tab rows ms)
      → view_of (get_or rows n void) ≡ composed u w none → release_members old n ms ≡ ms
  unfolding release_members
  release_same rows ms u w n log old i c v = go (eqb (span_of old).count 0)
    where
      apart : (k : ℕ) (e : Member) → get_elem? ms k ≡ some e → e.row ≢ n
      apart k e g q = at (c.owned k e g)
        where
          at : Edge e.row ⊎ Own m (tab rows ms) e → ⊥
          at (inl z) = at_edge (tab rows ms) n (c.edge n (subst (λ y. Edge y) q z)) u w none v
          at (inr o) =
              let here = ap (λ y. view_at (tab rows ms) y) (sym q) ∙ o.is_row in
              let both = sym v ∙ here in
              let r : ◌≡◌ {A = ℕ} 0 1 = cc in omega arith

      go : (b : Bool) → ◌≡◌ {A = List Member} (elim b [ true ↦ ms | false ↦ changed_from (λ e. eqb e.row n) (λ e. with_row e 0) 0 ms ]) ms
      go true = refl
      go false = changed_none (λ e. eqb e.row n) (λ e. with_row e 0) ms (λ k e g. ne_eqb e.row n (apart k e g))

  -- a tag's row gets its body
  pub define-ok : (u : Bool) (w n : ℕ) (b : Body) (s : State) → w ≢ no_name → IsTag s.table.rows u w n
      → (T (orderly s.table.log) → Closing m (tab s.table.rows s.table.members) b.fields.first u b.size)
      → Inv m ps s.table → Inv m ps (define_body u w n b s).table
  unfolding define_body
  define-ok u w n b s d tag close i = record { names = names; kept = kept }
    where
      rows : List Row
      rows = s.table.rows

      ms : List Member
      ms = s.table.members

      log : List Event
      log = s.table.log

      new : Row
      new = composite u w (some b.size) b.fields

      new-view : view_of new ≡ composed u w (some b.size)
      new-view = unfold view_of in refl

      not_other : view_of (get_or rows n void) ≡ other → ⊥
      not_other e = not_other_lem (sym e ∙ tag.1)

      lt : n < length rows
      lt = known-row rows n not_other

      up : Update rows (set rows n new) n new
      up = let more = length-set rows n new in let f = i.names.few in let g = i.names.some_row in
          record { at = set_at rows n new; here = get_or-set_same rows n new void lt; some' = omega arith; few' = omega arith }

      names : Names ps (set rows n new) (bodied w ∷ log)
      names = update_names ps rows (set rows n new) n new log (bodied w ∷ log) up (more_event (bodied w) log)
          (λ z. not_other (ap (λ k. view_of (get_or rows k void)) z ∙ (unfold view_of in ap view_of i.names.first)))
          (λ v x o e. (let same = sym tag.1 ∙ e in let p : u ≡ v = cc in let q : w ≡ x = cc in
          (some b.size, new-view ∙ ap (λ y. composed y w (some b.size)) p ∙ ap (λ y. composed v y (some b.size)) q)))
          (λ v x z e ne. (let same = sym new-view ∙ e in let q : w ≡ x = cc in subst (λ y. T (has_body y (bodied w ∷ log))) q (body-here w log)))
          (λ x z e ne. not_both (sym e ∙ new-view)) i.names

      kept : T (orderly (bodied w ∷ log)) → Kept m (tab (set rows n new) (own_members b.fields.first n (release_members (get_or rows n void) n ms)))
      kept h = at tag.0 tag.1
        where
          before : T (orderly log)
          before = order-more (bodied w) log h

          at : (o : Option ℕ) → view_of (get_or rows n void) ≡ composed u w o → Kept m (tab (set rows n new) (own_members b.fields.first n (release_members (get_or rows n void) n ms)))
          at (some z) v = not_met w log h (body-met w log (i.names.bodies n u w z v d))
          at none v =
              let c = i.kept before in
              let r = row_of (get_or rows n void) u w v in
              let own = own_members b.fields.first n ms in
              subst (λ l. Kept m (tab (set rows n new) (own_members b.fields.first n l))) (sym (release_same rows ms u w n log (get_or rows n void) i.names c v))
              (closed-kept m rows (set rows n new) ms b.fields.first n b.size u w c
              (grows_of rows (set rows n new) n new ms own up (subst (λ x. RowGrows x new) (sym r.1) (sized u w b.size r.0 b.fields)))
              (edge_of names) (ap view_of (get_or-set_same rows n new void lt) ∙ new-view)
              (λ x y z e. (let both = sym v ∙ e in let q : ◌≡◌ {A = ℕ} 0 1 = cc in omega arith)) (close before))

  -- entries that leave their body carry row 0
  owned-out : (first : ℕ) (ms : List Member) (k : ℕ) (e : Member) → get_elem? (own_members first 0 ms) k ≡ some e → (get_elem? ms k ≡ some e) ⊎ Edge e.row
  unfolding own_members
  owned-out first ms k e h = at (changed_at (λ x. eqb x.row (mark_of first)) (λ x. with_row x 0) first ms k e h)
    where
      at : (get_elem? ms k ≡ some e) ⊎ ((d : Member) × (first ≤ k) × (get_elem? ms k ≡ some d) × T (eqb d.row (mark_of first)) × (e ≡ with_row d 0))
          → (get_elem? ms k ≡ some e) ⊎ Edge e.row
      at (inl q) = inl q
      at (inr q) = inr (inl (ap (λ y. y.row) q.4))

  -- a body without a tag
  pub add_body-ok : (u : Bool) (b : Body) (s : State)
      → (T (orderly s.table.log) → Closing m (tab s.table.rows s.table.members) b.fields.first u b.size)
      → Inv m ps s.table → On m ps (add_body u b s)
  unfolding add_body
  add_body-ok u b s close i = option! (equal_row s.table (composite u no_name (some b.size) b.fields) 0 s.table.rows)
      (λ n e. got! (members_inv m ps s.table.rows s.table.members s.table.log (own_members b.fields.first 0 s.table.members)
      (owned-out b.fields.first s.table.members) i))
      (push! _ (composite u no_name (some b.size) b.fields) s (λ lt. got! (new lt)))
    where
      r : Row
      r = composite u no_name (some b.size) b.fields

      view : view_of r ≡ composed u no_name (some b.size)
      view = unfold view_of in refl

      rows : List Row
      rows = s.table.rows

      ms : List Member
      ms = s.table.members

      log : List Event
      log = s.table.log

      new : length rows < max_rows → Inv' m ps (rows ++ r ∷ []) (own_members b.fields.first (length rows) ms) log
      new lt = record {
        names = names;
        kept = λ h. (let own = own_members b.fields.first (length rows) ms in
            closed-kept m rows (rows ++ r ∷ []) ms b.fields.first (length rows) b.size u no_name (i.kept h)
            (grows_of rows (rows ++ r ∷ []) (length rows) r ms own (update_push rows r lt) (subst (λ x. RowGrows x r) (sym (past rows (length rows) (omega arith))) (fresh r)))
            (edge_of names) (ap view_of (append-last rows r) ∙ view) (λ x y z e. not_other_lem (sym (view-past rows) ∙ e)) (close h));
      }
        where
          names : Names ps (rows ++ r ∷ []) log
          names = push-names m ps rows ms log r log lt (more_same log)
              (λ v w z e d. (let same = sym view ∙ e in let q : no_name ≡ w = cc in absurd (d (sym q)))) (λ w z e d. not_both (sym e ∙ view)) i.names

  -- layout's note
  pub noted-ok : (b : Bool) (t : Table) → Inv m ps t → Inv m ps (noted b t)
  unfolding noted
  noted-ok true t i = i
  noted-ok false t i = log_inv m ps t.rows t.members t.log wide i

  -- ---- enums

  -- an enum without a tag
  pub add_enum-ok : (bytes : ℕ) (e : Span) (s : State) → Inv m ps s.table → On m ps (add_enum bytes e s)
  unfolding add_enum
  add_enum-ok bytes e s i = option! (equal_row s.table (enumeration no_name bytes e) 0 s.table.rows)
      (λ n z. got! i)
      (push! _ (enumeration no_name bytes e) s (λ lt. got!
      (push_inv m ps s.table.rows s.table.members s.table.log (enumeration no_name bytes e) s.table.log lt (more_same s.table.log)
      (λ u w x q d. not_both (sym view ∙ q)) (λ w x q d. (let same = sym view ∙ q in let y : no_name ≡ w = cc in absurd (d (sym y)))) i)))
    where
      view : view_of (enumeration no_name bytes e) ≡ listed no_name bytes
      view = unfold view_of in refl

  -- an enum's row is found, or a new one, with an event that names it
  new_enum : (w bytes : ℕ) (k : Span) (event : Event) (s : State) → T (met w (event ∷ s.table.log)) → length s.table.rows < max_rows → Inv m ps s.table
      → Inv' m ps (s.table.rows ++ enumeration w bytes k ∷ []) s.table.members (event ∷ s.table.log)
  new_enum w bytes k event s meets lt i =
      push_inv m ps s.table.rows s.table.members s.table.log (enumeration w bytes k) (event ∷ s.table.log) lt (more_event event s.table.log)
      (λ u x z q d. not_both (sym view ∙ q)) (λ x z q d. (let same = sym view ∙ q in let y : w ≡ x = cc in subst (λ v. T (met v (event ∷ s.table.log))) y meets)) i
    where
      view : view_of (enumeration w bytes k) ≡ listed w bytes
      view = unfold view_of in refl

  found_enum : (w n : ℕ) (t : Table) → enum_row t w ≡ some n → (z : ℕ) × (view_of (get_or t.rows n void) ≡ listed w z)
  found_enum w n t e = let q = named-at enum_kind w 0 t.rows n e in
      subst (λ k. (z : ℕ) × (view_of (get_or t.rows k void) ≡ listed w z)) (sym (q.1 ∙ omega arith)) (enum_of (get_or t.rows q.0 void) w q.2 q.3)

  pub bare_enum-ok : (w at : ℕ) (s : State) → Inv m ps s.table → On m ps (bare_enum m w at s)
  unfolding bare_enum enum_tag_row
  bare_enum-ok w at s i = bool! (eqb w no_name) no! (go (enum_row s.table w))
    where
      go : (o : Option ℕ) → On m ps (◌>>=◌ {A = ℕ × State} (elim o [ some n ↦ got (n, s) | none ↦ push_row (enumeration w m.enum_size nothing) s ])
          (λ r. got (r.0, with_table r.1 (logged r.1.table (used w)))))
      go none = push! _ (enumeration w m.enum_size nothing) s (λ lt. got! (new_enum w m.enum_size nothing (used w) s
          (use_met w (used w ∷ s.table.log) (use_here w s.table.log)) lt i))
      go (some n) = then! {P = λ x. Inv m ps x.1.table} _ _ (got! i) λ x h. got! (log_inv m ps x.1.table.rows x.1.table.members x.1.table.log (used w) h)

  -- an enum's tag gets its values: a second body, or one after a use, is not orderly
  pub close_enum-ok : (w bytes : ℕ) (e : Span) (s : State) → Inv m ps s.table → On m ps (close_enum w bytes e s)
  unfolding close_enum enum_tag_row define_enum
  close_enum-ok w bytes e s i = test! (eqb w no_name) (λ z. add_enum-ok bytes e s i) (λ z. go (named z) (enum_row s.table w) refl)
    where
      named : eqb w no_name ≡ false → w ≢ no_name
      named z q = subst T z (subst (λ x. T (eqb w x)) q (eqb_refl w))

      new : Row
      new = enumeration w bytes e

      view : view_of new ≡ listed w bytes
      view = unfold view_of in refl

      again : (n : ℕ) → w ≢ no_name → (z : ℕ) × (view_of (get_or s.table.rows n void) ≡ listed w z) → Inv' m ps (set s.table.rows n new) s.table.members (bodied w ∷ s.table.log)
      again n d v = record {
        names = update_names ps rows (set rows n new) n new log (bodied w ∷ log) up (more_event (bodied w) log)
            (λ z. not_other (ap (λ k. view_of (get_or rows k void)) z ∙ (unfold view_of in ap view_of i.names.first)))
            (λ u x o q. not_both (sym v.1 ∙ q)) (λ u x z q ne. not_both (sym view ∙ q))
            (λ x z q ne. (let same = sym view ∙ q in let y : w ≡ x = cc in
            subst (λ b. T (met b (bodied w ∷ log))) y (body-met w (bodied w ∷ log) (body-here w log)))) i.names;
        kept = λ h. not_met w log h (i.names.enums n w v.0 v.1 d);
      }
        where
          rows : List Row
          rows = s.table.rows

          log : List Event
          log = s.table.log

          not_other : view_of (get_or rows n void) ≡ other → ⊥
          not_other q = not_listed (sym q ∙ v.1)

          up : Update rows (set rows n new) n new
          up = let more = length-set rows n new in let f = i.names.few in let g = i.names.some_row in
              record { at = set_at rows n new; here = get_or-set_same rows n new void (known-row rows n not_other); some' = omega arith; few' = omega arith }

      go : w ≢ no_name → (o : Option ℕ) → enum_row s.table w ≡ o
          → On m ps (◌>>=◌ {A = ℕ × State} (elim o [ some n ↦ got (n, s) | none ↦ push_row (enumeration w bytes nothing) s ]) (λ r. got (r.0, define_enum w r.0 bytes e r.1)))
      go d none z = push! _ (enumeration w bytes nothing) s (λ lt. got!
          (subst (λ l. Inv' m ps l s.table.members (bodied w ∷ s.table.log)) (sym (set-append_seam s.table.rows (enumeration w bytes nothing) [] new))
          (new_enum w bytes e (bodied w) s (body-met w (bodied w ∷ s.table.log) (body-here w s.table.log)) lt i)))
      go d (some n) z = then! {P = λ x. x ≡ (n, s)} _ _ (got! refl) λ x q. got! (subst (λ y. Inv m ps (define_enum w y.0 bytes e y.1).table) (sym q) (again n d (found_enum w n s.table z)))
