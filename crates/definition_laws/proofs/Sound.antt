-- The invariant of the table while a text is read, and every change of the table that keeps it. Assumes nothing.
use mathlib.Core.Path.{◌≡◌, refl}
use mathlib.Core.Bool.{Bool, true, false, ◌&&◌}
use mathlib.Core.Option.{Option, some}
use mathlib.Core.List.{List, [], ◌∷◌, ◌++◌}
use Prim.Native.Nat.{ℕ, suc, ◌+◌, ◌≤◌, ◌<◌}
use native.Mathlib.Omega.{arith}
use native.Mathlib.Nat.{le_refl, lt_of_not-le}
use native.Mathlib.Decide.{dec_le}
use lib.Dec.{eqb, leb}
use lib.ListN.{length, length-append, get_or-eq_default}
use borrow.Author.Tests.{leb-false, eqb-false}
use Rattle.definition.specs.Limit.{max_rows, max_members, max_values, max_parameters, max_declarations}
use Rattle.definition.specs.RowKind.{void_kind}
use Rattle.definition.specs.Row.{Row, void, kind_of, target_of, row_name, span_of}
use Rattle.definition.specs.Table.{Member, Value, Parameter, Declaration, Table, State, row_at, mark_of, push_row, push_member, push_value, push_parameter, push_declaration}
use Rattle.definition.specs.Types.{row_named, equal_row, same_row, add}
use Rattle.definition.specs.Declarator.{own_parameters}
use Rattle.definition.specs.Composite.{own_members, fields_only, release_members}
use Rattle.definition.specs.Enumeration.{own_values, release_values}
use Rattle.definition_laws.specs.Every.{Every}
use Rattle.definition_laws.proofs.Every.{got!, no!, test!, option!, weaker! }
use Rattle.definition_laws.proofs.Each.{Each, cons, each_weaker, each-get, each-push, each_changed, each_changed_all, changed_length}

-- ---- the invariant

-- The open lists: of each, the number of its first entry.
pub record Marks : Type 0 where
  pub members : List ℕ
  pub values : List ℕ
  pub parameters : List ℕ

pub data Among (x : ℕ) : List ℕ → Type 0 where
  here : {xs : List ℕ} → Among x (x ∷ xs)
  there : {y : ℕ} {xs : List ℕ} → Among x xs → Among x (y ∷ xs)

-- the row that entry number i carries, of n rows: one of them, or the mark of an open list that began no later
pub data Carries (n : ℕ) (os : List ℕ) (i r : ℕ) : Type 0 where
  row : r < n → Carries n os i r
  mark : (first : ℕ) → Among first os → first ≤ i → r ≡ mark_of first → Carries n os i r

pub record Lower (i : ℕ) (r : Row) : Type 0 where
  pub first : i ≡ 0 → r ≡ void
  pub lower : 0 < i → target_of r < i

pub record MemberIn (n : ℕ) (os : List ℕ) (i : ℕ) (e : Member) : Type 0 where
  pub carries : Carries n os i e.row
  pub type : e.type < n

pub record ValueIn (n : ℕ) (os : List ℕ) (i : ℕ) (e : Value) : Type 0 where
  pub carries : Carries n os i e.row

pub record ParameterIn (n : ℕ) (os : List ℕ) (i : ℕ) (e : Parameter) : Type 0 where
  pub carries : Carries n os i e.row
  pub type : e.type < n

pub record DeclarationIn (n : ℕ) (i : ℕ) (d : Declaration) : Type 0 where
  pub type : d.type < n

-- over the lists, and not the table, so that its log plays no part
pub record Whole (o : Marks) (rs : List Row) (ms : List Member) (vs : List Value) (ps : List Parameter) (ds : List Declaration) : Type 0 where
  pub some-row : 0 < length rs
  pub few-rows : length rs ≤ max_rows
  pub few-members : length ms ≤ max_members
  pub few-values : length vs ≤ max_values
  pub few-parameters : length ps ≤ max_parameters
  pub few-declarations : length ds ≤ max_declarations
  pub rows : Each Lower 0 rs
  pub members : Each (MemberIn (length rs) o.members) 0 ms
  pub values : Each (ValueIn (length rs) o.values) 0 vs
  pub parameters : Each (ParameterIn (length rs) o.parameters) 0 ps
  pub declarations : Each (DeclarationIn (length rs)) 0 ds

abbrev pub Sound : Marks → Table → Type 0
Sound o t = Whole o t.rows t.members t.values t.parameters t.declarations

-- From one table to another: no list is shorter, and the invariant holds.
pub record Kept (o : Marks) (t t' : Table) : Type 0 where
  pub rows : length t.rows ≤ length t'.rows
  pub members : length t.members ≤ length t'.members
  pub values : length t.values ≤ length t'.values
  pub parameters : length t.parameters ≤ length t'.parameters
  pub sound : Sound o t'

-- with a row of the table
pub record Gives (o : Marks) (t : Table) (n : ℕ) (t' : Table) : Type 0 where
  pub kept : Kept o t t'
  pub below : n < length t'.rows

pub stay : {o : Marks} {t : Table} → Sound o t → Kept o t t
stay h = record { rows = le_refl _; members = le_refl _; values = le_refl _; parameters = le_refl _; sound = h }

pub equal : {o : Marks} {t t' : Table} → t' ≡ t → Sound o t → Kept o t t'
equal e h = rw e (stay h)

pub join : {o p : Marks} {t t₁ t₂ : Table} → Kept o t t₁ → Kept p t₁ t₂ → Kept p t t₂
join g h = record {
  rows = let a = g.rows in let b = h.rows in omega arith;
  members = let a = g.members in let b = h.members in omega arith;
  values = let a = g.values in let b = h.values in omega arith;
  parameters = let a = g.parameters in let b = h.parameters in omega arith;
  sound = h.sound;
}

pub join-gives : {o p : Marks} {t t₁ t₂ : Table} {n : ℕ} → Kept o t t₁ → Gives p t₁ n t₂ → Gives p t n t₂
join-gives g h = record { kept = join g h.kept; below = h.below }

-- ---- more rows, more open lists

carries-grown : {n n' i r : ℕ} {os : List ℕ} → n ≤ n' → Carries n os i r → Carries n' os i r
carries-grown p (row l) = row (omega arith)
carries-grown p (mark f a l e) = mark f a l e

carries-opened : {n i r : ℕ} {os : List ℕ} (first : ℕ) → Carries n os i r → Carries n (first ∷ os) i r
carries-opened first (row l) = row l
carries-opened first (mark f a l e) = mark f (there a) l e

-- an entry that is not of the list that is closed carries what it did
carries-other : {n i r : ℕ} {os : List ℕ} (first : ℕ) → eqb r (mark_of first) ≡ false → Carries n (first ∷ os) i r → Carries n os i r
carries-other first t (row l) = row l
carries-other {r} first t (mark f here l e) = absurd (eqb-false r (mark_of first) t e)
carries-other first t (mark f (there a) l e) = mark f a l e

carries_earlier : {n i r : ℕ} {os : List ℕ} (first : ℕ) → i < first → Carries n (first ∷ os) i r → Carries n os i r
carries_earlier first p (row l) = row l
carries_earlier first p (mark f here l e) = absurd (omega arith)
carries_earlier first p (mark f (there a) l e) = mark f a l e

abbrev pub open_members : ℕ → Marks → Marks
open_members first o = record { members = first ∷ o.members; values = o.values; parameters = o.parameters }

abbrev pub open_values : ℕ → Marks → Marks
open_values first o = record { members = o.members; values = first ∷ o.values; parameters = o.parameters }

abbrev pub open_parameters : ℕ → Marks → Marks
open_parameters first o = record { members = o.members; values = o.values; parameters = first ∷ o.parameters }

module _ {o : Marks} (t : Table) (first : ℕ) (h : Sound o t) where
  pub members-opened : Sound (open_members first o) t
  members-opened = record {
    some-row = h.some-row;
    few-rows = h.few-rows;
    few-members = h.few-members;
    few-values = h.few-values;
    few-parameters = h.few-parameters;
    few-declarations = h.few-declarations;
    rows = h.rows;
    values = h.values;
    parameters = h.parameters;
    declarations = h.declarations;
    members = each_weaker h.members (λ i e k. record { carries = carries-opened first k.carries; type = k.type });
  }

  pub values-opened : Sound (open_values first o) t
  values-opened = record {
    some-row = h.some-row;
    few-rows = h.few-rows;
    few-members = h.few-members;
    few-values = h.few-values;
    few-parameters = h.few-parameters;
    few-declarations = h.few-declarations;
    rows = h.rows;
    members = h.members;
    parameters = h.parameters;
    declarations = h.declarations;
    values = each_weaker h.values (λ i e k. record { carries = carries-opened first k.carries });
  }

  pub parameters-opened : Sound (open_parameters first o) t
  parameters-opened = record {
    some-row = h.some-row;
    few-rows = h.few-rows;
    few-members = h.few-members;
    few-values = h.few-values;
    few-parameters = h.few-parameters;
    few-declarations = h.few-declarations;
    rows = h.rows;
    members = h.members;
    values = h.values;
    declarations = h.declarations;
    parameters = each_weaker h.parameters (λ i e k. record { carries = carries-opened first k.carries; type = k.type });
  }

-- ---- rows that are named

module _ {o : Marks} (t : Table) (h : Sound o t) where
  -- whatever a row names is a row
  pub target_below : (i : ℕ) → target_of (row_at t i) < length t.rows
  unfolding target_of
  target_below i = go (dec_le (suc i) (length t.rows))
    where
      in_table : Lower i (row_at t i) → i < length t.rows → Dec (suc 0 ≤ i) → target_of (row_at t i) < length t.rows
      in_table k l (yes p) = let z = k.lower p in omega arith
      in_table k l (no p) = let z = lt_of_not-le p in let s = h.some-row in rw (k.first (omega arith)) (omega arith)

      go : Dec (suc i ≤ length t.rows) → target_of (row_at t i) < length t.rows
      go (yes l) = in_table (each-get h.rows i void l) l (dec_le 1 i)
      go (no l) = let z = lt_of_not-le l in let s = h.some-row in rw (get_or-eq_default t.rows void {n = i} (omega arith)) (omega arith)

-- the first row that a new one equals
pub equal-below : (t : Table) (r : Row) (rows : List Row) (i n : ℕ) → equal_row t r i rows ≡ some n → n < i + length rows
unfolding equal_row
equal-below t r [] i n e = let z : ◌≡◌ {A = ℕ} 0 1 = cc in absurd (omega arith)
equal-below t r (x ∷ xs) i n e = go (same_row t r i x) (equal-below t r xs (suc i) n) e
  where
    go : (b : Bool) → (equal_row t r (suc i) xs ≡ some n → n < suc i + length xs) → elim b as (λ z. Option ℕ) [ true ↦ some i | false ↦ equal_row t r (suc i) xs ] ≡ some n → n < i + length (x ∷ xs)
    go true ih e = let z : i ≡ n = cc in omega arith
    go false ih e = let z = ih e in omega arith

pub record Between (i n j : ℕ) : Type 0 where
  pub from : i ≤ n
  pub to : n < j

-- the row of a name
pub named-between : (kind name : ℕ) (rows : List Row) (i n : ℕ) → row_named kind name i rows ≡ some n → Between i n (i + length rows)
unfolding row_named
named-between kind name [] i n e = let z : ◌≡◌ {A = ℕ} 0 1 = cc in absurd (omega arith)
named-between kind name (x ∷ xs) i n e = go (eqb (kind_of x) kind && eqb (row_name x) name) (named-between kind name xs (suc i) n) e
  where
    go : (b : Bool) → (row_named kind name (suc i) xs ≡ some n → Between (suc i) n (suc i + length xs))
        → elim b as (λ z. Option ℕ) [ true ↦ some i | false ↦ row_named kind name (suc i) xs ] ≡ some n → Between i n (i + length (x ∷ xs))
    go true ih e = let z : i ≡ n = cc in record { from = omega arith; to = omega arith }
    go false ih e = let z = ih e in record { from = omega arith; to = omega arith }

-- is not row 0, which is void
pub named-positive : (kind name : ℕ) (rows : List Row) (n : ℕ) → eqb void_kind kind ≡ false → Each Lower 0 rows → row_named kind name 0 rows ≡ some n → 0 < n
unfolding row_named kind_of
named-positive kind name [] n f h e = let z : ◌≡◌ {A = ℕ} 0 1 = cc in absurd (omega arith)
named-positive kind name (x ∷ xs) n f (cons h hs) e = go x (h.first refl) e
  where
    go : (x : Row) → x ≡ void → elim (eqb (kind_of x) kind && eqb (row_name x) name) as (λ z. Option ℕ) [ true ↦ some 0 | false ↦ row_named kind name 1 xs ] ≡ some n → 0 < n
    go x v e = let e' = rw v at e in let e'' = rw f at e' in let z = named-between kind name xs 1 n e'' in omega arith

-- ---- pushes

-- one more row, which names rows before it
row-added : {o : Marks} (t : Table) (r : Row) → Sound o t → length t.rows < max_rows → target_of r < length t.rows
    → Whole o (t.rows ++ r ∷ []) t.members t.values t.parameters t.declarations
row-added t r h l p = let n : length (t.rows ++ r ∷ []) ≡ length t.rows + 1 = length-append t.rows (r ∷ []) in record {
  some-row = omega arith;
  few-rows = omega arith;
  few-members = h.few-members;
  few-values = h.few-values;
  few-parameters = h.few-parameters;
  few-declarations = h.few-declarations;
  rows = each-push h.rows (record { first = λ e. absurd (let s = h.some-row in omega arith); lower = λ q. p });
  members = each_weaker h.members (λ i e k. record { carries = carries-grown (omega arith) k.carries; type = let z = k.type in omega arith });
  values = each_weaker h.values (λ i e k. record { carries = carries-grown (omega arith) k.carries });
  parameters = each_weaker h.parameters (λ i e k. record { carries = carries-grown (omega arith) k.carries; type = let z = k.type in omega arith });
  declarations = each_weaker h.declarations (λ i e k. record { type = let z = k.type in omega arith });
}

module _ (o : Marks) (s : State) (h : Sound o s.table) where
  -- the row that is pushed is not row 0
  pub push_row_new : (r : Row) → target_of r < length s.table.rows → Every (λ (x : ℕ × State). Gives o s.table x.0 x.1.table × (0 < x.0)) (push_row r s)
  unfolding push_row
  push_row_new r p = test! (leb max_rows (length s.table.rows)) (λ e. no!) (λ e. let l = leb-false max_rows (length s.table.rows) e in
      let n : length (s.table.rows ++ r ∷ []) ≡ length s.table.rows + 1 = length-append s.table.rows (r ∷ []) in
      got! (record { kept = record { rows = omega arith; members = le_refl _; values = le_refl _; parameters = le_refl _; sound = row-added s.table r h l p }; below = omega arith }, h.some-row))

  pub push_row_sound : (r : Row) → target_of r < length s.table.rows → Every (λ (x : ℕ × State). Gives o s.table x.0 x.1.table) (push_row r s)
  push_row_sound r p = weaker! (push_row_new r p) (λ x k. k.0)

  pub add-sound : (r : Row) → target_of r < length s.table.rows → Every (λ (x : ℕ × State). Gives o s.table x.0 x.1.table) (add r s)
  unfolding add
  add-sound r p = option! (equal_row s.table r 0 s.table.rows) (λ n e. let z = equal-below s.table r s.table.rows 0 n e in
      got! (record { kept = stay h; below = omega arith })) (push_row_sound r p)

  pub push_member-sound : (e : Member) → MemberIn (length s.table.rows) o.members (length s.table.members) e
      → Every (λ (x : ℕ × State). Kept o s.table x.1.table) (push_member e s)
  unfolding push_member
  push_member-sound e p = test! (leb max_members (length s.table.members)) (λ e. no!) (λ q. let l = leb-false max_members (length s.table.members) q in
      let n : length (s.table.members ++ e ∷ []) ≡ length s.table.members + 1 = length-append s.table.members (e ∷ []) in
      got! (record {
        rows = le_refl _;
        members = omega arith;
        values = le_refl _;
        parameters = le_refl _;
        sound = record {
          some-row = h.some-row;
          few-rows = h.few-rows;
          few-members = omega arith;
          few-values = h.few-values;
          few-parameters = h.few-parameters;
          few-declarations = h.few-declarations;
          rows = h.rows;
          values = h.values;
          parameters = h.parameters;
          declarations = h.declarations;
          members = each-push h.members p;
        };
      }))

  pub push_value-sound : (e : Value) → ValueIn (length s.table.rows) o.values (length s.table.values) e
      → Every (λ (x : ℕ × State). Kept o s.table x.1.table) (push_value e s)
  unfolding push_value
  push_value-sound e p = test! (leb max_values (length s.table.values)) (λ e. no!) (λ q. let l = leb-false max_values (length s.table.values) q in
      let n : length (s.table.values ++ e ∷ []) ≡ length s.table.values + 1 = length-append s.table.values (e ∷ []) in
      got! (record {
        rows = le_refl _;
        members = le_refl _;
        values = omega arith;
        parameters = le_refl _;
        sound = record {
          some-row = h.some-row;
          few-rows = h.few-rows;
          few-members = h.few-members;
          few-values = omega arith;
          few-parameters = h.few-parameters;
          few-declarations = h.few-declarations;
          rows = h.rows;
          members = h.members;
          parameters = h.parameters;
          declarations = h.declarations;
          values = each-push h.values p;
        };
      }))

  pub push_parameter-sound : (e : Parameter) → ParameterIn (length s.table.rows) o.parameters (length s.table.parameters) e
      → Every (λ (x : ℕ × State). Kept o s.table x.1.table) (push_parameter e s)
  unfolding push_parameter
  push_parameter-sound e p = test! (leb max_parameters (length s.table.parameters)) (λ e. no!) (λ q. let l = leb-false max_parameters (length s.table.parameters) q in
      let n : length (s.table.parameters ++ e ∷ []) ≡ length s.table.parameters + 1 = length-append s.table.parameters (e ∷ []) in
      got! (record {
        rows = le_refl _;
        members = le_refl _;
        values = le_refl _;
        parameters = omega arith;
        sound = record {
          some-row = h.some-row;
          few-rows = h.few-rows;
          few-members = h.few-members;
          few-values = h.few-values;
          few-parameters = omega arith;
          few-declarations = h.few-declarations;
          rows = h.rows;
          members = h.members;
          values = h.values;
          declarations = h.declarations;
          parameters = each-push h.parameters p;
        };
      }))

  pub push_declaration-sound : (d : Declaration) → d.type < length s.table.rows → Every (λ (x : ℕ × State). Kept o s.table x.1.table) (push_declaration d s)
  unfolding push_declaration
  push_declaration-sound d p = test! (leb max_declarations (length s.table.declarations)) (λ e. no!) (λ q. let l = leb-false max_declarations (length s.table.declarations) q in
      let n : length (s.table.declarations ++ d ∷ []) ≡ length s.table.declarations + 1 = length-append s.table.declarations (d ∷ []) in
      got! (record {
        rows = le_refl _;
        members = le_refl _;
        values = le_refl _;
        parameters = le_refl _;
        sound = record {
          some-row = h.some-row;
          few-rows = h.few-rows;
          few-members = h.few-members;
          few-values = h.few-values;
          few-parameters = h.few-parameters;
          few-declarations = omega arith;
          rows = h.rows;
          members = h.members;
          values = h.values;
          parameters = h.parameters;
          declarations = each-push h.declarations (record { type = p });
        };
      }))

-- ---- lists that are closed

module _ {n : ℕ} {os : List ℕ} where
  pub members-owned : (first b : ℕ) {ms : List Member} → b < n → Each (MemberIn n (first ∷ os)) 0 ms → Each (MemberIn n os) 0 (own_members first b ms)
  unfolding own_members
  members-owned first b p h = each_changed (MemberIn n (first ∷ os)) (MemberIn n os) _ _
      (λ i e t k. record { carries = row p; type = k.type })
      (λ i e t k. record { carries = carries-other first t k.carries; type = k.type })
      first (λ i e l k. record { carries = carries_earlier first (omega arith) k.carries; type = k.type }) h

  pub values-owned : (first b : ℕ) {vs : List Value} → b < n → Each (ValueIn n (first ∷ os)) 0 vs → Each (ValueIn n os) 0 (own_values first b vs)
  unfolding own_values
  values-owned first b p h = each_changed (ValueIn n (first ∷ os)) (ValueIn n os) _ _
      (λ i e t k. record { carries = row p })
      (λ i e t k. record { carries = carries-other first t k.carries })
      first (λ i e l k. record { carries = carries_earlier first (omega arith) k.carries }) h

  pub parameters-owned : (first b : ℕ) {ps : List Parameter} → b < n → Each (ParameterIn n (first ∷ os)) 0 ps → Each (ParameterIn n os) 0 (own_parameters first b ps)
  unfolding own_parameters
  parameters-owned first b p h = each_changed (ParameterIn n (first ∷ os)) (ParameterIn n os) _ _
      (λ i e t k. record { carries = row p; type = k.type })
      (λ i e t k. record { carries = carries-other first t k.carries; type = k.type })
      first (λ i e l k. record { carries = carries_earlier first (omega arith) k.carries; type = k.type }) h

  -- a field of width 0 carries row 0
  pub members-fields : (first : ℕ) {ms : List Member} → 0 < n → Each (MemberIn n os) 0 ms → Each (MemberIn n os) 0 (fields_only first ms)
  unfolding fields_only
  members-fields first p h = each_changed (MemberIn n os) (MemberIn n os) _ _ (λ i e t k. record { carries = row p; type = k.type }) (λ i e t k. k) first (λ i e l k. k) h

  pub members-released : (old : Row) (b : ℕ) {ms : List Member} → 0 < n → Each (MemberIn n os) 0 ms → Each (MemberIn n os) 0 (release_members old b ms)
  unfolding release_members
  members-released old b {ms} p h = go (eqb (span_of old).count 0) (each_changed_all (MemberIn n os) (MemberIn n os) _ _
      (λ i e t k. record { carries = row p; type = k.type }) (λ i e t k. k) h)
    where
      go : (t : Bool) {x : List Member} → Each (MemberIn n os) 0 x → Each (MemberIn n os) 0 (elim t as (λ z. List Member) [ true ↦ ms | false ↦ x ])
      go true k = h
      go false k = k

  pub values-released : (old : Row) (b : ℕ) {vs : List Value} → 0 < n → Each (ValueIn n os) 0 vs → Each (ValueIn n os) 0 (release_values old b vs)
  unfolding release_values
  values-released old b {vs} p h = go (eqb (span_of old).count 0) (each_changed_all (ValueIn n os) (ValueIn n os) _ _
      (λ i e t k. record { carries = row p }) (λ i e t k. k) h)
    where
      go : (t : Bool) {x : List Value} → Each (ValueIn n os) 0 x → Each (ValueIn n os) 0 (elim t as (λ z. List Value) [ true ↦ vs | false ↦ x ])
      go true k = h
      go false k = k

-- and no list gets longer or shorter by it
pub own_members-length : (first b : ℕ) (ms : List Member) → length (own_members first b ms) ≡ length ms
unfolding own_members
own_members-length first b ms = changed_length _ _ first ms

pub fields_only-length : (first : ℕ) (ms : List Member) → length (fields_only first ms) ≡ length ms
unfolding fields_only
fields_only-length first ms = changed_length _ _ first ms

pub own_values-length : (first b : ℕ) (vs : List Value) → length (own_values first b vs) ≡ length vs
unfolding own_values
own_values-length first b vs = changed_length _ _ first vs

pub own_parameters-length : (first b : ℕ) (ps : List Parameter) → length (own_parameters first b ps) ≡ length ps
unfolding own_parameters
own_parameters-length first b ps = changed_length _ _ first ps

pub release_members-length : (old : Row) (b : ℕ) (ms : List Member) → length (release_members old b ms) ≡ length ms
unfolding release_members
release_members-length old b ms = go (eqb (span_of old).count 0) _ (changed_length _ _ 0 ms)
  where
    go : (t : Bool) (x : List Member) → length x ≡ length ms → length {A = Member} (elim t as (λ z. List Member) [ true ↦ ms | false ↦ x ]) ≡ length ms
    go true x k = refl
    go false x k = k

pub release_values-length : (old : Row) (b : ℕ) (vs : List Value) → length (release_values old b vs) ≡ length vs
unfolding release_values
release_values-length old b vs = go (eqb (span_of old).count 0) _ (changed_length _ _ 0 vs)
  where
    go : (t : Bool) (x : List Value) → length x ≡ length vs → length {A = Value} (elim t as (λ z. List Value) [ true ↦ vs | false ↦ x ]) ≡ length vs
    go true x k = refl
    go false x k = k
