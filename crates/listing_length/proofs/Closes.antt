-- Lists that are closed, and what a declarator's steps make: no name is added but a tag's. Assumes nothing.
use mathlib.Core.Path.{◌≡◌, refl}
use mathlib.Core.Bool.{Bool, true, false, ◌||◌, not}
use mathlib.Core.Option.{Option, some}
use mathlib.Core.List.{List, [], ◌∷◌}
use mathlib.Mathlib.Data.Bool.Basic.{and_elim_left}
use Prim.Native.Nat.{ℕ, zero, suc, ◌+◌, ◌*◌, ◌^◌, ◌≤◌, ◌<◌}
use native.Mathlib.Omega.{arith}
use lib.Dec.{eqb, leb}
use lib.ListN.{length, length-set}
use borrow.Author.Tests.{eqb-true}
use Rattle.definition.specs.Answer.{Answer}
use Rattle.definition.specs.Limit.{max_rows}
use Rattle.definition.specs.Name.{no_name, length_of}
use Rattle.definition.specs.Token.{Tokens}
use Rattle.definition.specs.Model.{Model}
use Rattle.definition.specs.RowKind.{void_kind, array_kind, function_kind}
use Rattle.definition.specs.Row.{Row, pointer, array, composite, enumeration, function, Span, row_name, span_of, or_zero}
use Rattle.definition.specs.Table.{Member, Value, Table, State, row_at, mark_of, push_row}
use Rattle.definition.specs.Types.{equal_row, resolved_kind, changed_if, changed_from}
use Rattle.definition.specs.Specifier.{Specifiers}
use Rattle.definition.specs.Specifiers.{base_type}
use Rattle.definition.specs.Grammar.{DeclaratorStep, pointer_step, array_step, function_step}
use Rattle.definition.specs.Declarator.{own_parameters, parameters_owned, add_function, apply, returned}
use Rattle.definition.specs.Composite.{Body, is_field, own_members, fields_only, release_members, members_owned, define_body, add_body}
use Rattle.definition.specs.Enumeration.{own_values, release_values, values_owned, define_enum, add_enum, close_enum}
use Rattle.definition_laws.specs.Every.{Every}
use Rattle.definition_laws.proofs.Every.{got!, no!, bool!, option!, then!, weaker! }
use Rattle.definition_laws.proofs.Each.{Each, nil, cons, each-put, each_changed, each_changed_all}
use Rattle.listing_length.specs.Weight.{sum_of, row_bytes, member_bytes, value_bytes, parameter_bytes, weight}
use Rattle.listing_length.proofs.Sums.{sum-set, sum_changed}
use Rattle.listing_length.proofs.Fits.{bound_in, Stands, MemberFits, ValueFits, Fits}
use Rattle.listing_length.proofs.Plain.{plain-pointer, plain-array}
use Rattle.listing_length.proofs.Places.{Ready}
use Rattle.listing_length.proofs.Pays.{Pays, stay, join, settle, on, Costs, add_costs, qualify_costs, words_type_costs, push_row_costs, enum_tag_row_costs}

pub base_type_costs : (ts : Tokens) (s : State) → Fits s.table → (m : Model) (p : Specifiers) (at : ℕ) → Costs ts 0 s (base_type m p at s)
unfolding base_type
base_type_costs ts s h m p at = then! _ _ (words_type_costs ts s h m p at) λ b k. weaker! (qualify_costs ts b.1 k.fits p.qualifiers b.0) (λ x l. on k l)

-- two properties of every value
pub both! : {A : Type 0} {P Q : A → Type 0} {r : Answer A} → Every P r → Every Q r → Every (λ (a : A). P a × Q a) r
both! h k = record { of = λ a e. (h.of a e, k.of a e) }

-- a row more changes no other list
record Beside (t t' : Table) : Type 0 where
  members : t'.members ≡ t.members

push_row_beside : (r : Row) (s : State) → Every (λ (x : ℕ × State). Beside s.table x.1.table) (push_row r s)
unfolding push_row
push_row_beside r s = bool! (leb max_rows (length s.table.rows)) no! (got! (record { members = refl }))

-- ---- members of a body that was laid out

-- the entries from a number on that pass a test are changed
module _ {E : Type 0} (P Q : ℕ → E → Type 0) (test : E → Bool) (change : E → E) (first : ℕ)
    (f : (i : ℕ) (e : E) → first ≤ i → test e ≡ true → P i e → Q i (change e)) (keep : (i : ℕ) (e : E) → P i e → Q i e) where
  one_changed : (b : Bool) (i : ℕ) (e : E) → (b ≡ true → Q i (change e)) → Q i e → Q i (changed_if b change e)
  one_changed true i e h k = h refl
  one_changed false i e h k = k

  all_changed : {n : ℕ} {es : List E} → first ≤ n → Each P n es → Each Q n (changed_from test change 0 es)
  unfolding changed_from
  all_changed p nil = nil
  all_changed {n} p (cons {e} h hs) = cons (one_changed (test e) n e (λ t. f n e p t h) (keep n e h)) (all_changed (omega arith) hs)

  later_changed : {n : ℕ} {es : List E} (k : ℕ) → first ≤ n + k → Each P n es → Each Q n (changed_from test change k es)
  unfolding changed_from
  later_changed zero p h = all_changed (omega arith) h
  later_changed (suc k) p nil = nil
  later_changed {n} (suc k) p (cons {e} h hs) = cons (keep n e h) (later_changed {n = suc n} k (omega arith) hs)

abbrev pub Laid : ℕ → ℕ → Member → Type 0
Laid first i e = MemberFits e × Ready first i e

moved : {e : Member} (n : ℕ) → Stands e → MemberFits e → MemberFits (record { row = n; type = e.type; name = e.name; width = e.width; offset = e.offset; first_bit = e.first_bit })
moved n p h = record { width = h.width; stands = λ l. record { offset = p.offset; first_bit = p.first_bit } }

no_mark : {A : Type 0} (first : ℕ) → 0 ≡ mark_of first → A
unfolding mark_of
no_mark first e = absurd (omega arith)

module _ (first : ℕ) where
  pub fields_laid : {ms : List Member} → Each (Laid first) 0 ms → Each (Laid first) 0 (fields_only first ms)
  unfolding fields_only
  fields_laid h = later_changed (Laid first) (Laid first) _ _ first
      (λ i e l t k. (moved 0 (k.1 l (eqb-true e.row (mark_of first) (and_elim_left (eqb e.row (mark_of first)) (not (is_field e.width)) t))) k.0, λ p q. no_mark first q))
      (λ i e k. k) first (omega arith) h

  owned-fits : (n : ℕ) {ms : List Member} → Each (Laid first) 0 ms → Each (λ i e. MemberFits e) 0 (own_members first n ms)
  unfolding own_members
  owned-fits n h = later_changed (Laid first) (λ i e. MemberFits e) _ _ first (λ i e l t k. moved n (k.1 l (eqb-true e.row (mark_of first) t)) k.0) (λ i e k. k.0) first (omega arith) h

  released-laid : (old : Row) (n : ℕ) {ms : List Member} → n < max_rows → Each (Laid first) 0 ms → Each (Laid first) 0 (release_members old n ms)
  unfolding release_members
  released-laid old n {ms} p h = go (eqb (span_of old).count 0) (each_changed_all (Laid first) (Laid first) _ _
      (λ i e t k. let z = eqb-true e.row n t in (moved 0 (k.0.stands (omega arith)) k.0, λ l q. no_mark first q)) (λ i e t k. k) h)
    where
      go : (b : Bool) {x : List Member} → Each (Laid first) 0 x → Each (Laid first) 0 (elim b as (λ z. List Member) [ true ↦ ms | false ↦ x ])
      go true k = h
      go false k = k

pub fields-bytes : (first : ℕ) (ms : List Member) → sum_of member_bytes (fields_only first ms) ≡ sum_of member_bytes ms
unfolding fields_only
fields-bytes first ms = sum_changed member_bytes _ _ (λ e. refl) first ms

owned-bytes : (first n : ℕ) (ms : List Member) → sum_of member_bytes (own_members first n ms) ≡ sum_of member_bytes ms
unfolding own_members
owned-bytes first n ms = sum_changed member_bytes _ _ (λ e. refl) first ms

released-bytes : (old : Row) (n : ℕ) (ms : List Member) → sum_of member_bytes (release_members old n ms) ≡ sum_of member_bytes ms
unfolding release_members
released-bytes old n ms = go (eqb (span_of old).count 0) _ (sum_changed member_bytes _ _ (λ e. refl) 0 ms)
  where
    go : (b : Bool) (x : List Member) → sum_of member_bytes x ≡ sum_of member_bytes ms → sum_of member_bytes (elim b as (λ z. List Member) [ true ↦ ms | false ↦ x ]) ≡ sum_of member_bytes ms
    go true x k = refl
    go false x k = k

module _ (ts : Tokens) where
  members-own : (first n : ℕ) (s : State) → Fits s.table → Each (Laid first) 0 s.table.members → Pays ts s 0 (members_owned first n s) 0
  unfolding weight
  members-own first n s h k = record {
    fits = record { few = h.few; rows = h.rows; members = owned-fits first n k; values = h.values };
    weighs = omega (arith, owned-bytes first n s.table.members);
  }

  -- the body of a tag
  pub define_body_costs : (union : Bool) (w n : ℕ) (b : Body) (s : State) → Fits s.table → Each (Laid b.fields.first) 0 s.table.members → n < max_rows
      → Pays ts s (length_of w) (define_body union w n b s) 0
  unfolding define_body weight row_name bound_in
  define_body_costs union w n b s h k p = let r = composite union w (some b.size) b.fields in let old = row_at s.table n in record {
    fits = record {
      few = let y = h.few in omega (arith, length-set s.table.rows n r);
      rows = each-put h.rows n r (omega arith);
      members = owned-fits b.fields.first n (released-laid b.fields.first old n p k);
      values = h.values;
    };
    weighs = omega (arith, sum-set row_bytes s.table.rows n r, owned-bytes b.fields.first n (release_members old n s.table.members), released-bytes old n s.table.members);
  }

  -- a body without a tag
  pub add_body_costs : (union : Bool) (b : Body) (s : State) → Fits s.table → Each (Laid b.fields.first) 0 s.table.members → Costs ts 0 s (add_body union b s)
  unfolding add_body row_name bound_in length_of
  add_body_costs union b s h k = option! (equal_row s.table (composite union no_name (some b.size) b.fields) 0 s.table.rows)
      (λ n e. got! (members-own b.fields.first 0 s h k))
      (then! _ _ (both! (push_row_costs ts s h (composite union no_name (some b.size) b.fields) (omega arith)) (push_row_beside _ s)) λ x j.
      got! (settle (join j.0.0 (members-own b.fields.first x.0 x.1 j.0.0.fits (rw j.1.members k))) (omega arith)))

  -- ---- enumerations

  values-own : (first n : ℕ) (s : State) → Fits s.table → Pays ts s 0 (values_owned first n s) 0
  unfolding weight own_values
  values-own first n s h = record {
    fits = record {
      few = h.few;
      rows = h.rows;
      members = h.members;
      values = each_changed (λ i v. ValueFits v) (λ i v. ValueFits v) _ _ (λ i e t k. k) (λ i e t k. k) first (λ i e l k. k) h.values;
    };
    weighs = omega (arith, sum_changed value_bytes (λ e. eqb e.row (mark_of first)) (λ e. record { row = n; name = e.name; value = e.value }) (λ e. refl) first s.table.values);
  }

  released-values : (old : Row) (n : ℕ) (vs : List Value) → Each (λ i v. ValueFits v) 0 vs → Each (λ i v. ValueFits v) 0 (release_values old n vs) × (sum_of value_bytes (release_values old n vs) ≡ sum_of value_bytes vs)
  unfolding release_values
  released-values old n vs h = go (eqb (span_of old).count 0) _ (each_changed_all (λ i v. ValueFits v) (λ i v. ValueFits v) _ _ (λ i e t k. k) (λ i e t k. k) h) (sum_changed value_bytes _ _ (λ e. refl) 0 vs)
    where
      go : (b : Bool) (x : List Value) → Each (λ i v. ValueFits v) 0 x → sum_of value_bytes x ≡ sum_of value_bytes vs
          → Each (λ i v. ValueFits v) 0 (elim b as (λ z. List Value) [ true ↦ vs | false ↦ x ]) × (sum_of value_bytes (elim b as (λ z. List Value) [ true ↦ vs | false ↦ x ]) ≡ sum_of value_bytes vs)
      go true x k q = (h, refl)
      go false x k q = (k, q)

  define_enum_costs : (w n bytes : ℕ) (e : Span) (s : State) → Fits s.table → Pays ts s (length_of w) (define_enum w n bytes e s) 0
  unfolding define_enum weight row_name bound_in own_values
  define_enum_costs w n bytes e s h = let r = enumeration w bytes e in let old = row_at s.table n in let v = released-values old n s.table.values h.values in let q = v.1 in record {
    fits = record {
      few = let y = h.few in omega (arith, length-set s.table.rows n r);
      rows = each-put h.rows n r (omega arith);
      members = h.members;
      values = each_changed (λ i v. ValueFits v) (λ i v. ValueFits v) _ _ (λ i e t k. k) (λ i e t k. k) e.first (λ i e l k. k) v.0;
    };
    weighs = omega (
      arith,
      sum-set row_bytes s.table.rows n r,
      sum_changed value_bytes (λ x. eqb x.row (mark_of e.first)) (λ x. record { row = n; name = x.name; value = x.value }) (λ x. refl) e.first (release_values old n s.table.values),
    );
  }

  add_enum_costs : (bytes : ℕ) (e : Span) (s : State) → Fits s.table → Costs ts 0 s (add_enum bytes e s)
  unfolding add_enum row_name bound_in length_of
  add_enum_costs bytes e s h = option! (equal_row s.table (enumeration no_name bytes e) 0 s.table.rows) (λ n q. got! (values-own e.first 0 s h))
      (then! _ _ (push_row_costs ts s h (enumeration no_name bytes e) (omega arith)) λ x k. got! (settle (join k.0 (values-own e.first x.0 x.1 k.0.fits)) (omega arith)))

  pub close_enum_costs : (w bytes : ℕ) (e : Span) (s : State) → Fits s.table → Costs ts (2 * length_of w) s (close_enum w bytes e s)
  unfolding close_enum
  close_enum_costs w bytes e s h = bool! (eqb w no_name) (weaker! (add_enum_costs bytes e s h) (λ x k. settle k (omega arith)))
      (then! _ _ (enum_tag_row_costs ts s h bytes w) λ x k. got! (settle (join k.0 (define_enum_costs w x.0 bytes e x.1 k.0.fits)) (omega arith)))

  -- ---- steps

  parameters-own : (first n : ℕ) (s : State) → Fits s.table → Pays ts s 0 (parameters_owned first n s) 0
  unfolding weight own_parameters
  parameters-own first n s h = record {
    fits = h;
    weighs = omega (arith, sum_changed parameter_bytes (λ e. eqb e.row (mark_of first)) (λ e. record { row = n; type = e.type; name = e.name }) (λ e. refl) first s.table.parameters);
  }

  add_function_costs : (r : Option ℕ) (v : Bool) (e : Span) (s : State) → Fits s.table → Costs ts 0 s (add_function r v e s)
  unfolding add_function row_name bound_in length_of
  add_function_costs r v e s h = option! (equal_row s.table (function r v e) 0 s.table.rows) (λ n q. got! (parameters-own e.first 0 s h))
      (then! _ _ (push_row_costs ts s h (function r v e) (omega arith)) λ x k. got! (settle (join k.0 (parameters-own e.first x.0 x.1 k.0.fits)) (omega arith)))

-- the bound of a step
abbrev pub step_bound : DeclaratorStep → ℕ
step_bound (pointer_step q) = 0
step_bound (array_step n) = or_zero n
step_bound (function_step v e) = 0

pub data StepsFit : List DeclaratorStep → Type 0 where
  no_step : StepsFit []
  step : {x : DeclaratorStep} {xs : List DeclaratorStep} → step_bound x < 2 ^ 64 → StepsFit xs → StepsFit (x ∷ xs)

pub apply_costs : (ts : Tokens) (xs : List DeclaratorStep) → StepsFit xs → (b : ℕ) (s : State) → Fits s.table → Costs ts 0 s (apply xs b s)
unfolding apply
apply_costs ts [] no_step b s h = got! (stay h)
apply_costs ts (pointer_step q ∷ xs) (step p k) b s h = then! _ _ (add_costs ts s h (pointer b) (plain-pointer b)) λ y j.
    then! _ _ (qualify_costs ts y.1 j.fits q y.0) λ r l. weaker! (apply_costs ts xs k r.0 r.1 l.fits) (λ z i. on j (on l i))
apply_costs ts (array_step n ∷ xs) (step p k) b s h = bool! (eqb (resolved_kind s.table b) void_kind) no!
    (then! _ _ (add_costs ts s h (array b n) (plain-array b n p)) λ r l. weaker! (apply_costs ts xs k r.0 r.1 l.fits) (λ z i. on l i))
apply_costs ts (function_step v e ∷ xs) (step p k) b s h = bool! (eqb (resolved_kind s.table b) array_kind || eqb (resolved_kind s.table b) function_kind) no!
    (then! _ _ (add_function_costs ts (returned s.table b) v e s h) λ r l. weaker! (apply_costs ts xs k r.0 r.1 l.fits) (λ z i. on l i))
