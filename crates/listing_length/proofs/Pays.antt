-- What readers add to the names of the table is paid by the names that they read: each is listed twice at most. Assumes nothing.
use mathlib.Core.Path.{◌≡◌, refl, ap}
use mathlib.Core.Bool.{Bool, true}
use mathlib.Core.Option.{none}
use mathlib.Core.List.{[], ◌∷◌}
use Prim.Native.Nat.{ℕ, zero, suc, ◌+◌, ◌-◌, ◌*◌, ◌≤◌, ◌<◌}
use native.Mathlib.Omega.{arith}
use native.Mathlib.Nat.{le_refl}
use lib.Dec.{eqb, leb}
use lib.ListN.{length, length-append}
use borrow.Author.Tests.{leb-false}
use Rattle.definition.specs.Answer.{Answer}
use Rattle.definition.specs.Limit.{max_rows, max_members, max_values, max_parameters, max_declarations}
use Rattle.definition.specs.Kind.{is_name}
use Rattle.definition.specs.Name.{no_name, length_of}
use Rattle.definition.specs.Token.{Tokens, kind_at, number_at}
use Rattle.definition.specs.Model.{Model}
use Rattle.definition.specs.RowKind.{void_kind, array_kind, function_kind, enum_kind, qualified_kind}
use Rattle.definition.specs.Row.{Row, composite, enumeration, typedef, Qualifiers, nothing, composite_kind, kind_of, target_of, row_name}
use Rattle.definition.specs.Table.{Member, Value, Parameter, Storage, Event, used, State, row_at, skip, with_table, logged, push_row, push_member, push_value, push_parameter, push_declaration}
use Rattle.definition.specs.Types.{typedef_row, composite_row, enum_row, equal_row, add, qualify, is_unqualified, resolved_kind}
use Rattle.definition.specs.Specifier.{Specifiers, combine, builtin}
use Rattle.definition.specs.Specifiers.{named_type, words_type}
use Rattle.definition.specs.Declarator.{adjusted}
use Rattle.definition.specs.Composite.{tag_row}
use Rattle.definition.specs.Enumeration.{enum_tag_row, bare_enum}
use Rattle.definition.specs.Reader.{define_typedef, is_typedef, declared_row, declare}
use Rattle.definition_laws.specs.Every.{Every}
use Rattle.definition_laws.proofs.Every.{got!, no!, bool!, test!, option!, then!, weaker! }
use Rattle.definition_laws.proofs.Each.{each-push}
use Rattle.definition_laws.proofs.Sound.{named-between}
use Rattle.listing_length.specs.Weight.{row_bytes, member_bytes, value_bytes, parameter_bytes, declaration_bytes, weight}
use Rattle.listing_length.proofs.Sums.{sum-push, if_so}
use Rattle.listing_length.proofs.Fits.{bound_in, BoundFits, MemberFits, ValueFits, Fits}
use Rattle.listing_length.proofs.Plain.{Plain, plain-pointer, plain-qualified, combine-plain, builtin-plain}
use Rattle.listing_length.proofs.Spelt.{read}

-- From one state to the next: a is what was left to list before, b what is left now.
pub record Pays (ts : Tokens) (s : State) (a : ℕ) (s' : State) (b : ℕ) : Type 0 where
  pub fits : Fits s'.table
  pub weighs : weight s'.table + b + 2 * read ts s.at ≤ weight s.table + a + 2 * read ts s'.at

module _ {ts : Tokens} where
  pub stay : {s : State} → Fits s.table → Pays ts s 0 s 0
  stay h = record { fits = h; weighs = le_refl _ }

  pub join : {s s₁ s₂ : State} {a b c d : ℕ} → Pays ts s a s₁ b → Pays ts s₁ c s₂ d → Pays ts s (a + c) s₂ (b + d)
  join g h = let x = g.weighs in let y = h.weighs in record { fits = h.fits; weighs = omega arith }

  pub settle : {s s' : State} {a b a' b' : ℕ} → Pays ts s a s' b → a + b' ≤ a' + b → Pays ts s a' s' b'
  settle h p = let x = h.weighs in record { fits = h.fits; weighs = omega arith }

  -- with nothing to list before and after
  pub on : {s s₁ s₂ : State} {c d : ℕ} → Pays ts s 0 s₁ 0 → Pays ts s₁ c s₂ d → Pays ts s c s₂ d
  on g h = settle (join g h) (omega arith)

  -- the table is the same, and no token is taken back
  pub same : {s s' : State} → Fits s.table → s'.table ≡ s.table → read ts s.at ≤ read ts s'.at → Pays ts s 0 s' 0
  same h e p = let z = ap weight e in record { fits = rw e h; weighs = omega arith }

module _ (ts : Tokens) where
  read_next : (i : ℕ) → read ts (i + 1) ≡ read ts i + if_so (is_name (kind_at ts i)) (length_of (number_at ts i))
  unfolding read
  read_next i = let z : i + 1 ≡ suc i = omega arith in rw z refl

  read_more : (i k : ℕ) → read ts i ≤ read ts (i + k)
  read_more i zero = let z : i + 0 ≡ i = omega arith in rw z (le_refl _)
  read_more i (suc k) = let z : i + suc k ≡ i + k + 1 = omega arith in let h = read_more i k in rw z (omega (arith, read_next (i + k)))

  pub read-on : (i j : ℕ) → i ≤ j → read ts i ≤ read ts j
  read-on i j p = let z : i + (j - i) ≡ j = omega arith in rw z at (read_more i (j - i))

  -- a token is passed over
  pub skipped : (s : State) → Fits s.table → Pays ts s 0 (skip s) 0
  skipped s h = same h refl (omega (arith, read_next s.at))

  -- a name is read: it may be listed twice
  pub taken : (s : State) → Fits s.table → is_name (kind_at ts s.at) ≡ true → Pays ts s 0 (skip s) (2 * length_of (number_at ts s.at))
  taken s h e = let z = ap (λ b. if_so b (length_of (number_at ts s.at))) e in record { fits = h; weighs = omega (arith, read_next s.at) }

-- a log is in no line
pub logs : {ts : Tokens} {s : State} {a b : ℕ} (s' : State) (e : Event) → Pays ts s a s' b → Pays ts s a (with_table s' (logged s'.table e)) b
unfolding weight
logs s' e k = record { fits = k.fits; weighs = k.weighs }

-- a row, or another answer, from a state on; nothing is left to list
abbrev pub Costs : {A : Type 0} → Tokens → ℕ → State → Answer (A × State) → Type 0
Costs {A} ts a s r = Every (λ (x : A × State). Pays ts s a x.1 0) r

-- the same of readers that give no value
abbrev pub CostsOn : Tokens → ℕ → State → Answer State → Type 0
CostsOn ts a s r = Every (λ (s' : State). Pays ts s a s' 0) r

-- ---- pushes

module _ (ts : Tokens) (s : State) (h : Fits s.table) where
  -- a row whose number is in the limit
  pub push_row_costs : (r : Row) → BoundFits r → Every (λ (x : ℕ × State). Pays ts s (row_bytes r) x.1 0 × (x.0 < max_rows)) (push_row r s)
  unfolding push_row weight
  push_row_costs r p = test! (leb max_rows (length s.table.rows)) (λ e. no!) (λ e. let l = leb-false max_rows (length s.table.rows) e in
      got! (
        record {
          fits = record { few = omega (arith, length-append s.table.rows (r ∷ [])); rows = each-push h.rows p; members = h.members; values = h.values };
          weighs = omega (arith, sum-push row_bytes s.table.rows r);
        },
        l,
      ))

  pub push_member_costs : (e : Member) → MemberFits e → Costs ts (member_bytes e) s (push_member e s)
  unfolding push_member weight
  push_member_costs e p = bool! (leb max_members (length s.table.members)) no! (got! (record {
    fits = record { few = h.few; rows = h.rows; members = each-push h.members p; values = h.values };
    weighs = omega (arith, sum-push member_bytes s.table.members e);
  }))

  pub push_value_costs : (e : Value) → ValueFits e → Costs ts (value_bytes e) s (push_value e s)
  unfolding push_value weight
  push_value_costs e p = bool! (leb max_values (length s.table.values)) no! (got! (record {
    fits = record { few = h.few; rows = h.rows; members = h.members; values = each-push h.values p };
    weighs = omega (arith, sum-push value_bytes s.table.values e);
  }))

  pub push_parameter_costs : (e : Parameter) → Costs ts (parameter_bytes e) s (push_parameter e s)
  unfolding push_parameter weight
  push_parameter_costs e = bool! (leb max_parameters (length s.table.parameters)) no!
      (got! (record { fits = h; weighs = omega (arith, sum-push parameter_bytes s.table.parameters e) }))

  pub declare_costs : (c : Storage) (b w : ℕ) → CostsOn ts (length_of w) s (declare c b w s)
  unfolding declare push_declaration weight
  declare_costs c b w = then! {P = λ (x : ℕ × State). Pays ts s (length_of w) x.1 0} _ _
      (bool! (leb max_declarations (length s.table.declarations)) no!
      (got! (record { fits = h; weighs = omega (arith, sum-push declaration_bytes s.table.declarations (record { storage = c; type = b; name = w })) })))
      λ x k. got! k

  -- ---- rows

  push-plain : (r : Row) → Plain r → Costs ts 0 s (push_row r s)
  push-plain r p = let z = p.bytes in weaker! (push_row_costs r p.bound) (λ x k. settle k.0 (omega arith))

  pub add_costs : (r : Row) → Plain r → Costs ts 0 s (add r s)
  unfolding add
  add_costs r p = option! (equal_row s.table r 0 s.table.rows) (λ n e. got! (stay h)) (push-plain r p)

  pub qualify_costs : (q : Qualifiers) (n : ℕ) → Costs ts 0 s (qualify q n s)
  unfolding qualify
  qualify_costs q n = bool! (is_unqualified q) (got! (stay h)) (bool! (eqb (kind_of (row_at s.table n)) qualified_kind)
      (add_costs _ (plain-qualified _ _)) (add_costs _ (plain-qualified _ _)))

  pub named_type_costs : (m : Model) → Costs ts 0 s (named_type ts m s)
  unfolding named_type
  named_type_costs m = bool! (is_name (kind_at ts s.at)) (option! (typedef_row s.table (number_at ts s.at)) (λ n e. got! (stay h))
      (option! (builtin m (kind_at ts s.at)) (λ r e. add_costs r ((builtin-plain m _).of r e)) no!)) no!

  pub words_type_costs : (m : Model) (p : Specifiers) (at : ℕ) → Costs ts 0 s (words_type m p at s)
  unfolding words_type
  words_type_costs m p at = option! p.base (λ n e. got! (stay h)) (option! (combine m p.words) (λ r e. add_costs r ((combine-plain m p.words).of r e)) no!)

  pub adjusted_costs : (at b : ℕ) → Costs ts 0 s (adjusted at b s)
  unfolding adjusted
  adjusted_costs at b = bool! (eqb (resolved_kind s.table b) array_kind) (add_costs _ (plain-pointer _))
      (bool! (eqb (resolved_kind s.table b) function_kind) (add_costs _ (plain-pointer _))
      (bool! (eqb (resolved_kind s.table b) void_kind) no! (got! (stay h))))

  define_typedef_costs : (w b at : ℕ) → Costs ts (length_of w) s (define_typedef w b at s)
  unfolding define_typedef row_name bound_in
  define_typedef_costs w b at = option! (typedef_row s.table w) (λ n e. bool! (eqb (target_of (row_at s.table n)) b) (got! (settle (stay h) (omega arith))) no!)
      (weaker! (push_row_costs (typedef w b) (omega arith)) (λ x k. k.0))

  pub declared_row_costs : (c : Storage) (w b at : ℕ) → Costs ts (length_of w) s (declared_row c w b at s)
  unfolding declared_row
  declared_row_costs c w b at = bool! (is_typedef c) (define_typedef_costs w b at) (got! (settle (stay h) (omega arith)))

  -- ---- tags

  abbrev pub CostsTag : ℕ → Answer (ℕ × State) → Type 0
  CostsTag w r = Every (λ (x : ℕ × State). Pays ts s (length_of w) x.1 0 × (x.0 < max_rows)) r

  pub tag_row_costs : (union : Bool) (w : ℕ) → CostsTag w (tag_row union w s)
  unfolding tag_row row_name bound_in
  tag_row_costs union w = option! (composite_row union s.table w)
      (λ n e. let z = (named-between (composite_kind union) w s.table.rows 0 n e).to in let y = h.few in got! (settle (stay h) (omega arith), omega arith))
      (push_row_costs (composite union w none nothing) (omega arith))

  pub enum_tag_row_costs : (bytes w : ℕ) → CostsTag w (enum_tag_row bytes w s)
  unfolding enum_tag_row row_name bound_in
  enum_tag_row_costs bytes w = option! (enum_row s.table w)
      (λ n e. let z = (named-between enum_kind w s.table.rows 0 n e).to in let y = h.few in got! (settle (stay h) (omega arith), omega arith))
      (push_row_costs (enumeration w bytes nothing) (omega arith))

  -- `enum` and a tag without braces
  pub bare_enum_costs : (m : Model) (w at : ℕ) → Costs ts (2 * length_of w) s (bare_enum m w at s)
  unfolding bare_enum
  bare_enum_costs m w at = bool! (eqb w no_name) no! (then! _ _ (enum_tag_row_costs m.enum_size w) λ x k. got! (logs x.1 (used w) (settle k.0 (omega arith))))
