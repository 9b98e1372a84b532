-- The changes of the table that readers make keep its invariant. Assumes nothing.
use mathlib.Core.Path.{◌≡◌, refl, ◌∙◌}
use mathlib.Core.Bool.{Bool, true, false, ◌||◌}
use mathlib.Core.Option.{Option, none, some}
use mathlib.Core.List.{List, [], ◌∷◌}
use Prim.Native.Nat.{ℕ, ◌<◌}
use native.Mathlib.Omega.{arith}
use native.Mathlib.Nat.{le_refl}
use lib.Dec.{eqb}
use lib.ListN.{length, set, length-set}
use Rattle.definition.specs.Answer.{Answer}
use Rattle.definition.specs.Kind.{is_name}
use Rattle.definition.specs.Name.{no_name}
use Rattle.definition.specs.Token.{Tokens, kind_at, number_at}
use Rattle.definition.specs.Model.{Model}
use Rattle.definition.specs.RowKind.{void_kind, array_kind, function_kind, enum_kind, typedef_kind, qualified_kind}
use Rattle.definition.specs.Row.{pointer, array, composite, enumeration, function, typedef, qualified, Qualifiers, Span, nothing, composite_kind, kind_of, target_of, or_zero}
use Rattle.definition.specs.Table.{Member, Storage, Table, State, row_at, with_members, with_values, with_parameters}
use Rattle.definition.specs.Types.{typedef_row, composite_row, enum_row, equal_row, qualify, is_unqualified, merged, qualifiers_of, resolve, resolved_kind}
use Rattle.definition.specs.Specifier.{Specifiers, combine, builtin}
use Rattle.definition.specs.Specifiers.{named_type, words_type, base_type}
use Rattle.definition.specs.Grammar.{DeclaratorStep, pointer_step, array_step, function_step}
use Rattle.definition.specs.Declarator.{own_parameters, add_function, apply, adjusted, returned, starred}
use Rattle.definition.specs.Composite.{Body, own_members, release_members, define_body, add_body, tag_row, noted}
use Rattle.definition.specs.Enumeration.{own_values, release_values, enum_tag_row, define_enum, add_enum, bare_enum, close_enum}
use Rattle.definition.specs.Reader.{define_typedef, is_typedef, declared_row, declare}
use Rattle.definition_laws.specs.Every.{Every}
use Rattle.definition_laws.proofs.Every.{got!, no!, bool!, option!, then!, weaker! }
use Rattle.definition_laws.proofs.Each.{each-put}
use Rattle.definition_laws.proofs.Scalars.{combine_names_none, builtin_names_none}
use Rattle.definition_laws.proofs.Sound.{Marks, Sound, Kept, Gives, stay, join, join-gives, open_members, open_values, open_parameters, target_below, equal-below, named-between, named-positive, push_row_new, push_row_sound, add-sound, push_declaration-sound, members-owned, values-owned, parameters-owned, members-released, values-released, own_members-length, own_values-length, own_parameters-length, release_members-length, release_values-length}

-- a row, from one table to the next
abbrev pub GivesRow : Marks → Table → Answer (ℕ × State) → Type 0
GivesRow o t r = Every (λ (x : ℕ × State). Gives o t x.0 x.1.table) r

-- that is not row 0
abbrev pub GivesTag : Marks → Table → Answer (ℕ × State) → Type 0
GivesTag o t r = Every (λ (x : ℕ × State). Gives o t x.0 x.1.table × (0 < x.0)) r

-- ---- types by name and by words

-- the row that specifiers have, if any, is one of the table's
pub record BaseIn (t : Table) (p : Specifiers) : Type 0 where
  pub below : (n : ℕ) → p.base ≡ some n → n < length t.rows

module _ (o : Marks) (s : State) (h : Sound o s.table) where
  pub qualify-sound : (q : Qualifiers) (n : ℕ) → n < length s.table.rows → GivesRow o s.table (qualify q n s)
  unfolding qualify target_of
  qualify-sound q n p = bool! (is_unqualified q) (got! (record { kept = stay h; below = p })) (bool! (eqb (kind_of (row_at s.table n)) qualified_kind)
      (add-sound o s h (qualified (target_of (row_at s.table n)) (merged (qualifiers_of (row_at s.table n)) q)) (target_below s.table h n)) (add-sound o s h (qualified n q) p))

  pub named_type-sound : (ts : Tokens) (m : Model) → GivesRow o s.table (named_type ts m s)
  unfolding named_type
  named_type-sound ts m = bool! (is_name (kind_at ts s.at))
      (option! (typedef_row s.table (number_at ts s.at)) (λ n e. let z = (named-between typedef_kind _ s.table.rows 0 n e).to in got! (record { kept = stay h; below = omega arith }))
      (option! (builtin m (kind_at ts s.at)) (λ r e. let z = (builtin_names_none m _).of r e in let y = h.some-row in add-sound o s h r (omega arith)) no!))
      no!

  pub words_type-sound : (m : Model) (p : Specifiers) (at : ℕ) → BaseIn s.table p → GivesRow o s.table (words_type m p at s)
  unfolding words_type
  words_type-sound m p at b = option! p.base (λ n e. got! (record { kept = stay h; below = b.below n e }))
      (option! (combine m p.words) (λ r e. let z = (combine_names_none m p.words).of r e in let y = h.some-row in add-sound o s h r (omega arith)) no!)

  pub adjusted-sound : (at b : ℕ) → b < length s.table.rows → GivesRow o s.table (adjusted at b s)
  unfolding adjusted target_of
  adjusted-sound at b p = bool! (eqb (resolved_kind s.table b) array_kind)
      (add-sound o s h (pointer (target_of (row_at s.table (resolve s.table b)))) (target_below s.table h (resolve s.table b)))
      (bool! (eqb (resolved_kind s.table b) function_kind) (add-sound o s h (pointer b) p)
      (bool! (eqb (resolved_kind s.table b) void_kind) no! (got! (record { kept = stay h; below = p }))))

  pub define_typedef-sound : (w b at : ℕ) → b < length s.table.rows → GivesRow o s.table (define_typedef w b at s)
  unfolding define_typedef target_of
  define_typedef-sound w b at p = option! (typedef_row s.table w)
      (λ n e. let z = (named-between typedef_kind _ s.table.rows 0 n e).to in bool! (eqb (target_of (row_at s.table n)) b) (got! (record { kept = stay h; below = omega arith })) no!)
      (push_row_sound o s h (typedef w b) p)

  pub declared_row-sound : (c : Storage) (w b at : ℕ) → b < length s.table.rows → GivesRow o s.table (declared_row c w b at s)
  unfolding declared_row
  declared_row-sound c w b at p = bool! (is_typedef c) (define_typedef-sound w b at p) (got! (record { kept = stay h; below = p }))

  pub declare-sound : (c : Storage) (b w : ℕ) → b < length s.table.rows → Every (λ (s' : State). Kept o s.table s'.table) (declare c b w s)
  unfolding declare
  declare-sound c b w p = then! _ _ (push_declaration-sound o s h (record { storage = c; type = b; name = w }) p) λ x k. got! k

  -- ---- tags

  pub tag_row-sound : (union : Bool) (w : ℕ) → GivesTag o s.table (tag_row union w s)
  unfolding tag_row target_of
  tag_row-sound union w = option! (composite_row union s.table w)
      (λ n e. let z = (named-between (composite_kind union) _ s.table.rows 0 n e).to in
      got! (record { kept = stay h; below = omega arith }, named-positive (composite_kind union) w s.table.rows n (no_void union) h.rows e))
      (push_row_new o s h (composite union w none nothing) h.some-row)
    where
      no_void : (u : Bool) → eqb void_kind (composite_kind u) ≡ false
      no_void true = refl
      no_void false = refl

  pub enum_tag_row-sound : (bytes w : ℕ) → GivesTag o s.table (enum_tag_row bytes w s)
  unfolding enum_tag_row target_of
  enum_tag_row-sound bytes w = option! (enum_row s.table w)
      (λ n e. let z = (named-between enum_kind _ s.table.rows 0 n e).to in
      got! (record { kept = stay h; below = omega arith }, named-positive enum_kind w s.table.rows n refl h.rows e))
      (push_row_new o s h (enumeration w bytes nothing) h.some-row)

pub base_type-sound : (o : Marks) (s : State) → Sound o s.table → (m : Model) (p : Specifiers) (at : ℕ) → BaseIn s.table p → GivesRow o s.table (base_type m p at s)
unfolding base_type
base_type-sound o s h m p at b = then! _ _ (words_type-sound o s h m p at b) λ x k.
    weaker! (qualify-sound o x.1 k.kept.sound p.qualifiers x.0 k.below) (λ y l. join-gives k.kept l)

-- ---- lists that are closed

module _ {o : Marks} (t : Table) (first b : ℕ) where
  pub parameters-closed : Sound (open_parameters first o) t → b < length t.rows → Kept o t (with_parameters t (own_parameters first b t.parameters))
  parameters-closed h p = let z = own_parameters-length first b t.parameters in record {
    rows = le_refl _;
    members = le_refl _;
    values = le_refl _;
    parameters = omega arith;
    sound = record {
      some-row = h.some-row;
      few-rows = h.few-rows;
      few-members = h.few-members;
      few-values = h.few-values;
      few-parameters = let y = h.few-parameters in omega arith;
      few-declarations = h.few-declarations;
      rows = h.rows;
      members = h.members;
      values = h.values;
      declarations = h.declarations;
      parameters = parameters-owned first b p h.parameters;
    };
  }

  pub members-closed : Sound (open_members first o) t → b < length t.rows → Kept o t (with_members t (own_members first b t.members))
  members-closed h p = let z = own_members-length first b t.members in record {
    rows = le_refl _;
    members = omega arith;
    values = le_refl _;
    parameters = le_refl _;
    sound = record {
      some-row = h.some-row;
      few-rows = h.few-rows;
      few-members = let y = h.few-members in omega arith;
      few-values = h.few-values;
      few-parameters = h.few-parameters;
      few-declarations = h.few-declarations;
      rows = h.rows;
      members = members-owned first b p h.members;
      values = h.values;
      declarations = h.declarations;
      parameters = h.parameters;
    };
  }

  pub values-closed : Sound (open_values first o) t → b < length t.rows → Kept o t (with_values t (own_values first b t.values))
  values-closed h p = let z = own_values-length first b t.values in record {
    rows = le_refl _;
    members = le_refl _;
    values = omega arith;
    parameters = le_refl _;
    sound = record {
      some-row = h.some-row;
      few-rows = h.few-rows;
      few-members = h.few-members;
      few-values = let y = h.few-values in omega arith;
      few-parameters = h.few-parameters;
      few-declarations = h.few-declarations;
      rows = h.rows;
      members = h.members;
      values = values-owned first b p h.values;
      declarations = h.declarations;
      parameters = h.parameters;
    };
  }

-- a function's list
pub add_function-sound : (o : Marks) (s : State) (returns : Option ℕ) (v : Bool) (e : Span) → Sound (open_parameters e.first o) s.table → or_zero returns < length s.table.rows
    → GivesRow o s.table (add_function returns v e s)
unfolding add_function target_of
add_function-sound o s returns v e h p = option! (equal_row s.table (function returns v e) 0 s.table.rows)
    (λ n q. let z = equal-below s.table _ s.table.rows 0 n q in
    got! (record { kept = parameters-closed s.table e.first 0 h h.some-row; below = omega arith }))
    (then! _ _ (push_row_sound _ s h (function returns v e) p) λ x k.
    got! (record { kept = join k.kept (parameters-closed x.1.table e.first x.0 k.kept.sound k.below); below = k.below }))

-- the lists that a declarator's steps leave open
abbrev pub opening : DeclaratorStep → Marks → Marks
opening (pointer_step q) o = o
opening (array_step n) o = o
opening (function_step v e) o = open_parameters e.first o

abbrev pub opened : List DeclaratorStep → Marks → Marks
opened [] o = o
opened (x ∷ xs) o = opening x (opened xs o)

-- stars open none
pub starred-opens : (qs : List Qualifiers) (xs : List DeclaratorStep) (o : Marks) → opened (starred qs xs) o ≡ opened xs o
unfolding starred
starred-opens [] xs o = refl
starred-opens (q ∷ qs) xs o = starred-opens qs (pointer_step q ∷ xs) o

returned-below : (t : Table) (b : ℕ) → b < length t.rows → 0 < length t.rows → or_zero (returned t b) < length t.rows
returned-below t b p q = go (eqb (resolve t b) 0)
  where
    go : (x : Bool) → or_zero (elim x as (λ z. Option ℕ) [ true ↦ none | false ↦ some b ]) < length t.rows
    go true = q
    go false = p

pub apply-sound : (xs : List DeclaratorStep) (o : Marks) (b : ℕ) (s : State) → Sound (opened xs o) s.table → b < length s.table.rows → GivesRow o s.table (apply xs b s)
unfolding apply target_of
apply-sound [] o b s h p = got! (record { kept = stay h; below = p })
apply-sound (pointer_step q ∷ xs) o b s h p = then! _ _ (add-sound _ s h (pointer b) p) λ x k.
    then! _ _ (qualify-sound _ x.1 k.kept.sound q x.0 k.below) λ r l.
    weaker! (apply-sound xs o r.0 r.1 l.kept.sound l.below) (λ y j. join-gives (join k.kept l.kept) j)
apply-sound (array_step n ∷ xs) o b s h p = bool! (eqb (resolved_kind s.table b) void_kind) no!
    (then! _ _ (add-sound _ s h (array b n) p) λ r l. weaker! (apply-sound xs o r.0 r.1 l.kept.sound l.below) (λ y j. join-gives l.kept j))
apply-sound (function_step v e ∷ xs) o b s h p = bool! (eqb (resolved_kind s.table b) array_kind || eqb (resolved_kind s.table b) function_kind) no!
    (then! _ _ (add_function-sound _ s (returned s.table b) v e h (returned-below s.table b p h.some-row)) λ r l.
    weaker! (apply-sound xs o r.0 r.1 l.kept.sound l.below) (λ y j. join-gives l.kept j))

-- ---- bodies

pub define_body-sound : (o : Marks) (union : Bool) (w n : ℕ) (b : Body) (s : State) → Sound (open_members b.fields.first o) s.table → 0 < n → n < length s.table.rows
    → Kept o s.table (define_body union w n b s).table
unfolding define_body target_of
define_body-sound o union w n b s h p q =
    let r = composite union w (some b.size) b.fields in
    let z : length (set s.table.rows n r) ≡ length s.table.rows = length-set s.table.rows n r in
    let y : length (own_members b.fields.first n (release_members (row_at s.table n) n s.table.members)) ≡ length s.table.members
    = own_members-length _ n _ ∙ release_members-length (row_at s.table n) n s.table.members in
    record {
      rows = omega arith;
      members = omega arith;
      values = le_refl _;
      parameters = le_refl _;
      sound = record {
        some-row = let x = h.some-row in omega arith;
        few-rows = let x = h.few-rows in omega arith;
        few-members = let x = h.few-members in omega arith;
        few-values = h.few-values;
        few-parameters = h.few-parameters;
        few-declarations = h.few-declarations;
        rows = each-put h.rows n r (record { first = λ e. absurd (omega arith); lower = λ l. p });
        members = rw z (members-owned b.fields.first n q (members-released (row_at s.table n) n h.some-row h.members));
        values = rw z h.values;
        declarations = rw z h.declarations;
        parameters = rw z h.parameters;
      };
    }

pub add_body-sound : (o : Marks) (union : Bool) (b : Body) (s : State) → Sound (open_members b.fields.first o) s.table → GivesRow o s.table (add_body union b s)
unfolding add_body target_of
add_body-sound o union b s h = option! (equal_row s.table (composite union no_name (some b.size) b.fields) 0 s.table.rows)
    (λ n q. let z = equal-below s.table _ s.table.rows 0 n q in
    got! (record { kept = members-closed s.table b.fields.first 0 h h.some-row; below = omega arith }))
    (then! _ _ (push_row_sound _ s h (composite union no_name (some b.size) b.fields) h.some-row) λ x k.
    got! (record { kept = join k.kept (members-closed x.1.table b.fields.first x.0 k.kept.sound k.below); below = k.below }))

-- a note changes no list
pub noted-sound : {o : Marks} {t : Table} (t' : Table) (b : Bool) (ms : List Member) → Kept o t (with_members t' ms) → Kept o t (with_members (noted b t') ms)
unfolding noted
noted-sound t' true ms k = k
noted-sound t' false ms k = record { rows = k.rows; members = k.members; values = k.values; parameters = k.parameters; sound = k.sound }

-- ---- enumerations

pub define_enum-sound : (o : Marks) (w n bytes : ℕ) (e : Span) (s : State) → Sound (open_values e.first o) s.table → 0 < n → n < length s.table.rows
    → Kept o s.table (define_enum w n bytes e s).table
unfolding define_enum target_of
define_enum-sound o w n bytes e s h p q =
    let r = enumeration w bytes e in
    let z : length (set s.table.rows n r) ≡ length s.table.rows = length-set s.table.rows n r in
    let y : length (own_values e.first n (release_values (row_at s.table n) n s.table.values)) ≡ length s.table.values
    = own_values-length _ n _ ∙ release_values-length (row_at s.table n) n s.table.values in
    record {
      rows = omega arith;
      members = le_refl _;
      values = omega arith;
      parameters = le_refl _;
      sound = record {
        some-row = let x = h.some-row in omega arith;
        few-rows = let x = h.few-rows in omega arith;
        few-values = let x = h.few-values in omega arith;
        few-members = h.few-members;
        few-parameters = h.few-parameters;
        few-declarations = h.few-declarations;
        rows = each-put h.rows n r (record { first = λ e. absurd (omega arith); lower = λ l. p });
        values = rw z (values-owned e.first n q (values-released (row_at s.table n) n h.some-row h.values));
        members = rw z h.members;
        declarations = rw z h.declarations;
        parameters = rw z h.parameters;
      };
    }

pub add_enum-sound : (o : Marks) (bytes : ℕ) (e : Span) (s : State) → Sound (open_values e.first o) s.table → GivesRow o s.table (add_enum bytes e s)
unfolding add_enum target_of
add_enum-sound o bytes e s h = option! (equal_row s.table (enumeration no_name bytes e) 0 s.table.rows)
    (λ n q. let z = equal-below s.table _ s.table.rows 0 n q in
    got! (record { kept = values-closed s.table e.first 0 h h.some-row; below = omega arith }))
    (then! _ _ (push_row_sound _ s h (enumeration no_name bytes e) h.some-row) λ x k.
    got! (record { kept = join k.kept (values-closed x.1.table e.first x.0 k.kept.sound k.below); below = k.below }))

pub close_enum-sound : (o : Marks) (w bytes : ℕ) (e : Span) (s : State) → Sound (open_values e.first o) s.table → GivesRow o s.table (close_enum w bytes e s)
unfolding close_enum
close_enum-sound o w bytes e s h = bool! (eqb w no_name) (add_enum-sound o bytes e s h)
    (then! _ _ (enum_tag_row-sound _ s h bytes w) λ x k. let d = define_enum-sound o w x.0 bytes e x.1 k.0.kept.sound k.1 k.0.below in
    got! (record { kept = join k.0.kept d; below = let y = d.rows in let z = k.0.below in omega arith }))

pub bare_enum-sound : (o : Marks) (m : Model) (w at : ℕ) (s : State) → Sound o s.table → GivesRow o s.table (bare_enum m w at s)
unfolding bare_enum
bare_enum-sound o m w at s h = bool! (eqb w no_name) no! (then! _ _ (enum_tag_row-sound o s h m.enum_size w) λ x k. let g = k.0.kept in
    got! (record { kept = record { rows = g.rows; members = g.members; values = g.values; parameters = g.parameters; sound = g.sound }; below = k.0.below }))
