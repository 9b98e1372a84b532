-- The whole reader keeps what is kept of its table.
use mathlib.Core.Path.{◌≡◌, refl, sym, ◌∙◌, ap, subst}
use mathlib.Core.Logic.{◌≢◌}
use mathlib.Core.List.{List, [], ◌∷◌}
use mathlib.Core.Option.{Option, none, some, some-injective, none-ne-some}
use mathlib.Core.Bool.{Bool, true, false, not, ◌&&◌, ◌||◌}
use Prim.Native.Nat.{ℕ, zero, suc, ◌+◌, ◌-◌}
use native.Mathlib.Omega.{arith}
use lib.Dec.{T, eqb, ltb, leb}
use lib.IntN.{ℤ, pos, suc_ℤ}
use lib.ListN.{length, get_or, drop}
use Rattle.definition.specs.Limit.{max_values, max_parameters, max_declarations, max_steps, max_depth}
use Rattle.definition.specs.Kind.{is_name, is_word, end, attribute, enum_word, union_word, star, open_paren, close_paren, open_bracket, close_bracket, open_brace, close_brace, comma, ellipsis, semicolon, colon, equals}
use Rattle.definition.specs.Name.{no_name}
use Rattle.definition.specs.Token.{Tokens, kind_at, number_at, left}
use Rattle.definition.specs.Model.{Model}
use Rattle.definition.specs.RowKind.{void_kind, array_kind, function_kind, qualified_kind}
use Rattle.definition.specs.Row.{Row, void, int, float, bool, pointer, array, composite, enumeration, function, typedef, qualified, Qualifiers, Span, kind_of, target_of, is_some}
use Rattle.definition.specs.Table.{Member, Value, Parameter, Declaration, Storage, storage_number, noStorage, Table, new_table, State, with_members, row_at, mark_of, skip, push_member, push_value, push_parameter, push_declaration}
use Rattle.definition.specs.Types.{typedef_row, equal_row, is_unqualified, qualify, resolved_kind}
use Rattle.definition.specs.Layout.{none_wide}
use Rattle.definition.specs.Specifier.{Specifiers, Words, no_specifiers, storing, qualifying, based_on, wording, names_type, is_storage_word, storage_of, is_qualifier_word, with_qualifier, is_ignored_word, is_type_word, how_many, total, signs, double_type, char_type, short_type, int_type, combine, type_in, builtin}
use Rattle.definition.specs.Kind.{complex_word, void_word, bool_word, float_word, double_word, char_word, short_word, int_word, long_word}
use Rattle.definition.specs.Grammar.{DeclaratorStep, pointer_step, array_step, function_step, Declarator, named, unnamed, with_step, Levels, stands, needed}
use Rattle.definition.specs.Specifiers.{named_type, words_type, base_type, is_tag_word, tagged_type, specifiers_from, specifiers}
use Rattle.definition.specs.Declarator.{add_function, returned, apply, adjusted, qualifiers_here, one_more_step, stars_from, opens_declarator, bound_words, is_void_list, constant_bound, array_bound, parameter, parameters_end, parameters_from, parameters, suffixes_from, suffixes, direct₁, declarator₁}
use Rattle.definition.specs.Composite.{fields_only, Body, laid_body, is_composite, fresh, noted, bit_width, member_declarator, member_declarators, anonymous_member, member_declaration, members_from, body, tagged_composite, untagged_composite, composite₁}
use Rattle.definition.specs.Enumeration.{enum_bytes, values_since, enumerator_value, enumerator, enumerators_from, enum_body, after_tag, enumeration₁}
use Rattle.definition.specs.Reader.{constant_here, levels, initialiser, define_typedef, is_typedef, declared_row, declare, inner, init_declarator, init_declarators, declaration, separated, declarations_from, start, optional_semicolon, nothing_more, all_declarations, lone_declaration}
use Rattle.definition_laws.proofs.SoundReader.{qualifiers_from-leaves, bound_words-leaves, initialiser-leaves}
use Rattle.walks.specs.Condition.{orderly}
use Rattle.definition_laws.specs.Every.{Every}
use Rattle.definition_laws.proofs.Every.{got!, no!, bool!, test!, option!, then!, any! }
use Rattle.walks.proofs.WalkProof.{composed, listed, view_of, T_of}
use Rattle.walks.proofs.LayoutProof.{Placed, layout-ok}
use Rattle.walks.proofs.GrowProof.{not_other_lem}
use Rattle.walks.proofs.BodyProof.{tab, mark-edge, Closing, laid_kept, laid_closing}
use Rattle.walks.proofs.TableProof.{Pend, Pending, wide-never, not_listed, Inv, On, To, Plain, push_row_ok, add_ok, push_member-ok, push-tag, pop_tag, tag_row-ok, define-ok, add_body-ok, noted-ok, close_enum-ok, bare_enum-ok}

-- ---- the rows of type words

is_plain : Row → Bool
is_plain void = true
is_plain (int s g) = true
is_plain (float s) = true
is_plain bool = true
is_plain (pointer r) = true
is_plain (array r b) = true
is_plain (composite u w s e) = false
is_plain (enumeration w s e) = false
is_plain (function r v e) = true
is_plain (typedef w r) = true
is_plain (qualified r q) = true

plain-is : (r : Row) → T (is_plain r) → Plain r
unfolding is_plain view_of
plain-is void h = refl
plain-is (int s g) h = refl
plain-is (float s) h = refl
plain-is bool h = refl
plain-is (pointer r) h = refl
plain-is (array r b) h = refl
plain-is (composite u w s e) h = absurd h
plain-is (enumeration w s e) h = absurd h
plain-is (function r v e) h = refl
plain-is (typedef w r) h = refl
plain-is (qualified r q) h = refl

void-plain : Plain void
unfolding view_of
void-plain = refl

bool-plain : Plain bool
unfolding view_of
bool-plain = refl

int-plain : (s : ℕ) (g : Bool) → Plain (int s g)
unfolding view_of
int-plain s g = refl

float_plain : (s : ℕ) → Plain (float s)
unfolding view_of
float_plain s = refl

pointer-plain : (r : ℕ) → Plain (pointer r)
unfolding view_of
pointer-plain r = refl

array_plain : (r : ℕ) (b : Option ℕ) → Plain (array r b)
unfolding view_of
array_plain r b = refl

function-plain : (r : Option ℕ) (v : Bool) (e : Span) → Plain (function r v e)
unfolding view_of
function-plain r v e = refl

typedef-plain : (w r : ℕ) → Plain (typedef w r)
unfolding view_of
typedef-plain w r = refl

qualified-plain : (r : ℕ) (q : Qualifiers) → Plain (qualified r q)
unfolding view_of
qualified-plain r q = refl

-- an optional row that is plain where it is there
record Scalar (o : Option Row) : Type 0 where
  is : (r : Row) → o ≡ some r → Plain r

yes! : {r : Row} → Plain r → Scalar (some r)
yes! {r} p = record { is = λ x e. subst (λ y. Plain y) (some-injective r x e) p }

nil! : Scalar none
nil! = record { is = λ r e. absurd (none-ne-some r e) }

if! : (b : Bool) {x y : Option Row} → Scalar x → Scalar y → Scalar (elim b as (λ z. Option Row) [ true ↦ x | false ↦ y ])
if! true h k = h
if! false h k = k

int! : {s : ℕ} {g : Bool} → Scalar (some (int s g))
int! {s} {g} = yes! (int-plain s g)

float! : {s : ℕ} → Scalar (some (float s))
float! {s} = yes! (float_plain s)

combine_scalar : (m : Model) (ws : Words) → Scalar (combine m ws)
unfolding combine double_type char_type short_type int_type
combine_scalar m ws =
    if! (ltb 1 (signs ws)) nil! (if! (ltb 0 (how_many complex_word ws)) nil!
    (if! (ltb 0 (how_many void_word ws)) (if! (eqb (total ws) 1) (yes! void-plain) nil!)
    (if! (ltb 0 (how_many bool_word ws)) (if! (eqb (total ws) 1) (yes! bool-plain) nil!)
    (if! (ltb 0 (how_many float_word ws)) (if! (eqb (total ws) 1) float! nil!)
    (if! (ltb 0 (how_many double_word ws))
    (if! (ltb 0 (how_many short_word ws) || (ltb 0 (how_many int_word ws) || (ltb 0 (signs ws) || ltb 1 (how_many long_word ws)))) nil! (if! (eqb (how_many long_word ws) 1) float! float!))
    (if! (ltb 0 (how_many char_word ws))
    (if! (ltb 0 (how_many short_word ws) || (ltb 0 (how_many long_word ws) || ltb 0 (how_many int_word ws))) nil! (if! (eqb (signs ws) 0) int! int!))
    (if! (ltb 0 (how_many short_word ws)) (if! (ltb 0 (how_many long_word ws)) nil! int!)
    (if! (eqb (how_many int_word ws + signs ws + how_many long_word ws) (total ws) && ltb 0 (total ws))
    (if! (eqb (how_many long_word ws) 0) int! (if! (eqb (how_many long_word ws) 1) int! (if! (eqb (how_many long_word ws) 2) int! nil!))) nil!))))))))

all_plain : List (ℕ × Row) → Bool
all_plain [] = true
all_plain (x ∷ xs) = elim (is_plain x.1) [ true ↦ all_plain xs | false ↦ false ]

type_in_scalar : (k : ℕ) (xs : List (ℕ × Row)) → T (all_plain xs) → Scalar (type_in k xs)
unfolding type_in all_plain
type_in_scalar k [] h = nil!
type_in_scalar k (x ∷ xs) h = at (is_plain x.1) refl h (λ g. type_in_scalar k xs g)
  where
    at : (b : Bool) → is_plain x.1 ≡ b → T (elim b as (λ z. Bool) [ true ↦ all_plain xs | false ↦ false ]) → (T (all_plain xs) → Scalar (type_in k xs)) → Scalar (type_in k (x ∷ xs))
    at true z h f = if! (eqb k x.0) (yes! (plain-is x.1 (T_of z))) (f h)
    at false z h f = absurd h

builtin_scalar : (m : Model) (k : ℕ) → Scalar (builtin m k)
unfolding builtin all_plain is_plain
builtin_scalar m k = type_in_scalar k _ tt

-- the readers one level below keep it
record LevelsOk (m : Model) (next : Levels) : Type 0 where
  composite : (ps : List Pend) (u : Bool) (s : State) → Inv m ps s.table → On m ps (next.composite u s)
  enumeration : (ps : List Pend) (s : State) → Inv m ps s.table → On m ps (next.enumeration s)
  declarator : (ps : List Pend) (n : ℕ) (s : State) → Inv m ps s.table → On m ps (next.declarator n s)
  direct : (ps : List Pend) (n : ℕ) (s : State) → Inv m ps s.table → On m ps (next.direct n s)
  constant : (ps : List Pend) (s : State) → Inv m ps s.table → On m ps (next.constant s)

module _ (m : Model) (ps : List Pend) where
  push_value-ok : (e : Value) (s : State) → Inv m ps s.table → On m ps (push_value e s)
  unfolding push_value
  push_value-ok e s i = bool! (leb max_values (length s.table.values)) no! (got! i)

  push_parameter-ok : (e : Parameter) (s : State) → Inv m ps s.table → On m ps (push_parameter e s)
  unfolding push_parameter
  push_parameter-ok e s i = bool! (leb max_parameters (length s.table.parameters)) no! (got! i)

  push_declaration-ok : (e : Declaration) (s : State) → Inv m ps s.table → On m ps (push_declaration e s)
  unfolding push_declaration
  push_declaration-ok e s i = bool! (leb max_declarations (length s.table.declarations)) no! (got! i)

  needed-ok : (ts : Tokens) (mark : ℕ) (s : State) → Inv m ps s.table → To m ps (needed ts mark s)
  unfolding needed
  needed-ok ts mark s i = then! _ _ any! λ k u. got! i

  -- ---- types

  qualify-ok : (q : Qualifiers) (n : ℕ) (s : State) → Inv m ps s.table → On m ps (qualify q n s)
  unfolding qualify
  qualify-ok q n s i = bool! (is_unqualified q) (got! i)
      (bool! (eqb (kind_of (row_at s.table n)) qualified_kind) (add_ok m ps _ s (qualified-plain _ _) i)
      (add_ok m ps _ s (qualified-plain _ _) i))

  named_type-ok : (ts : Tokens) (s : State) → Inv m ps s.table → On m ps (named_type ts m s)
  unfolding named_type
  named_type-ok ts s i = bool! (is_name (kind_at ts s.at))
      (option! (typedef_row s.table (number_at ts s.at))
      (λ n e. got! i)
      (option! (builtin m (kind_at ts s.at)) (λ r z. add_ok m ps r s ((builtin_scalar m (kind_at ts s.at)).is r z) i) no!))
      no!

  words_type-ok : (p : Specifiers) (at : ℕ) (s : State) → Inv m ps s.table → On m ps (words_type m p at s)
  unfolding words_type
  words_type-ok p at s i = option! p.base
      (λ n e. got! i) (option! (combine m p.words) (λ r z. add_ok m ps r s ((combine_scalar m p.words).is r z) i) no!)

  base_type-ok : (p : Specifiers) (at : ℕ) (s : State) → Inv m ps s.table → On m ps (base_type m p at s)
  unfolding base_type
  base_type-ok p at s i = then! _ _ (words_type-ok p at s i) λ b h. qualify-ok p.qualifiers b.0 b.1 h

  add_function-ok : (r : Option ℕ) (v : Bool) (e : Span) (s : State) → Inv m ps s.table → On m ps (add_function r v e s)
  unfolding add_function
  add_function-ok r v e s i = option! (equal_row s.table (function r v e) 0 s.table.rows)
      (λ n z. got! i) (then! _ _ (push_row_ok m ps (function r v e) s (function-plain r v e) i) λ x h. got! h)

  apply-ok : (xs : List DeclaratorStep) (b : ℕ) (s : State) → Inv m ps s.table → On m ps (apply xs b s)
  unfolding apply
  apply-ok [] b s i = got! i
  apply-ok (pointer_step q ∷ xs) b s i =
      then! _ _ (add_ok m ps (pointer b) s (pointer-plain b) i) λ p h. then! _ _ (qualify-ok q p.0 p.1 h) λ r k. apply-ok xs r.0 r.1 k
  apply-ok (array_step n ∷ xs) b s i = bool! (eqb (resolved_kind s.table b) void_kind) no! (then! _ _ (add_ok m ps (array b n) s (array_plain b n) i) λ r h. apply-ok xs r.0 r.1 h)
  apply-ok (function_step v e ∷ xs) b s i = bool! (eqb (resolved_kind s.table b) array_kind || eqb (resolved_kind s.table b) function_kind) no!
      (then! _ _ (add_function-ok (returned s.table b) v e s i) λ r h. apply-ok xs r.0 r.1 h)

  adjusted-ok : (at b : ℕ) (s : State) → Inv m ps s.table → On m ps (adjusted at b s)
  unfolding adjusted
  adjusted-ok at b s i = bool! (eqb (resolved_kind s.table b) array_kind) (add_ok m ps _ s (pointer-plain _) i)
      (bool! (eqb (resolved_kind s.table b) function_kind) (add_ok m ps (pointer b) s (pointer-plain b) i)
      (bool! (eqb (resolved_kind s.table b) void_kind) no! (got! i)))

-- ---- the readers of a level

module _ (ts : Tokens) (m : Model) (next : Levels) (ok : LevelsOk m next) (ps : List Pend) where
  tagged_type-ok : (k : ℕ) (s : State) → Inv m ps s.table → On m ps (tagged_type ts m next k s)
  unfolding tagged_type
  tagged_type-ok k s i = bool! (eqb k enum_word) (ok.enumeration ps s i) (ok.composite ps (eqb k union_word) s i)

  specifiers_from-ok : (f : ℕ) (p : Specifiers) (s : State) → Inv m ps s.table → On m ps (specifiers_from ts m next f p s)
  unfolding specifiers_from
  specifiers_from-ok zero p s i = got! i
  specifiers_from-ok (suc f) p s i = let k = kind_at ts s.at in
      bool! (is_word k)
      (bool! (is_storage_word k) (specifiers_from-ok f (storing p (storage_of k)) (skip s) i)
      (bool! (is_qualifier_word k) (specifiers_from-ok f (qualifying p (with_qualifier k p.qualifiers)) (skip s) i)
      (bool! (is_ignored_word k) (specifiers_from-ok f p (skip s) i)
      (bool! (is_type_word k) (bool! (is_some p.base) no! (specifiers_from-ok f (wording p k) (skip s) i))
      (bool! (is_tag_word k)
      (bool! (names_type p) no! (then! _ _ (tagged_type-ok k (skip s) i) λ b h. specifiers_from-ok f (based_on p b.0) b.1 h))
      (bool! (names_type p) (got! i) (then! _ _ (named_type-ok m ps ts s i) λ b h. specifiers_from-ok f (based_on p b.0) (skip b.1) h)))))))
      (bool! (eqb k attribute) no! (got! i))

  specifiers-ok : (s : State) → Inv m ps s.table → On m ps (specifiers ts m next s)
  unfolding specifiers
  specifiers-ok s i = specifiers_from-ok (suc (left ts s.at)) no_specifiers s i

  -- ---- declarators

  one_more_ok : (n : ℕ) (s : State) → Inv m ps s.table → To m ps (one_more_step n s)
  unfolding one_more_step
  one_more_ok n s i = bool! (leb max_steps n) no! (got! i)

  stars_ok : (f n : ℕ) (qs : List Qualifiers) (s : State) → Inv m ps s.table → On m ps (stars_from ts f n qs s)
  unfolding stars_from
  stars_ok zero n qs s i = got! i
  stars_ok (suc f) n qs s i = bool! (stands ts star s)
      (then! _ _ (one_more_ok (n + length qs) (skip s) i) λ s₁ h. stars_ok f n ((qualifiers_here ts s₁).0 ∷ qs) (qualifiers_here ts s₁).1
      (subst (λ t. Inv m ps t) (sym (qualifiers_from-leaves ts (suc (left ts s₁.at)) _ s₁)) h))
      (got! i)

  constant_bound-ok : (s : State) → Inv m ps s.table → On m ps (constant_bound ts m next s)
  unfolding constant_bound
  constant_bound-ok s i = then! _ _ (ok.constant ps s i) λ v h. then! _ _ (needed-ok m ps ts close_bracket v.1 h) λ s' k. then! _ _ any! λ n u. got! k

  array_bound-ok : (s : State) → Inv m ps s.table → On m ps (array_bound ts m next s)
  unfolding array_bound
  array_bound-ok s₀ i₀ = let s = bound_words ts (suc (left ts s₀.at)) s₀ in let i = subst (λ t. Inv m ps t) (sym (bound_words-leaves ts (suc (left ts s₀.at)) s₀)) i₀ in
      bool! (stands ts close_bracket s) (got! i) (bool! (stands ts star s) (then! _ _ any! λ x u. no!) (constant_bound-ok s i))

  parameter-ok : (s : State) → Inv m ps s.table → Every (λ (x : ℕ × ℕ × State). Inv m ps x.2.table) (parameter ts m next s)
  unfolding parameter
  parameter-ok s i = then! _ _ (specifiers-ok s i) λ p h. then! _ _ (base_type-ok m ps p.0 s.at p.1 h) λ b k. then! _ _ (ok.declarator ps 0 b.1 k) λ d g.
      then! _ _ (apply-ok m ps d.0.steps b.0 d.1 g) λ r f. got! f

  parameters_end-ok : (v : Bool) (first n : ℕ) (s : State) → Inv m ps s.table → On m ps (parameters_end ts m next v first n s)
  unfolding parameters_end
  parameters_end-ok v first n s i = then! _ _ (needed-ok m ps ts close_paren s i) λ s' h. got! h

  parameters_from-ok : (f first n : ℕ) (s : State) → Inv m ps s.table → On m ps (parameters_from ts m next f first n s)
  unfolding parameters_from
  parameters_from-ok zero first n s i = parameters_end-ok false first n s i
  parameters_from-ok (suc f) first n s i = bool! (stands ts ellipsis s) (parameters_end-ok true first n (skip s) i)
      (then! _ _ (parameter-ok s i) λ p h. bool! (is_void_list ts n p.1 p.0 p.2) (parameters_end-ok false first n p.2 h)
      (then! _ _ (adjusted-ok m ps s.at p.0 p.2 h) λ a k. then! _ _ (push_parameter-ok m ps (record { row = mark_of first; type = a.0; name = p.1 }) a.1 k) λ e g.
      bool! (stands ts comma e.1) (parameters_from-ok f first (suc n) (skip e.1) g) (parameters_end-ok false first (suc n) e.1 g)))

  parameters-ok : (s : State) → Inv m ps s.table → On m ps (parameters ts m next s)
  unfolding parameters
  parameters-ok s i = bool! (stands ts close_paren s) (got! i) (parameters_from-ok (suc (left ts s.at)) (length s.table.parameters) 0 s i)

  suffixes_from-ok : (f n : ℕ) (d : Declarator) (s : State) → Inv m ps s.table → On m ps (suffixes_from ts m next f n d s)
  unfolding suffixes_from
  suffixes_from-ok zero n d s i = got! i
  suffixes_from-ok (suc f) n d s i = bool! (stands ts open_bracket s)
      (then! _ _ (one_more_ok (n + length d.steps) (skip s) i) λ s₁ h. then! _ _ (array_bound-ok s₁ h) λ b k. suffixes_from-ok f n (with_step d (array_step b.0)) b.1 k)
      (bool! (stands ts open_paren s)
      (then! _ _ (one_more_ok (n + length d.steps) (skip s) i) λ s₁ h. then! _ _ (parameters-ok s₁ h) λ p k. suffixes_from-ok f n (with_step d p.0) p.1 k)
      (got! i))

  suffixes-ok : (n : ℕ) (d : Declarator) (s : State) → Inv m ps s.table → On m ps (suffixes ts m next n d s)
  unfolding suffixes
  suffixes-ok n d s i = suffixes_from-ok (suc (left ts s.at)) n d s i

  direct-ok : (n : ℕ) (s : State) → Inv m ps s.table → On m ps (direct₁ ts m next n s)
  unfolding direct₁
  direct-ok n s i = bool! (is_name (kind_at ts s.at)) (suffixes-ok n (named (number_at ts s.at)) (skip s) i)
      (bool! (opens_declarator ts m s)
      (then! _ _ (ok.declarator ps n (skip s) i) λ d h. then! _ _ (needed-ok m ps ts close_paren d.1 h) λ s' k. suffixes-ok n d.0 s' k)
      (suffixes-ok n unnamed s i))

  declarator-ok : (n : ℕ) (s : State) → Inv m ps s.table → On m ps (declarator₁ ts m next n s)
  unfolding declarator₁
  declarator-ok n s i = then! _ _ (stars_ok (suc (left ts s.at)) n [] s i) λ r h. then! _ _ (ok.direct ps (n + length r.0) r.1 h) λ d k. got! k

  -- ---- members

  fresh_ok : (first type name : ℕ) (w : Option ℕ) (at : ℕ) (s : State) → Inv m ps s.table → On m ps (push_member (fresh first type name w at) s)
  fresh_ok first type name w at s i = push_member-ok m ps (fresh first type name w at) s (mark-edge first (mark_of first) refl) i

  bit_width-ok : (at : ℕ) (s : State) → Inv m ps s.table → On m ps (bit_width ts m next at s)
  unfolding bit_width
  bit_width-ok at s i = bool! (stands ts colon s) (then! _ _ (ok.constant ps (skip s) i) λ v h. then! _ _ any! λ w u. got! h) (got! i)

  member_declarator-ok : (first b : ℕ) (s : State) → Inv m ps s.table → To m ps (member_declarator ts m next first b s)
  unfolding member_declarator
  member_declarator-ok first b s i = bool! (stands ts colon s)
      (then! _ _ (bit_width-ok s.at s i) λ w h. then! _ _ (fresh_ok first b no_name w.0 s.at w.1 h) λ e k. got! k)
      (then! _ _ (ok.declarator ps 0 s i) λ d h. then! _ _ (apply-ok m ps d.0.steps b d.1 h) λ r k. then! _ _ (bit_width-ok s.at r.1 k) λ w g.
      bool! (eqb d.0.name no_name) no! (then! _ _ (fresh_ok first r.0 d.0.name w.0 s.at w.1 g) λ e f. got! f))

  member_declarators-ok : (f first b : ℕ) (s : State) → Inv m ps s.table → To m ps (member_declarators ts m next f first b s)
  unfolding member_declarators
  member_declarators-ok zero first b s i = no!
  member_declarators-ok (suc f) first b s i = then! _ _ (member_declarator-ok first b s i) λ s₁ h.
      bool! (stands ts comma s₁) (member_declarators-ok f first b (skip s₁) h) (needed-ok m ps ts semicolon s₁ h)

  anonymous_member-ok : (first b at : ℕ) (s : State) → Inv m ps s.table → To m ps (anonymous_member ts m next first b at s)
  unfolding anonymous_member
  anonymous_member-ok first b at s i = bool! (is_composite (resolved_kind s.table b)) (then! _ _ (fresh_ok first b no_name none at s i) λ e h. got! h) no!

  member_declaration-ok : (first : ℕ) (s : State) → Inv m ps s.table → To m ps (member_declaration ts m next first s)
  unfolding member_declaration
  member_declaration-ok first s i = then! _ _ (specifiers-ok s i) λ p h. bool! (eqb (storage_number p.0.storage) (storage_number noStorage))
      (then! _ _ (base_type-ok m ps p.0 s.at p.1 h) λ b k. bool! (stands ts semicolon b.1) (anonymous_member-ok first b.0 s.at (skip b.1) k)
      (member_declarators-ok (suc (left ts s.at)) first b.0 b.1 k))
      no!

  members-ok : (f first : ℕ) (s : State) → Inv m ps s.table → To m ps (members_from ts m next f first s)
  unfolding members_from
  members-ok zero first s i = no!
  members-ok (suc f) first s i = bool! (stands ts close_brace s) (got! i) (bool! (stands ts end s) no! (bool! (stands ts semicolon s) (members-ok f first (skip s) i)
      (then! _ _ (member_declaration-ok first s i) λ s₁ h. members-ok f first s₁ h)))

-- ---- bodies

-- after the layout: what is kept, and what the body's entries are
Laid : Model → List Pend → Bool → Body → Table → Type 0
Laid m ps u b t = Inv m ps t × (T (orderly t.log) → Closing m (tab t.rows t.members) b.fields.first u b.size)

laid-ok : (m : Model) (ps : List Pend) (u : Bool) (first : ℕ) (l : ℕ × List Member) (t : Table) (n : Bool) → not u || none_wide m t (mark_of first) (drop first t.members) ≡ n
    → Inv m ps t → Placed m t u first l
    → Laid m ps u (laid_body first l.0 (fields_only first l.1)) (with_members (noted n t) (fields_only first l.1))
unfolding Laid noted
laid-ok m ps u first l t true z i p = (record { names = i.names; kept = λ h. laid_kept m t u first l p (i.kept h) }, λ h. laid_closing m t u first l p (T_of z))
laid-ok m ps u first l t false z i p = (record { names = (noted-ok m ps false t i).names; kept = λ h. wide-never t.log h }, λ h. wide-never t.log h)

-- every name token has a name
abbrev pub Named : Tokens → Type 0
Named ts = (i : ℕ) → T (is_name (kind_at ts i)) → number_at ts i ≢ no_name

module _ (ts : Tokens) (m : Model) (next : Levels) (ok : LevelsOk m next) where
  body_ok : (ps : List Pend) (u : Bool) (at : ℕ) (s : State) → Inv m ps s.table → Every (λ (x : Body × State). Laid m ps u x.0 x.1.table) (body ts m next u at s)
  unfolding body
  body_ok ps u at s i = let first = length s.table.members in
      then! _ _ (members-ok ts m next ok ps (suc (left ts s.at)) first s i) λ s₁ h. then! _ _ (layout-ok m s₁.table u first at) λ l p.
      got! (laid-ok m ps u first l s₁.table _ refl h p)

  module _ (ps : List Pend) where
    tagged_ok : (u : Bool) (w at : ℕ) (s : State) → w ≢ no_name → Inv m ps s.table → On m ps (tagged_composite ts m next u w at s)
    unfolding tagged_composite Laid
    tagged_ok u w at s d i = then! _ _ (tag_row-ok m ps u w s i) λ r h. bool! (stands ts open_brace r.1)
        (let x : Pend = (u, w, r.0) in
        then! _ _ (body_ok (x ∷ ps) u at (skip r.1) (push-tag m ps x r.1.table h.1 h.0)) λ b k.
        let back = pop_tag m ps x b.1.table k.0 in
        got! (define-ok m ps u w r.0 b.0 b.1 d back.1 k.1 back.0))
        (got! h.0)

    untagged_ok : (u : Bool) (at : ℕ) (s : State) → Inv m ps s.table → On m ps (untagged_composite ts m next u at s)
    unfolding untagged_composite Laid
    untagged_ok u at s i = bool! (stands ts open_brace s) (then! _ _ (body_ok ps u at (skip s) i) λ b k. add_body-ok m ps u b.0 b.1 k.1 k.0) no!

    composite-ok : Named ts → (u : Bool) (s : State) → Inv m ps s.table → On m ps (composite₁ ts m next u s)
    unfolding composite₁
    composite-ok names u s i = test! (is_name (kind_at ts s.at)) (λ z. tagged_ok u (number_at ts s.at) s.at (skip s) (names s.at (T_of z)) i) (λ z. untagged_ok u s.at s i)

    -- ---- enums

    enumerator_value-ok : (v : ℤ) (s : State) → Inv m ps s.table → On m ps (enumerator_value ts m next v s)
    unfolding enumerator_value
    enumerator_value-ok v s i = bool! (stands ts equals s) (ok.constant ps (skip s) i) (got! i)

    enumerator-ok : (first : ℕ) (v : ℤ) (s : State) → Inv m ps s.table → On m ps (enumerator ts m next first v s)
    unfolding enumerator
    enumerator-ok first v s i = bool! (is_name (kind_at ts s.at))
        (then! _ _ (enumerator_value-ok v (skip s) i) λ x h. then! _ _ any! λ y u. then! _ _ (push_value-ok m ps _ x.1 h) λ e k. got! k) no!

    enumerators_ok : (f first : ℕ) (v : ℤ) (s : State) → Inv m ps s.table → To m ps (enumerators_from ts m next f first v s)
    unfolding enumerators_from
    enumerators_ok zero first v s i = no!
    enumerators_ok (suc f) first v s i = bool! (stands ts close_brace s) (got! i)
        (then! _ _ (enumerator-ok first v s i) λ e h. bool! (stands ts comma e.1) (enumerators_ok f first (suc_ℤ e.0) (skip e.1) h) (needed-ok m ps ts close_brace e.1 h))

    enum_body-ok : (w : ℕ) (s : State) → Inv m ps s.table → On m ps (enum_body ts m next w s)
    unfolding enum_body
    enum_body-ok w s i = let first = length s.table.values in
        then! _ _ (enumerators_ok (suc (left ts s.at)) first (pos 0) s i) λ s₁ h.
        close_enum-ok m ps w (enum_bytes m (drop first s₁.table.values)) (values_since first s₁.table) s₁ h

    after_tag-ok : (w at : ℕ) (s : State) → Inv m ps s.table → On m ps (after_tag ts m next w at s)
    unfolding after_tag
    after_tag-ok w at s i = bool! (stands ts colon s) no! (bool! (stands ts open_brace s) (enum_body-ok w (skip s) i) (bare_enum-ok m ps w at s i))

    enumeration-ok : (s : State) → Inv m ps s.table → On m ps (enumeration₁ ts m next s)
    unfolding enumeration₁
    enumeration-ok s i = bool! (is_name (kind_at ts s.at)) (after_tag-ok (number_at ts s.at) s.at (skip s) i) (after_tag-ok no_name s.at s i)

-- ---- all levels

module _ (ts : Tokens) (m : Model) (names : Named ts) where
  constant-ok : (ps : List Pend) (s : State) → Inv m ps s.table → On m ps (constant_here ts s)
  unfolding constant_here
  constant-ok ps s i = then! _ _ any! λ r u. got! i

  levels-ok : (d : ℕ) → LevelsOk m (levels ts m d)
  unfolding levels
  levels-ok zero = record { composite = λ ps u s i. no!; enumeration = λ ps s i. no!; declarator = λ ps n s i. no!; direct = λ ps n s i. no!; constant = λ ps s i. no! }
  levels-ok (suc d) = let ok = levels-ok d in record {
    composite = λ ps u s i. composite-ok ts m (levels ts m d) ok ps names u s i;
    enumeration = λ ps s i. enumeration-ok ts m (levels ts m d) ok ps s i;
    declarator = λ ps n s i. declarator-ok ts m (levels ts m d) ok ps n s i;
    direct = λ ps n s i. direct-ok ts m (levels ts m d) ok ps n s i;
    constant = λ ps s i. constant-ok ps s i;
  }

  inner-ok : LevelsOk m (inner ts m)
  inner-ok = levels-ok (max_depth - 1)

  -- ---- declarations

  typedef-ok : (w b at : ℕ) (s : State) → Inv m [] s.table → On m [] (define_typedef w b at s)
  unfolding define_typedef
  typedef-ok w b at s i = option! (typedef_row s.table w) (λ n e. bool! (eqb (target_of (row_at s.table n)) b) (got! i) no!)
      (push_row_ok m [] (typedef w b) s (typedef-plain w b) i)

  declared_row-ok : (c : Storage) (w b at : ℕ) (s : State) → Inv m [] s.table → On m [] (declared_row c w b at s)
  unfolding declared_row
  declared_row-ok c w b at s i = bool! (is_typedef c) (typedef-ok w b at s i) (got! i)

  declare-ok : (c : Storage) (b w : ℕ) (s : State) → Inv m [] s.table → To m [] (declare c b w s)
  unfolding declare
  declare-ok c b w s i = then! _ _ (push_declaration-ok m [] _ s i) λ d h. got! h

  init_declarator-ok : (c : Storage) (b : ℕ) (s : State) → Inv m [] s.table → To m [] (init_declarator ts m c b s)
  unfolding init_declarator
  init_declarator-ok c b s i = then! _ _ (inner-ok.declarator [] 0 s i) λ d h. then! _ _ (apply-ok m [] d.0.steps b d.1 h) λ r k. bool! (eqb d.0.name no_name) no!
      (then! _ _ (declared_row-ok c d.0.name r.0 s.at (initialiser ts r.1) (subst (λ t. Inv m [] t) (sym (initialiser-leaves ts r.1)) k)) λ n g.
      declare-ok c n.0 d.0.name n.1 g)

  init_declarators-ok : (f : ℕ) (c : Storage) (b : ℕ) (s : State) → Inv m [] s.table → To m [] (init_declarators ts m f c b s)
  unfolding init_declarators
  init_declarators-ok zero c b s i = no!
  init_declarators-ok (suc f) c b s i = then! _ _ (init_declarator-ok c b s i) λ s₁ h. bool! (stands ts comma s₁) (init_declarators-ok f c b (skip s₁) h) (got! h)

  declaration-ok : (s : State) → Inv m [] s.table → To m [] (declaration ts m s)
  unfolding declaration
  declaration-ok s i = then! _ _ (specifiers-ok ts m (inner ts m) inner-ok [] s i) λ p h. then! _ _ (base_type-ok m [] p.0 s.at p.1 h) λ b k.
      bool! (stands ts semicolon b.1 || stands ts end b.1) (bool! (is_typedef p.0.storage) no! (declare-ok p.0.storage b.0 no_name b.1 k))
      (init_declarators-ok (suc (left ts s.at)) p.0.storage b.0 b.1 k)

  separated-ok : (s : State) → Inv m [] s.table → To m [] (separated ts m s)
  unfolding separated
  separated-ok s i = bool! (stands ts semicolon s) (got! i) (bool! (stands ts end s) (got! i) no!)

  declarations-ok : (f : ℕ) (s : State) → Inv m [] s.table → To m [] (declarations_from ts m f s)
  unfolding declarations_from
  declarations-ok zero s i = got! i
  declarations-ok (suc f) s i = bool! (stands ts end s) (got! i) (bool! (stands ts semicolon s) (declarations-ok f (skip s) i)
      (then! _ _ (declaration-ok s i) λ s₁ h. then! _ _ (separated-ok s₁ h) λ s₂ k. declarations-ok f s₂ k))

  empty : Inv m [] new_table
  unfolding Pending view_of
  empty = record {
    names = record { some_row = omega arith; few = omega arith; first = refl; pending = tt; bodies = λ n u w z e d. none-there n e; enums = λ n w z e d. none-listed n e };
    kept = λ h. record { edge = λ n z. void-all n; owned = λ k e g. absurd (none-ne-some e g); ordered = λ j k d e l g. absurd (none-ne-some d g) };
  }
    where
      void-all : (n : ℕ) → get_or (void ∷ []) n void ≡ void
      void-all zero = refl
      void-all (suc n) = refl

      none-there : {X : Type 0} {u : Bool} {w z : ℕ} (n : ℕ) → view_of (get_or (void ∷ []) n void) ≡ composed u w (some z) → X
      none-there n e = not_other_lem (sym (ap view_of (void-all n)) ∙ e)

      none-listed : {X : Type 0} {w z : ℕ} (n : ℕ) → view_of (get_or (void ∷ []) n void) ≡ listed w z → X
      none-listed n e = not_listed (sym (ap view_of (void-all n)) ∙ e)

  pub all-ok : To m [] (all_declarations ts m)
  unfolding all_declarations
  all-ok = declarations-ok (suc (left ts 0)) (start ts m) empty

  pub lone-ok : To m [] (lone_declaration ts m)
  unfolding lone_declaration nothing_more
  lone-ok = then! _ _ (declaration-ok (start ts m) empty) λ s h. bool! (stands ts end (optional_semicolon ts m s)) (got! (semicolon-ok s h)) no!
    where
      semicolon-ok : (s : State) → Inv m [] s.table → Inv m [] (optional_semicolon ts m s).table
      semicolon-ok s i = unfold optional_semicolon in at (stands ts semicolon s)
        where
          at : (b : Bool) → Inv m [] (elim b as (λ z. State) [ true ↦ skip s | false ↦ s ]).table
          at true = i
          at false = i
