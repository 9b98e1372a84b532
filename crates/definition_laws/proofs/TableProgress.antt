-- What changes the table leaves the place. Assumes nothing.
use mathlib.Core.Path.{refl, ◌∙◌}
use mathlib.Core.Bool.{Bool, ◌||◌}
use mathlib.Core.Option.{Option, some}
use mathlib.Core.List.{List, [], ◌∷◌}
use Prim.Native.Nat.{ℕ}
use lib.Dec.{eqb, leb}
use lib.ListN.{length}
use Rattle.definition.specs.Limit.{max_rows, max_members, max_values, max_parameters, max_declarations}
use Rattle.definition.specs.Kind.{is_name}
use Rattle.definition.specs.Name.{no_name}
use Rattle.definition.specs.Token.{Tokens, kind_at, number_at}
use Rattle.definition.specs.Model.{Model}
use Rattle.definition.specs.RowKind.{void_kind, array_kind, function_kind, qualified_kind}
use Rattle.definition.specs.Row.{Row, pointer, array, composite, enumeration, function, Qualifiers, Span, kind_of, target_of}
use Rattle.definition.specs.Table.{Member, Value, Parameter, Declaration, Storage, State, row_at, push_row, push_member, push_value, push_parameter, push_declaration}
use Rattle.definition.specs.Types.{typedef_row, composite_row, enum_row, equal_row, add, qualify, is_unqualified, resolved_kind}
use Rattle.definition.specs.Specifier.{Specifiers, combine, builtin}
use Rattle.definition.specs.Specifiers.{named_type, words_type, base_type}
use Rattle.definition.specs.Grammar.{DeclaratorStep, pointer_step, array_step, function_step}
use Rattle.definition.specs.Declarator.{add_function, apply, adjusted, returned}
use Rattle.definition.specs.Composite.{Body, add_body, tag_row}
use Rattle.definition.specs.Enumeration.{enum_tag_row, add_enum, bare_enum, close_enum, define_enum}
use Rattle.definition.specs.Reader.{define_typedef, is_typedef, declared_row, declare}
use Rattle.definition_laws.specs.Every.{Every}
use Rattle.definition_laws.specs.Progress.{Stays, Remains}
use Rattle.definition_laws.proofs.Every.{got!, no!, bool!, option!, then!, weaker! }

-- ---- pushes

module _ (s : State) where
  pub push_row_stays : (r : Row) → Stays s.at (push_row r s)
  unfolding push_row
  push_row_stays r = bool! (leb max_rows (length s.table.rows)) no! (got! refl)

  pub push_member-stays : (e : Member) → Stays s.at (push_member e s)
  unfolding push_member
  push_member-stays e = bool! (leb max_members (length s.table.members)) no! (got! refl)

  pub push_value-stays : (e : Value) → Stays s.at (push_value e s)
  unfolding push_value
  push_value-stays e = bool! (leb max_values (length s.table.values)) no! (got! refl)

  pub push_parameter-stays : (e : Parameter) → Stays s.at (push_parameter e s)
  unfolding push_parameter
  push_parameter-stays e = bool! (leb max_parameters (length s.table.parameters)) no! (got! refl)

  pub push_declaration-stays : (d : Declaration) → Stays s.at (push_declaration d s)
  unfolding push_declaration
  push_declaration-stays d = bool! (leb max_declarations (length s.table.declarations)) no! (got! refl)

  -- ---- rows

  pub add-stays : (r : Row) → Stays s.at (add r s)
  unfolding add
  add-stays r = option! (equal_row s.table r 0 s.table.rows) (λ n e. got! refl) (push_row_stays r)

  pub qualify-stays : (q : Qualifiers) (n : ℕ) → Stays s.at (qualify q n s)
  unfolding qualify
  qualify-stays q n = bool! (is_unqualified q) (got! refl) (bool! (eqb (kind_of (row_at s.table n)) qualified_kind) (add-stays _) (add-stays _))

  pub named_type-stays : (ts : Tokens) (m : Model) → Stays s.at (named_type ts m s)
  unfolding named_type
  named_type-stays ts m = bool! (is_name (kind_at ts s.at)) (option! (typedef_row s.table (number_at ts s.at)) (λ n e. got! refl)
      (option! (builtin m (kind_at ts s.at)) (λ r e. add-stays r) no!)) no!

  pub words_type-stays : (m : Model) (p : Specifiers) (at : ℕ) → Stays s.at (words_type m p at s)
  unfolding words_type
  words_type-stays m p at = option! p.base (λ n e. got! refl) (option! (combine m p.words) (λ r e. add-stays r) no!)

  pub add_function-stays : (r : Option ℕ) (v : Bool) (e : Span) → Stays s.at (add_function r v e s)
  unfolding add_function
  add_function-stays r v e = option! (equal_row s.table (function r v e) 0 s.table.rows) (λ n q. got! refl) (then! _ _ (push_row_stays _) λ x h. got! h)

  pub adjusted-stays : (at b : ℕ) → Stays s.at (adjusted at b s)
  unfolding adjusted
  adjusted-stays at b = bool! (eqb (resolved_kind s.table b) array_kind) (add-stays _) (bool! (eqb (resolved_kind s.table b) function_kind) (add-stays _)
      (bool! (eqb (resolved_kind s.table b) void_kind) no! (got! refl)))

  pub tag_row-stays : (u : Bool) (w : ℕ) → Stays s.at (tag_row u w s)
  unfolding tag_row
  tag_row-stays u w = option! (composite_row u s.table w) (λ n e. got! refl) (push_row_stays _)

  pub add_body-stays : (u : Bool) (b : Body) → Stays s.at (add_body u b s)
  unfolding add_body
  add_body-stays u b = option! (equal_row s.table (composite u no_name (some b.size) b.fields) 0 s.table.rows) (λ n e. got! refl)
      (then! _ _ (push_row_stays _) λ x h. got! h)

  pub enum_tag_row-stays : (n w : ℕ) → Stays s.at (enum_tag_row n w s)
  unfolding enum_tag_row
  enum_tag_row-stays n w = option! (enum_row s.table w) (λ n e. got! refl) (push_row_stays _)

  pub add_enum-stays : (n : ℕ) (e : Span) → Stays s.at (add_enum n e s)
  unfolding add_enum
  add_enum-stays n e = option! (equal_row s.table (enumeration no_name n e) 0 s.table.rows) (λ n q. got! refl) (then! _ _ (push_row_stays _) λ x h. got! h)

  pub bare_enum-stays : (m : Model) (w at : ℕ) → Stays s.at (bare_enum m w at s)
  unfolding bare_enum
  bare_enum-stays m w at = bool! (eqb w no_name) no! (then! _ _ (enum_tag_row-stays _ _) λ x h. got! h)

  -- `enum` alone is refused
  pub bare_enum-alone : {P : ℕ × State → Type 0} (m : Model) (at : ℕ) → Every P (bare_enum m no_name at s)
  unfolding bare_enum
  bare_enum-alone m at = no!

  pub define_typedef-stays : (w b at : ℕ) → Stays s.at (define_typedef w b at s)
  unfolding define_typedef
  define_typedef-stays w b at = option! (typedef_row s.table w) (λ n e. bool! (eqb (target_of (row_at s.table n)) b) (got! refl) no!) (push_row_stays _)

  pub declare-stays : (c : Storage) (b w : ℕ) → Remains s.at (declare c b w s)
  unfolding declare
  declare-stays c b w = then! _ _ (push_declaration-stays _) λ x h. got! h

module _ (s : State) where
  pub base_type-stays : (m : Model) (p : Specifiers) (at : ℕ) → Stays s.at (base_type m p at s)
  unfolding base_type
  base_type-stays m p at = then! _ _ (words_type-stays s m p at) λ b h. weaker! (qualify-stays b.1 p.qualifiers b.0) (λ x k. k ∙ h)

  pub close_enum-stays : (w n : ℕ) (e : Span) → Stays s.at (close_enum w n e s)
  unfolding close_enum define_enum
  close_enum-stays w n e = bool! (eqb w no_name) (add_enum-stays s n e) (then! _ _ (enum_tag_row-stays s n w) λ x h. got! h)

  pub declared_row-stays : (c : Storage) (w b at : ℕ) → Stays s.at (declared_row c w b at s)
  unfolding declared_row
  declared_row-stays c w b at = bool! (is_typedef c) (define_typedef-stays s w b at) (got! refl)

pub apply-stays : (xs : List DeclaratorStep) (b : ℕ) (s : State) → Stays s.at (apply xs b s)
unfolding apply
apply-stays [] b s = got! refl
apply-stays (pointer_step q ∷ xs) b s = then! _ _ (add-stays s (pointer b)) λ p h. then! _ _ (qualify-stays p.1 q p.0) λ r k.
    weaker! (apply-stays xs r.0 r.1) (λ x l. l ∙ (k ∙ h))
apply-stays (array_step n ∷ xs) b s = bool! (eqb (resolved_kind s.table b) void_kind) no!
    (then! _ _ (add-stays s (array b n)) λ r h. weaker! (apply-stays xs r.0 r.1) (λ x l. l ∙ h))
apply-stays (function_step v e ∷ xs) b s = bool! (eqb (resolved_kind s.table b) array_kind || eqb (resolved_kind s.table b) function_kind) no!
    (then! _ _ (add_function-stays s (returned s.table b) v e) λ r h. weaker! (apply-stays xs r.0 r.1) (λ x l. l ∙ h))
