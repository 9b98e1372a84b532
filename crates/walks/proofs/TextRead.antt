-- Every reader keeps what is kept of the place in the text and the log; so the conditions on a text make its log orderly.
use mathlib.Core.Path.{◌≡◌, refl, sym, ◌∙◌, ap, subst}
use mathlib.Core.Logic.{◌⊎◌, inl, inr}
use mathlib.Core.List.{List, [], ◌∷◌}
use mathlib.Core.Option.{Option, some}
use mathlib.Core.Bool.{Bool, true, false, not, ◌&&◌, ◌||◌}
use Prim.Native.Nat.{ℕ, zero, suc, ◌+◌, ◌-◌}
use native.Mathlib.Omega.{arith}
use lib.Dec.{T, eqb, ltb, leb, ltb→lt}
use lib.IntN.{ℤ, pos, suc_ℤ}
use lib.Signed.{le_z}
use lib.ListN.{length}
use Rattle.definition.specs.Answer.{Answer}
use Rattle.definition.specs.Limit.{max_rows, max_members, max_values, max_parameters, max_declarations, max_steps, max_depth}
use Rattle.definition.specs.Kind.{is_name, is_word, end, attribute, enum_word, union_word, atomic_word, static_word, star, open_paren, close_paren, open_bracket, close_bracket, open_brace, close_brace, comma, ellipsis, semicolon, colon, equals}
use Rattle.definition.specs.Name.{no_name}
use Rattle.definition.specs.Token.{Tokens, kind_at, number_at, left, need}
use Rattle.definition.specs.Constant.{constant}
use Rattle.definition.specs.Model.{Model}
use Rattle.definition.specs.RowKind.{void_kind, array_kind, function_kind, qualified_kind}
use Rattle.definition.specs.Row.{Row, pointer, array, composite, enumeration, function, typedef, Qualifiers, unqualified, Span, kind_of, target_of, is_some}
use Rattle.definition.specs.Table.{Member, Value, Parameter, Declaration, Storage, storage_number, noStorage, Table, State, Event, row_at, mark_of, skip, push_row, push_member, push_value, push_parameter, push_declaration}
use Rattle.definition.specs.Types.{typedef_row, composite_row, enum_row, equal_row, add, is_unqualified, qualify, resolved_kind}
use Rattle.definition.specs.Specifier.{Specifiers, no_specifiers, storing, qualifying, based_on, wording, names_type, is_storage_word, storage_of, is_qualifier_word, with_qualifier, is_ignored_word, is_type_word, combine, builtin}
use Rattle.definition.specs.Grammar.{DeclaratorStep, pointer_step, array_step, function_step, Declarator, named, unnamed, with_step, Levels, stands, needed}
use Rattle.definition.specs.Specifiers.{named_type, words_type, base_type, is_tag_word, tagged_type, specifiers_from, specifiers}
use Rattle.definition.specs.Declarator.{add_function, returned, apply, adjusted, qualifiers_from, qualifiers_here, one_more_step, stars_from, opens_declarator, bound_words, is_void_list, constant_bound, array_bound, parameter, parameters_end, parameters_from, parameters, suffixes_from, suffixes, direct₁, declarator₁}
use Rattle.definition.specs.Composite.{Body, define_body, add_body, tag_row, is_composite, noted, bit_width, member_declarator, member_declarators, anonymous_member, member_declaration, members_from, body, tagged_composite, untagged_composite, composite₁}
use Rattle.definition.specs.Enumeration.{close_enum, bare_enum, value_named, enumerator_value, enumerator, enumerators_from, enum_body, after_tag, enumeration₁}
use Rattle.definition.specs.Reader.{constant_here, levels, nested, skip_initialiser, initialiser, define_typedef, is_typedef, declared_row, declare, inner, init_declarator, init_declarators, declaration, separated, declarations_from, start, optional_semicolon, nothing_more, all_declarations, lone_declaration}
use lib.Dec.{eqb→eq}
use lib.Ieee.Fits.{and_i}
use Rattle.definition.specs.Arithmetic as Arithmetic
use Rattle.definition.specs.Arithmetic.{precedence, no_precedence, is_prefix}
use Rattle.definition.specs.Constant as Constant
use Rattle.definition.specs.Constant.{Readers, primary, operand₁, operators_from, chain₁, condition₁, depths}
use Rattle.definition.specs.Kind.{number, question}
use Rattle.definition.specs.Table.{bodied, used}
use Rattle.definition.specs.Enumeration.{enum_tag_row, define_enum, add_enum}
use Rattle.walks.proofs.WalkProof.{T_of}
use Rattle.walks.specs.Condition.{tag_at, opens_body, uses_enum, Orderly, none_too_wide, has_body, has_use, orderly}
use Rattle.definition_laws.specs.Every.{Every}
use Rattle.definition_laws.proofs.Every.{got!, no!, bool!, test!, option!, then!, any! }
use Rattle.walks.proofs.TextProof.{Depths, not_brace, is_brace, Read, on, into, outside, Ended, closes, notes, uses_tag, closes_tag}

-- ---- what neither moves on nor writes to the log

module _ (P : ℕ → List Event → Type 0) where
  abbrev Here : State → Type 0
  Here s = P s.at s.table.log

  abbrev Stays : {A : Type 0} → Answer (A × State) → Type 0
  Stays {A} r = Every (λ (x : A × State). P x.1.at x.1.table.log) r

  push_row_p : (r : Row) (s : State) → Here s → Stays (push_row r s)
  unfolding push_row
  push_row_p r s i = bool! (leb max_rows (length s.table.rows)) no! (got! i)

  push_member_p : (e : Member) (s : State) → Here s → Stays (push_member e s)
  unfolding push_member
  push_member_p e s i = bool! (leb max_members (length s.table.members)) no! (got! i)

  push_value_p : (e : Value) (s : State) → Here s → Stays (push_value e s)
  unfolding push_value
  push_value_p e s i = bool! (leb max_values (length s.table.values)) no! (got! i)

  push_parameter_p : (e : Parameter) (s : State) → Here s → Stays (push_parameter e s)
  unfolding push_parameter
  push_parameter_p e s i = bool! (leb max_parameters (length s.table.parameters)) no! (got! i)

  push_declaration_p : (e : Declaration) (s : State) → Here s → Stays (push_declaration e s)
  unfolding push_declaration
  push_declaration_p e s i = bool! (leb max_declarations (length s.table.declarations)) no! (got! i)

  add_p : (r : Row) (s : State) → Here s → Stays (add r s)
  unfolding add
  add_p r s i = option! (equal_row s.table r 0 s.table.rows) (λ n e. got! i) (push_row_p r s i)

  qualify_p : (q : Qualifiers) (n : ℕ) (s : State) → Here s → Stays (qualify q n s)
  unfolding qualify
  qualify_p q n s i = bool! (is_unqualified q) (got! i) (bool! (eqb (kind_of (row_at s.table n)) qualified_kind) (add_p _ s i) (add_p _ s i))

  named_type_p : (ts : Tokens) (m : Model) (s : State) → Here s → Stays (named_type ts m s)
  unfolding named_type
  named_type_p ts m s i = bool! (is_name (kind_at ts s.at)) (option! (typedef_row s.table (number_at ts s.at))
      (λ n e. got! i) (option! (builtin m (kind_at ts s.at)) (λ r z. add_p r s i) no!)) no!

  words_type_p : (m : Model) (p : Specifiers) (at : ℕ) (s : State) → Here s → Stays (words_type m p at s)
  unfolding words_type
  words_type_p m p at s i = option! p.base (λ n e. got! i) (option! (combine m p.words) (λ r z. add_p r s i) no!)

  base_type_p : (m : Model) (p : Specifiers) (at : ℕ) (s : State) → Here s → Stays (base_type m p at s)
  unfolding base_type
  base_type_p m p at s i = then! _ _ (words_type_p m p at s i) λ b h. qualify_p p.qualifiers b.0 b.1 h

  add_function_p : (r : Option ℕ) (v : Bool) (e : Span) (s : State) → Here s → Stays (add_function r v e s)
  unfolding add_function
  add_function_p r v e s i = option! (equal_row s.table (function r v e) 0 s.table.rows) (λ n z. got! i) (then! _ _ (push_row_p (function r v e) s i) λ x h. got! h)

  apply_p : (xs : List DeclaratorStep) (b : ℕ) (s : State) → Here s → Stays (apply xs b s)
  unfolding apply
  apply_p [] b s i = got! i
  apply_p (pointer_step q ∷ xs) b s i = then! _ _ (add_p (pointer b) s i) λ p h. then! _ _ (qualify_p q p.0 p.1 h) λ r k. apply_p xs r.0 r.1 k
  apply_p (array_step n ∷ xs) b s i = bool! (eqb (resolved_kind s.table b) void_kind) no! (then! _ _ (add_p (array b n) s i) λ r h. apply_p xs r.0 r.1 h)
  apply_p (function_step v e ∷ xs) b s i = bool! (eqb (resolved_kind s.table b) array_kind || eqb (resolved_kind s.table b) function_kind) no!
      (then! _ _ (add_function_p (returned s.table b) v e s i) λ r h. apply_p xs r.0 r.1 h)

  adjusted_p : (at b : ℕ) (s : State) → Here s → Stays (adjusted at b s)
  unfolding adjusted
  adjusted_p at b s i = bool! (eqb (resolved_kind s.table b) array_kind) (add_p _ s i)
      (bool! (eqb (resolved_kind s.table b) function_kind) (add_p (pointer b) s i) (bool! (eqb (resolved_kind s.table b) void_kind) no! (got! i)))

  tag_row_p : (u : Bool) (w : ℕ) (s : State) → Here s → Stays (tag_row u w s)
  unfolding tag_row
  tag_row_p u w s i = option! (composite_row u s.table w) (λ n e. got! i) (push_row_p _ s i)

  add_body_p : (u : Bool) (b : Body) (s : State) → Here s → Stays (add_body u b s)
  unfolding add_body
  add_body_p u b s i = option! (equal_row s.table (composite u no_name (some b.size) b.fields) 0 s.table.rows)
      (λ n e. got! i) (then! _ _ (push_row_p (composite u no_name (some b.size) b.fields) s i) λ n h. got! h)

  enum_tag_row_p : (bytes w : ℕ) (s : State) → Here s → Stays (enum_tag_row bytes w s)
  unfolding enum_tag_row
  enum_tag_row_p bytes w s i = option! (enum_row s.table w) (λ n e. got! i) (push_row_p _ s i)

  add_enum_p : (bytes : ℕ) (e : Span) (s : State) → Here s → Stays (add_enum bytes e s)
  unfolding add_enum
  add_enum_p bytes e s i = option! (equal_row s.table (enumeration no_name bytes e) 0 s.table.rows) (λ n z. got! i) (then! _ _ (push_row_p (enumeration no_name bytes e) s i) λ n h. got! h)

-- ---- constants: no brace is read

module _ (ts : Tokens) (P : ℕ → Type 0) (next-on : (i : ℕ) → is_brace (kind_at ts i) ≡ false → P i → P (i + 1)) (known : ℕ → Option ℤ) where
  abbrev Constants : Answer (ℤ × ℕ) → Type 0
  Constants r = Every (λ (x : ℤ × ℕ). P x.1) r

  record ReadersOk (next : Readers) : Type 0 where
    condition : (at : ℕ) → P at → Constants (next.condition at)
    chain : (low at : ℕ) → P at → Constants (next.chain low at)
    operand : (at : ℕ) → P at → Constants (next.operand at)

  -- a token that passes a test which no brace passes
  past : (f : ℕ → Bool) → f open_brace ≡ false → f close_brace ≡ false → (i : ℕ) → f (kind_at ts i) ≡ true → P i → P (i + 1)
  past f o c i z p = next-on i (not_brace f o c (kind_at ts i) z) p

  need-on : (mark i : ℕ) → eqb open_brace mark ≡ false → eqb close_brace mark ≡ false → P i → Every (λ j. P j) (need ts mark i)
  unfolding need
  need-on mark i o c p = test! (eqb (kind_at ts i) mark) (λ z. got! (past (λ k. eqb k mark) o c i z p)) (λ z. no!)

  -- braces have no precedence
  low-none : (low : ℕ) → ltb low 0 ≡ false
  low-none low = go (ltb low 0) refl
    where
      go : (b : Bool) → ltb low 0 ≡ b → b ≡ false
      go false z = refl
      go true z = let h = ltb→lt low 0 (T_of z) in absurd (omega arith)

  operator-past : (low i : ℕ) → ltb low (precedence (kind_at ts i)) ≡ true → P i → P (i + 1)
  unfolding precedence Arithmetic.operators Arithmetic.operator_in
  operator-past low i z p = past (λ k. ltb low (precedence k)) (low-none low) (low-none low) i z p

  module _ (next : Readers) (ok : ReadersOk next) where
    primary-on : (at : ℕ) → P at → Constants (primary ts known next at)
    unfolding primary is_name
    primary-on at p = test! (eqb (kind_at ts at) number) (λ z. then! _ _ any! λ v u. got! (past (λ k. eqb k number) refl refl at z p))
        (λ y. test! (is_name (kind_at ts at)) (λ z. option! (known (number_at ts at)) (λ v e. got! (past is_name refl refl at z p)) no!) (λ z. no!))

    operand_on : (at : ℕ) → P at → Constants (operand₁ ts known next at)
    unfolding operand₁ is_prefix Arithmetic.prefixes Arithmetic.prefix_in
    operand_on at p = test! (is_prefix (kind_at ts at))
        (λ z. then! _ _ (ok.operand (at + 1) (past is_prefix refl refl at z p)) λ r h. then! _ _ any! λ v u. got! h)
        (λ y. test! (eqb (kind_at ts at) open_paren)
        (λ z. then! _ _ (ok.condition (at + 1) (past (λ k. eqb k open_paren) refl refl at z p)) λ r h. then! _ _ (need-on close_paren r.1 refl refl h) λ a k. got! k)
        (λ z. primary-on at p))

    operators-on : (f low : ℕ) (x : ℤ) (at : ℕ) → P at → Constants (operators_from ts known next f low x at)
    unfolding operators_from
    operators-on zero low x at p = got! p
    operators-on (suc f) low x at p = test! (ltb low (precedence (kind_at ts at)))
        (λ z. then! _ _ (ok.chain (precedence (kind_at ts at)) (at + 1) (operator-past low at z p)) λ r h. then! _ _ any! λ v u.
        operators-on f low v r.1 h)
        (λ z. got! p)

    chain-on : (low at : ℕ) → P at → Constants (chain₁ ts known next low at)
    unfolding chain₁
    chain-on low at p = then! _ _ (operand_on at p) λ r h. operators-on (suc (left ts r.1)) low r.0 r.1 h

    condition-on : (at : ℕ) → P at → Constants (condition₁ ts known next at)
    unfolding condition₁
    condition-on at p = then! _ _ (chain-on no_precedence at p) λ c h. test! (eqb (kind_at ts c.1) question)
        (λ z. then! _ _ (ok.condition (c.1 + 1) (past (λ k. eqb k question) refl refl c.1 z h)) λ x g. then! _ _ (need-on colon x.1 refl refl g) λ a k.
        then! _ _ (ok.condition a k) λ y q. got! q)
        (λ z. got! h)

  level-on : (room : ℕ) → ReadersOk (Constant.level ts known room)
  unfolding Constant.level
  level-on zero = record { condition = λ at p. no!; chain = λ low at p. no!; operand = λ at p. no! }
  level-on (suc room) = let h = level-on room in record { condition = condition-on _ h; chain = chain-on _ h; operand = operand_on _ h }

  constant-on : (at : ℕ) → P at → Constants (constant ts known at)
  unfolding constant
  constant-on at p = (level-on depths).condition at p

-- ---- the readers of a level

module _ (ts : Tokens) where
  abbrev R : List ℕ → State → Type 0
  R qs s = Read ts qs s.at s.table.log

  abbrev On : {A : Type 0} → List ℕ → Answer (A × State) → Type 0
  On {A} qs r = Every (λ (x : A × State). R qs x.1) r

  abbrev To : List ℕ → Answer State → Type 0
  To qs r = Every (λ (s : State). R qs s) r

  -- a token that passes a test which no brace passes; a mark that is no brace
  over : (qs : List ℕ) (f : ℕ → Bool) → f open_brace ≡ false → f close_brace ≡ false → (s : State) → f (kind_at ts s.at) ≡ true → R qs s → R qs (skip s)
  over qs f o c s z r = on ts qs s.at s.table.log (not_brace f o c (kind_at ts s.at) z) r

  mark : (qs : List ℕ) (k : ℕ) → eqb open_brace k ≡ false → eqb close_brace k ≡ false → (s : State) → stands ts k s ≡ true → R qs s → R qs (skip s)
  mark qs k o c s z r = over qs (λ x. eqb x k) o c s z r

  name : (qs : List ℕ) (s : State) → is_name (kind_at ts s.at) ≡ true → R qs s → R qs (skip s)
  unfolding is_name
  name qs s z r = over qs is_name refl refl s z r

  word : (qs : List ℕ) (s : State) → is_word (kind_at ts s.at) ≡ true → R qs s → R qs (skip s)
  unfolding is_word
  word qs s z r = over qs is_word refl refl s z r

  needed-t : (qs : List ℕ) (k : ℕ) → eqb open_brace k ≡ false → eqb close_brace k ≡ false → (s : State) → R qs s → To qs (needed ts k s)
  unfolding needed need
  needed-t qs k o c s r = then! {P = λ i. Read ts qs i s.table.log} _ _ (test! (eqb (kind_at ts s.at) k) (λ z. got! (mark qs k o c s z r)) (λ z. no!)) λ i h. got! h

  -- the readers one level below keep it; a tag's keyword stands before it
  record LevelsOk (next : Levels) : Type 0 where
    composite : (qs : List ℕ) (u : Bool) (s : State) (j : ℕ) → s.at ≡ j + 1 → T (is_tag_word (kind_at ts j)) → R qs s → On qs (next.composite u s)
    enumeration : (qs : List ℕ) (s : State) (j : ℕ) → s.at ≡ j + 1 → kind_at ts j ≡ enum_word → R qs s → On qs (next.enumeration s)
    declarator : (qs : List ℕ) (n : ℕ) (s : State) → R qs s → On qs (next.declarator n s)
    direct : (qs : List ℕ) (n : ℕ) (s : State) → R qs s → On qs (next.direct n s)
    constant : (qs : List ℕ) (s : State) → R qs s → On qs (next.constant s)

  qualifiers-t : (qs : List ℕ) (f : ℕ) (q : Qualifiers) (s : State) → R qs s → R qs (qualifiers_from ts f q s).1
  unfolding qualifiers_from is_qualifier_word
  qualifiers-t qs zero q s r = r
  qualifiers-t qs (suc f) q s r = at (is_qualifier_word (kind_at ts s.at)) refl (stands ts atomic_word s) refl
      (λ h. qualifiers-t qs f (with_qualifier (kind_at ts s.at) q) (skip s) h) (λ h. qualifiers-t qs f q (skip s) h)
    where
      X : Qualifiers × State
      X = qualifiers_from ts f (with_qualifier (kind_at ts s.at) q) (skip s)

      Y : Qualifiers × State
      Y = qualifiers_from ts f q (skip s)

      at : (b : Bool) → is_qualifier_word (kind_at ts s.at) ≡ b → (c : Bool) → stands ts atomic_word s ≡ c → (R qs (skip s) → R qs X.1) → (R qs (skip s) → R qs Y.1)
          → R qs (elim b as (λ z. Qualifiers × State) [ true ↦ X | false ↦ elim c as (λ z. Qualifiers × State) [ true ↦ Y | false ↦ (q, s) ] ]).1
      at true z c y h k = h (over qs is_qualifier_word refl refl s z r)
      at false z true y h k = k (mark qs atomic_word refl refl s y r)
      at false z false y h k = r

  bound-t : (qs : List ℕ) (f : ℕ) (s : State) → R qs s → R qs (bound_words ts f s)
  unfolding bound_words is_qualifier_word
  bound-t qs zero s r = r
  bound-t qs (suc f) s r = at (stands ts static_word s || (is_qualifier_word (kind_at ts s.at) || stands ts atomic_word s)) refl (λ h. bound-t qs f (skip s) h)
    where
      at : (b : Bool) → stands ts static_word s || (is_qualifier_word (kind_at ts s.at) || stands ts atomic_word s) ≡ b → (R qs (skip s) → R qs (bound_words ts f (skip s)))
          → R qs (elim b as (λ z. State) [ true ↦ bound_words ts f (skip s) | false ↦ s ])
      at true z h = h (over qs (λ k. eqb k static_word || (is_qualifier_word k || eqb k atomic_word)) refl refl s z r)
      at false z h = r

  module _ (m : Model) (next : Levels) (ok : LevelsOk next) (qs : List ℕ) where
    P : ℕ → List Event → Type 0
    P at log = Read ts qs at log

    tagged-word : (k j : ℕ) (s : State) → s.at ≡ j + 1 → k ≡ kind_at ts j → T (is_tag_word k) → R qs s → On qs (tagged_type ts m next k s)
    unfolding tagged_type
    tagged-word k j s e q t r = test! (eqb k enum_word) (λ z. ok.enumeration qs s j e (sym q ∙ eqb→eq k enum_word (T_of z)) r)
        (λ z. ok.composite qs (eqb k union_word) s j e (subst (λ x. T (is_tag_word x)) q t) r)

    specifiers_from-t : (f : ℕ) (p : Specifiers) (s : State) → R qs s → On qs (specifiers_from ts m next f p s)
    unfolding specifiers_from
    specifiers_from-t zero p s r = got! r
    specifiers_from-t (suc f) p s r = let k = kind_at ts s.at in
        test! (is_word k) (λ w. (let i = word qs s w r in
        bool! (is_storage_word k) (specifiers_from-t f (storing p (storage_of k)) (skip s) i)
        (bool! (is_qualifier_word k) (specifiers_from-t f (qualifying p (with_qualifier k p.qualifiers)) (skip s) i)
        (bool! (is_ignored_word k) (specifiers_from-t f p (skip s) i)
        (bool! (is_type_word k) (bool! (is_some p.base) no! (specifiers_from-t f (wording p k) (skip s) i))
        (test! (is_tag_word k)
        (λ z. bool! (names_type p) no! (then! _ _ (tagged-word k s.at (skip s) refl refl (T_of z) i) λ b h. specifiers_from-t f (based_on p b.0) b.1 h))
        (λ z. bool! (names_type p) (got! r) (then! _ _ (named_type_p (λ at log. Read ts qs (at + 1) log) ts m s i) λ b h. specifiers_from-t f (based_on p b.0) (skip b.1) h))))))))
        (λ w. bool! (eqb k attribute) no! (got! r))

    specifiers-t : (s : State) → R qs s → On qs (specifiers ts m next s)
    unfolding specifiers
    specifiers-t s r = specifiers_from-t (suc (left ts s.at)) no_specifiers s r

    -- ---- declarators

    one_more_t : (n : ℕ) (s : State) → R qs s → To qs (one_more_step n s)
    unfolding one_more_step
    one_more_t n s r = bool! (leb max_steps n) no! (got! r)

    stars-t : (f n : ℕ) (xs : List Qualifiers) (s : State) → R qs s → On qs (stars_from ts f n xs s)
    unfolding stars_from
    stars-t zero n xs s r = got! r
    stars-t (suc f) n xs s r = test! (stands ts star s)
        (λ z. then! _ _ (one_more_t (n + length xs) (skip s) (mark qs star refl refl s z r)) λ s₁ h. stars-t f n ((qualifiers_here ts s₁).0 ∷ xs) (qualifiers_here ts s₁).1
        (qualifiers-t qs (suc (left ts s₁.at)) unqualified s₁ h))
        (λ z. got! r)

    constant_bound-t : (s : State) → R qs s → On qs (constant_bound ts m next s)
    unfolding constant_bound
    constant_bound-t s r = then! _ _ (ok.constant qs s r) λ v h. then! _ _ (needed-t qs close_bracket refl refl v.1 h) λ s' k. then! _ _ any! λ n u. got! k

    array_bound-t : (s : State) → R qs s → On qs (array_bound ts m next s)
    unfolding array_bound
    array_bound-t s₀ r₀ = let s = bound_words ts (suc (left ts s₀.at)) s₀ in let r = bound-t qs (suc (left ts s₀.at)) s₀ r₀ in
        test! (stands ts close_bracket s) (λ z. got! (mark qs close_bracket refl refl s z r))
        (λ z. bool! (stands ts star s) (then! _ _ any! λ x u. no!) (constant_bound-t s r))

    parameter-t : (s : State) → R qs s → Every (λ (x : ℕ × ℕ × State). R qs x.2) (parameter ts m next s)
    unfolding parameter P
    parameter-t s i = then! _ _ (specifiers-t s i) λ p h. then! _ _ (base_type_p P m p.0 s.at p.1 h) λ b k. then! _ _ (ok.declarator qs 0 b.1 k) λ d g.
        then! _ _ (apply_p P d.0.steps b.0 d.1 g) λ r f. got! f

    parameters_end-t : (v : Bool) (first n : ℕ) (s : State) → R qs s → On qs (parameters_end ts m next v first n s)
    unfolding parameters_end
    parameters_end-t v first n s r = then! _ _ (needed-t qs close_paren refl refl s r) λ s' h. got! h

    parameters_from-t : (f first n : ℕ) (s : State) → R qs s → On qs (parameters_from ts m next f first n s)
    unfolding parameters_from P
    parameters_from-t zero first n s r = parameters_end-t false first n s r
    parameters_from-t (suc f) first n s r = test! (stands ts ellipsis s) (λ z. parameters_end-t true first n (skip s) (mark qs ellipsis refl refl s z r))
        (λ z. then! _ _ (parameter-t s r) λ p h. bool! (is_void_list ts n p.1 p.0 p.2) (parameters_end-t false first n p.2 h)
        (then! _ _ (adjusted_p P s.at p.0 p.2 h) λ a k. then! _ _ (push_parameter_p P (record { row = mark_of first; type = a.0; name = p.1 }) a.1 k) λ e g.
        test! (stands ts comma e.1) (λ y. parameters_from-t f first (suc n) (skip e.1) (mark qs comma refl refl e.1 y g)) (λ y. parameters_end-t false first (suc n) e.1 g)))

    parameters-t : (s : State) → R qs s → On qs (parameters ts m next s)
    unfolding parameters
    parameters-t s r = test! (stands ts close_paren s) (λ z. got! (mark qs close_paren refl refl s z r)) (λ z. parameters_from-t (suc (left ts s.at)) (length s.table.parameters) 0 s r)

    suffixes_from-t : (f n : ℕ) (d : Declarator) (s : State) → R qs s → On qs (suffixes_from ts m next f n d s)
    unfolding suffixes_from
    suffixes_from-t zero n d s r = got! r
    suffixes_from-t (suc f) n d s r = test! (stands ts open_bracket s)
        (λ z. then! _ _ (one_more_t (n + length d.steps) (skip s) (mark qs open_bracket refl refl s z r)) λ s₁ h. then! _ _ (array_bound-t s₁ h) λ b k.
        suffixes_from-t f n (with_step d (array_step b.0)) b.1 k)
        (λ y. test! (stands ts open_paren s)
        (λ z. then! _ _ (one_more_t (n + length d.steps) (skip s) (mark qs open_paren refl refl s z r)) λ s₁ h. then! _ _ (parameters-t s₁ h) λ p k. suffixes_from-t f n (with_step d p.0) p.1 k)
        (λ z. got! r))

    suffixes-t : (n : ℕ) (d : Declarator) (s : State) → R qs s → On qs (suffixes ts m next n d s)
    unfolding suffixes
    suffixes-t n d s r = suffixes_from-t (suc (left ts s.at)) n d s r

    paren_first : (s : State) → opens_declarator ts m s ≡ true → R qs s → R qs (skip s)
    unfolding opens_declarator
    paren_first s z r = mark qs open_paren refl refl s (left_true (stands ts open_paren s) _ z) r
      where
        left_true : (a b : Bool) → a && b ≡ true → a ≡ true
        left_true true b e = refl
        left_true false b e = e

    direct-t : (n : ℕ) (s : State) → R qs s → On qs (direct₁ ts m next n s)
    unfolding direct₁
    direct-t n s r = test! (is_name (kind_at ts s.at)) (λ z. suffixes-t n (named (number_at ts s.at)) (skip s) (name qs s z r))
        (λ y. test! (opens_declarator ts m s)
        (λ z. then! _ _ (ok.declarator qs n (skip s) (paren_first s z r)) λ d h. then! _ _ (needed-t qs close_paren refl refl d.1 h) λ s' k. suffixes-t n d.0 s' k)
        (λ z. suffixes-t n unnamed s r))

    declarator-t : (n : ℕ) (s : State) → R qs s → On qs (declarator₁ ts m next n s)
    unfolding declarator₁
    declarator-t n s i = then! _ _ (stars-t (suc (left ts s.at)) n [] s i) λ r h. then! _ _ (ok.direct qs (n + length r.0) r.1 h) λ d k. got! k

    -- ---- members

    bit_width-t : (at : ℕ) (s : State) → R qs s → On qs (bit_width ts m next at s)
    unfolding bit_width
    bit_width-t at s r = test! (stands ts colon s) (λ z. then! _ _ (ok.constant qs (skip s) (mark qs colon refl refl s z r)) λ v h. then! _ _ any! λ w u. got! h) (λ z. got! r)

    member_declarator-t : (first b : ℕ) (s : State) → R qs s → To qs (member_declarator ts m next first b s)
    unfolding member_declarator P
    member_declarator-t first b s i = bool! (stands ts colon s)
        (then! _ _ (bit_width-t s.at s i) λ w h. then! _ _ (push_member_p P _ w.1 h) λ e k. got! k)
        (then! _ _ (ok.declarator qs 0 s i) λ d h. then! _ _ (apply_p P d.0.steps b d.1 h) λ r k. then! _ _ (bit_width-t s.at r.1 k) λ w g.
        bool! (eqb d.0.name no_name) no! (then! _ _ (push_member_p P _ w.1 g) λ e f. got! f))

    member_declarators-t : (f first b : ℕ) (s : State) → R qs s → To qs (member_declarators ts m next f first b s)
    unfolding member_declarators
    member_declarators-t zero first b s r = no!
    member_declarators-t (suc f) first b s r = then! _ _ (member_declarator-t first b s r) λ s₁ h.
        test! (stands ts comma s₁) (λ z. member_declarators-t f first b (skip s₁) (mark qs comma refl refl s₁ z h)) (λ z. needed-t qs semicolon refl refl s₁ h)

    anonymous_member-t : (first b at : ℕ) (s : State) → R qs s → To qs (anonymous_member ts m next first b at s)
    unfolding anonymous_member P
    anonymous_member-t first b at s r = bool! (is_composite (resolved_kind s.table b)) (then! _ _ (push_member_p P _ s r) λ e h. got! h) no!

    member_declaration-t : (first : ℕ) (s : State) → R qs s → To qs (member_declaration ts m next first s)
    unfolding member_declaration P
    member_declaration-t first s r = then! _ _ (specifiers-t s r) λ p h. bool! (eqb (storage_number p.0.storage) (storage_number noStorage))
        (then! _ _ (base_type_p P m p.0 s.at p.1 h) λ b k.
        test! (stands ts semicolon b.1) (λ z. anonymous_member-t first b.0 s.at (skip b.1) (mark qs semicolon refl refl b.1 z k))
        (λ z. member_declarators-t (suc (left ts s.at)) first b.0 b.1 k))
        no!

  -- ---- bodies

  ends : (q : ℕ) (qs : List ℕ) (s : State) → stands ts close_brace s ≡ true → R (q ∷ qs) s → Ended ts q qs (s.at + 1) s.table.log
  ends q qs s z r = record { brace = s.at; next = refl; is_brace' = eqb→eq (kind_at ts s.at) close_brace (T_of z); inside = r }

  abbrev Ends : ℕ → List ℕ → State → Type 0
  Ends q qs s = Ended ts q qs s.at s.table.log

  module _ (m : Model) (next : Levels) (ok : LevelsOk next) where
    members-t : (q : ℕ) (qs : List ℕ) (f first : ℕ) (s : State) → R (q ∷ qs) s → Every (λ x. Ends q qs x) (members_from ts m next f first s)
    unfolding members_from
    members-t q qs zero first s r = no!
    members-t q qs (suc f) first s r = test! (stands ts close_brace s) (λ z. got! (ends q qs s z r)) (λ y. bool! (stands ts end s) no!
        (test! (stands ts semicolon s) (λ z. members-t q qs f first (skip s) (mark (q ∷ qs) semicolon refl refl s z r))
        (λ z. then! _ _ (member_declaration-t m next ok (q ∷ qs) first s r) λ s₁ h. members-t q qs f first s₁ h)))

    -- layout's note
    noted-t : (q : ℕ) (qs : List ℕ) (at : ℕ) (b : Bool) (t : Table) → Ended ts q qs at t.log → Ended ts q qs at (noted b t).log
    unfolding noted
    noted-t q qs at true t e = e
    noted-t q qs at false t e = record { brace = e.brace; next = e.next; is_brace' = e.is_brace'; inside = notes ts (q ∷ qs) e.brace t.log e.inside }

    body-t : (q : ℕ) (qs : List ℕ) (u : Bool) (at : ℕ) (s : State) → R (q ∷ qs) s → Every (λ (x : Body × State). Ends q qs x.1) (body ts m next u at s)
    unfolding body
    body-t q qs u at s r = let first = length s.table.members in
        then! _ _ (members-t q qs (suc (left ts s.at)) first s r) λ s₁ h. then! _ _ any! λ l p. got! (noted-t q qs s₁.at _ s₁.table h)

    enter-t : (qs : List ℕ) (s : State) → stands ts open_brace s ≡ true → R qs s → R ((s.at + 1) ∷ qs) (skip s)
    enter-t qs s z r = into ts qs s.at s.table.log (eqb→eq (kind_at ts s.at) open_brace (T_of z)) r

    untagged_t : (qs : List ℕ) (u : Bool) (at : ℕ) (s : State) → R qs s → On qs (untagged_composite ts m next u at s)
    unfolding untagged_composite
    untagged_t qs u at s r = test! (stands ts open_brace s)
        (λ z. then! _ _ (body-t (s.at + 1) qs u at (skip s) (enter-t qs s z r)) λ b h.
        add_body_p (λ at log. Read ts qs at log) u b.0 b.1 (closes ts (s.at + 1) qs b.1.at b.1.table.log h)) (λ z. no!)

    module _ (c : Orderly ts) where
      tagged-t : (qs : List ℕ) (u : Bool) (w at j : ℕ) (s : State) → s.at ≡ j + 2 → T (is_tag_word (kind_at ts j)) → T (is_name (kind_at ts (j + 1))) → tag_at ts j ≡ w
          → R qs s → On qs (tagged_composite ts m next u w at s)
      unfolding tagged_composite define_body opens_body
      tagged-t qs u w at j s e tag isname q r = then! _ _ (tag_row_p (λ at log. (at ≡ j + 2) × Read ts qs at log) u w s (e, r)) λ x h. test! (stands ts open_brace x.1)
          (λ z.
          let brace : T (eqb (kind_at ts (j + 2)) open_brace) = subst (λ k. T (eqb (kind_at ts k) open_brace)) h.0 (T_of z) in
          let opens : T (opens_body ts j) = and_i (is_tag_word (kind_at ts j)) (is_name (kind_at ts (j + 1)) && eqb (kind_at ts (j + 2)) open_brace) tag
          (and_i (is_name (kind_at ts (j + 1))) (eqb (kind_at ts (j + 2)) open_brace) isname brace) in
          let first : x.1.at + 1 ≡ j + 3 = (let y = h.0 in omega arith) in
          then! _ _ (body-t (x.1.at + 1) qs u at (skip x.1) (enter-t qs x.1 z h.1)) λ b k.
          got! (closes_tag ts c qs j w b.1.at b.1.table.log opens q (subst (λ n. Ended ts n qs b.1.at b.1.table.log) first k)))
          (λ z. got! h.1)

      composite-t : (qs : List ℕ) (u : Bool) (s : State) (j : ℕ) → s.at ≡ j + 1 → T (is_tag_word (kind_at ts j)) → R qs s → On qs (composite₁ ts m next u s)
      unfolding composite₁
      composite-t qs u s j e tag r = test! (is_name (kind_at ts s.at))
          (λ z. tagged-t qs u (number_at ts s.at) s.at j (skip s) (omega arith) tag (subst (λ k. T (is_name (kind_at ts k))) e (T_of z)) (ap (λ k. number_at ts k) (sym e)) (name qs s z r))
          (λ z. untagged_t qs u s.at s r)

      -- ---- enums

      enumerator_value-t : (qs : List ℕ) (v : ℤ) (s : State) → R qs s → On qs (enumerator_value ts m next v s)
      unfolding enumerator_value
      enumerator_value-t qs v s r = test! (stands ts equals s) (λ z. ok.constant qs (skip s) (mark qs equals refl refl s z r)) (λ z. got! r)

      enumerator-t : (qs : List ℕ) (first : ℕ) (v : ℤ) (s : State) → R qs s → On qs (enumerator ts m next first v s)
      unfolding enumerator
      enumerator-t qs first v s r = test! (is_name (kind_at ts s.at))
          (λ z. then! _ _ (enumerator_value-t qs v (skip s) (name qs s z r)) λ x h. then! _ _ any! λ y u.
          then! _ _ (push_value_p (λ at log. Read ts qs at log) _ x.1 h) λ e k. got! k) (λ z. no!)

      enumerators_t : (q : ℕ) (qs : List ℕ) (f first : ℕ) (v : ℤ) (s : State) → R (q ∷ qs) s → Every (λ x. Ends q qs x) (enumerators_from ts m next f first v s)
      unfolding enumerators_from needed need
      enumerators_t q qs zero first v s r = no!
      enumerators_t q qs (suc f) first v s r = test! (stands ts close_brace s) (λ z. got! (ends q qs s z r))
          (λ y. then! _ _ (enumerator-t (q ∷ qs) first v s r) λ e h. test! (stands ts comma e.1) (λ z. enumerators_t q qs f first (suc_ℤ e.0) (skip e.1) (mark (q ∷ qs) comma refl refl e.1 z h))
          (λ z. then! {P = λ i. Ended ts q qs i e.1.table.log} _ _ (test! (eqb (kind_at ts e.1.at) close_brace) (λ x. got! (ends q qs e.1 x h)) (λ x. no!)) λ i k. got! k))

      -- an enum's tag, whose keyword stands two tokens before
      record EnumTag (w at : ℕ) : Type 0 where
        keyword : ℕ
        place : at ≡ keyword + 2
        is_enum : kind_at ts keyword ≡ enum_word
        is_tag : T (is_name (kind_at ts (keyword + 1)))
        is_name' : tag_at ts keyword ≡ w

      named_not : {X : Type 0} (w : ℕ) → w ≡ no_name → eqb w no_name ≡ false → X
      named_not w e z = absurd (subst T z (subst (λ x. T (eqb x no_name)) (sym e) tt))

      enum_body-t : (qs : List ℕ) (w at : ℕ) (s : State) → s.at ≡ at + 1 → kind_at ts at ≡ open_brace → (w ≡ no_name) ⊎ EnumTag w at → R (s.at ∷ qs) s → On qs (enum_body ts m next w s)
      unfolding enum_body close_enum define_enum opens_body is_tag_word
      enum_body-t qs w at s e brace t r = let first = length s.table.values in
          then! _ _ (enumerators_t s.at qs (suc (left ts s.at)) first (pos 0) s r) λ s₁ h.
          test! (eqb w no_name) (λ z. add_enum_p (λ a log. Read ts qs a log) _ _ s₁ (closes ts s.at qs s₁.at s₁.table.log h))
          (λ z. then! _ _ (enum_tag_row_p (λ a log. Ended ts s.at qs a log) _ w s₁ h) λ x k. got! (tagged z t x.1.at x.1.table.log k))
        where
          tagged : eqb w no_name ≡ false → (w ≡ no_name) ⊎ EnumTag w at → (a : ℕ) (log : List Event) → Ended ts s.at qs a log → Read ts qs a (bodied w ∷ log)
          tagged z (inl n) a log k = named_not w n z
          tagged z (inr g) a log k =
              let j = g.keyword in
              let p = g.place in
              let here : s.at ≡ j + 3 = omega arith in
              let o : T (opens_body ts j) = and_i (is_tag_word (kind_at ts j)) (is_name (kind_at ts (j + 1)) && eqb (kind_at ts (j + 2)) open_brace)
              (subst (λ x. T (is_tag_word x)) (sym g.is_enum) tt)
              (and_i (is_name (kind_at ts (j + 1))) (eqb (kind_at ts (j + 2)) open_brace) g.is_tag (subst (λ x. T (eqb x open_brace)) (sym (ap (λ y. kind_at ts y) (sym p) ∙ brace)) tt)) in
              closes_tag ts c qs j w a log o g.is_name' (subst (λ n. Ended ts n qs a log) here k)

      bare_enum-t : (qs : List ℕ) (w at : ℕ) (s : State) → stands ts open_brace s ≡ false → (w ≡ no_name) ⊎ EnumTag w s.at → R qs s → On qs (bare_enum m w at s)
      unfolding bare_enum uses_enum
      bare_enum-t qs w at s z t r = test! (eqb w no_name) (λ y. no!)
          (λ y. then! _ _ (enum_tag_row_p (λ a log. (a ≡ s.at) × Read ts qs a log) _ w s (refl, r)) λ x h. got! (tagged y t x.1.at x.1.table.log h))
        where
          tagged : eqb w no_name ≡ false → (w ≡ no_name) ⊎ EnumTag w s.at → (a : ℕ) (log : List Event) → (a ≡ s.at) × Read ts qs a log → Read ts qs a (used w ∷ log)
          tagged y (inl n) a log k = named_not w n y
          tagged y (inr g) a log k =
              let j = g.keyword in
              let p : a ≡ j + 2 = k.0 ∙ g.place in
              let u : T (uses_enum ts j) = and_i (eqb (kind_at ts j) enum_word) (is_name (kind_at ts (j + 1)) && not (eqb (kind_at ts (j + 2)) open_brace))
              (subst (λ x. T (eqb x enum_word)) (sym g.is_enum) tt)
              (and_i (is_name (kind_at ts (j + 1))) (not (eqb (kind_at ts (j + 2)) open_brace)) g.is_tag
              (subst (λ x. T (not (eqb (kind_at ts x) open_brace))) g.place (subst (λ b. T (not b)) (sym z) tt))) in
              subst (λ n. Read ts qs n (used w ∷ log)) (sym p) (uses_tag ts qs j w log u g.is_name' (subst (λ n. Read ts qs n log) p k.1))

      after_tag-t : (qs : List ℕ) (w at : ℕ) (s : State) → (w ≡ no_name) ⊎ EnumTag w s.at → R qs s → On qs (after_tag ts m next w at s)
      unfolding after_tag
      after_tag-t qs w at s t r = bool! (stands ts colon s) no! (test! (stands ts open_brace s)
          (λ z. enum_body-t qs w s.at (skip s) refl (eqb→eq (kind_at ts s.at) open_brace (T_of z)) t (enter-t qs s z r))
          (λ z. bare_enum-t qs w at s z t r))

      enumeration-t : (qs : List ℕ) (s : State) (j : ℕ) → s.at ≡ j + 1 → kind_at ts j ≡ enum_word → R qs s → On qs (enumeration₁ ts m next s)
      unfolding enumeration₁
      enumeration-t qs s j e tag r = test! (is_name (kind_at ts s.at))
          (λ z. after_tag-t qs (number_at ts s.at) s.at (skip s)
          (inr (record { keyword = j; place = omega arith; is_enum = tag; is_tag = subst (λ k. T (is_name (kind_at ts k))) e (T_of z); is_name' = ap (λ k. number_at ts k) (sym e) })) (name qs s z r))
          (λ z. after_tag-t qs no_name s.at s (inl refl) r)

  -- ---- all levels

  module _ (m : Model) (c : Orderly ts) where
    constant-t : (qs : List ℕ) (s : State) → R qs s → On qs (constant_here ts s)
    unfolding constant_here
    constant-t qs s r = then! _ _ (constant-on ts (λ i. Read ts qs i s.table.log) (λ i z h. on ts qs i s.table.log z h) (λ w. value_named w s.table.values) s.at r) λ x h. got! h

    levels-t : (d : ℕ) → LevelsOk (levels ts m d)
    unfolding levels
    levels-t zero = record { composite = λ qs u s j e t r. no!; enumeration = λ qs s j e t r. no!; declarator = λ qs n s r. no!; direct = λ qs n s r. no!; constant = λ qs s r. no! }
    levels-t (suc d) = let ok = levels-t d in record {
      composite = λ qs u s j e t r. composite-t m (levels ts m d) ok c qs u s j e t r;
      enumeration = λ qs s j e t r. enumeration-t m (levels ts m d) ok c qs s j e t r;
      declarator = λ qs n s r. declarator-t m (levels ts m d) ok qs n s r;
      direct = λ qs n s r. direct-t m (levels ts m d) ok qs n s r;
      constant = λ qs s r. constant-t qs s r;
    }

    inner-t : LevelsOk (inner ts m)
    inner-t = levels-t (max_depth - 1)

    -- ---- declarations

    jump : (s : State) → R [] s → R [] (skip s)
    jump s r = outside ts s.at (s.at + 1) s.table.log (omega arith) r

    skip-t : (f : ℕ) (d : ℤ) (s : State) → R [] s → R [] (skip_initialiser ts f d s)
    unfolding skip_initialiser
    skip-t zero d s r = r
    skip-t (suc f) d s r = at (stands ts end s || ((stands ts comma s || stands ts semicolon s) && le_z d (pos 0))) (skip-t f (nested (kind_at ts s.at) d) (skip s) (jump s r))
      where
        X : State
        X = skip_initialiser ts f (nested (kind_at ts s.at) d) (skip s)

        at : (b : Bool) → R [] X → R [] (elim b as (λ z. State) [ true ↦ s | false ↦ X ])
        at true h = r
        at false h = h

    initialiser-t : (s : State) → R [] s → R [] (initialiser ts s)
    unfolding initialiser
    initialiser-t s r = at (stands ts equals s)
      where
        at : (b : Bool) → R [] (elim b as (λ z. State) [ true ↦ skip_initialiser ts (suc (left ts s.at)) (pos 0) (skip s) | false ↦ s ])
        at true = skip-t (suc (left ts s.at)) (pos 0) (skip s) (jump s r)
        at false = r

    Q : ℕ → List Event → Type 0
    Q at log = Read ts [] at log

    typedef-t : (w b at : ℕ) (s : State) → R [] s → On [] (define_typedef w b at s)
    unfolding define_typedef Q
    typedef-t w b at s r = option! (typedef_row s.table w) (λ n e. bool! (eqb (target_of (row_at s.table n)) b) (got! r) no!) (push_row_p Q (typedef w b) s r)

    declared_row-t : (k : Storage) (w b at : ℕ) (s : State) → R [] s → On [] (declared_row k w b at s)
    unfolding declared_row
    declared_row-t k w b at s r = bool! (is_typedef k) (typedef-t w b at s r) (got! r)

    declare-t : (k : Storage) (b w : ℕ) (s : State) → R [] s → To [] (declare k b w s)
    unfolding declare Q
    declare-t k b w s r = then! _ _ (push_declaration_p Q _ s r) λ d h. got! h

    init_declarator-t : (k : Storage) (b : ℕ) (s : State) → R [] s → To [] (init_declarator ts m k b s)
    unfolding init_declarator Q
    init_declarator-t k b s i = then! _ _ (inner-t.declarator [] 0 s i) λ d h. then! _ _ (apply_p Q d.0.steps b d.1 h) λ r g. bool! (eqb d.0.name no_name) no!
        (then! _ _ (declared_row-t k d.0.name r.0 s.at (initialiser ts r.1) (initialiser-t r.1 g)) λ n f. declare-t k n.0 d.0.name n.1 f)

    init_declarators-t : (f : ℕ) (k : Storage) (b : ℕ) (s : State) → R [] s → To [] (init_declarators ts m f k b s)
    unfolding init_declarators
    init_declarators-t zero k b s r = no!
    init_declarators-t (suc f) k b s r = then! _ _ (init_declarator-t k b s r) λ s₁ h. bool! (stands ts comma s₁) (init_declarators-t f k b (skip s₁) (jump s₁ h)) (got! h)

    declaration-t : (s : State) → R [] s → To [] (declaration ts m s)
    unfolding declaration Q
    declaration-t s r = then! _ _ (specifiers-t m (inner ts m) inner-t [] s r) λ p h. then! _ _ (base_type_p Q m p.0 s.at p.1 h) λ b k.
        bool! (stands ts semicolon b.1 || stands ts end b.1) (bool! (is_typedef p.0.storage) no! (declare-t p.0.storage b.0 no_name b.1 k))
        (init_declarators-t (suc (left ts s.at)) p.0.storage b.0 b.1 k)

    separated-t : (s : State) → R [] s → To [] (separated ts m s)
    unfolding separated
    separated-t s r = bool! (stands ts semicolon s) (got! (jump s r)) (bool! (stands ts end s) (got! r) no!)

    declarations-t : (f : ℕ) (s : State) → R [] s → To [] (declarations_from ts m f s)
    unfolding declarations_from
    declarations-t zero s r = got! r
    declarations-t (suc f) s r = bool! (stands ts end s) (got! r) (bool! (stands ts semicolon s) (declarations-t f (skip s) (jump s r))
        (then! _ _ (declaration-t s r) λ s₁ h. then! _ _ (separated-t s₁ h) λ s₂ k. declarations-t f s₂ k))

    at-start : R [] (start ts m)
    unfolding has_body has_use none_too_wide orderly Depths
    at-start = record { depths = tt; bodies = λ w h. absurd h; uses = λ w h. absurd h; order = λ h. tt }

    pub all-t : To [] (all_declarations ts m)
    unfolding all_declarations
    all-t = declarations-t (suc (left ts 0)) (start ts m) at-start

    pub lone-t : To [] (lone_declaration ts m)
    unfolding lone_declaration nothing_more
    lone-t = then! _ _ (declaration-t (start ts m) at-start) λ s h. bool! (stands ts end (optional_semicolon ts m s)) (got! (semicolon-t s h)) no!
      where
        semicolon-t : (s : State) → R [] s → R [] (optional_semicolon ts m s)
        semicolon-t s r = unfold optional_semicolon in at (stands ts semicolon s)
          where
            at : (b : Bool) → R [] (elim b as (λ z. State) [ true ↦ skip s | false ↦ s ])
            at true = jump s r
            at false = r
