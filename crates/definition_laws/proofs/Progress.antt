-- Every reader goes on among the tokens, at every level. Assumes nothing.
use mathlib.Core.Path.{◌≡◌, refl}
use mathlib.Core.Bool.{Bool, true, false, ◌||◌, ◌&&◌}
use mathlib.Core.List.{List, []}
use Prim.Native.Nat.{ℕ, zero, suc, ◌+◌, ◌-◌, ◌≤◌, ◌<◌}
use native.Mathlib.Omega.{arith}
use native.Mathlib.Nat.{le_refl}
use lib.Dec.{eqb, leb}
use lib.IntN.{ℤ, pos}
use lib.Signed.{le_z}
use lib.ListN.{length}
use Rattle.definition.specs.Answer.{Answer}
use Rattle.definition.specs.Limit.{max_steps, max_depth}
use Rattle.definition.specs.Kind.{end, attribute, enum_word, union_word, is_name, is_word, atomic_word, static_word, star, open_paren, close_paren, open_bracket, close_bracket, open_brace, close_brace, comma, ellipsis, semicolon, colon, equals}
use Rattle.definition.specs.Name.{no_name}
use Rattle.definition.specs.Token.{Tokens, kind_at, left}
use Rattle.definition.specs.Model.{Model}
use Rattle.definition.specs.Row.{Qualifiers, unqualified, is_some}
use Rattle.definition.specs.Table.{Storage, storage_number, noStorage, State, skip}
use Rattle.definition.specs.Types.{resolved_kind}
use Rattle.definition.specs.Specifier.{Specifiers, names_type, is_storage_word, is_qualifier_word, with_qualifier, is_ignored_word, is_type_word}
use Rattle.definition.specs.Specifiers.{is_tag_word, tagged_type, specifiers_from, specifiers}
use Rattle.definition.specs.Grammar.{Declarator, unnamed, Levels, stands, needed}
use Rattle.definition.specs.Declarator.{qualifiers_from, qualifiers_here, one_more_step, stars_from, opens_declarator, bound_words, constant_bound, array_bound, is_void_list, parameter, parameters_end, parameters_from, parameters, suffixes_from, suffixes, direct₁, declarator₁}
use Rattle.definition.specs.Composite.{define_body, is_composite, bit_width, member_declarator, member_declarators, anonymous_member, member_declaration, members_from, body, tagged_composite, untagged_composite, composite₁}
use Rattle.definition.specs.Enumeration.{enumerator_value, enumerator, enumerators_from, enum_body, after_tag, enumeration₁}
use Rattle.definition.specs.Reader.{constant_here, levels, nested, skip_initialiser, initialiser, is_typedef, init_declarator, init_declarators, declaration, separated, declarations_from}
use Rattle.definition_laws.specs.Every.{Every}
use Rattle.definition_laws.specs.Progress.{On, Past, MovesOn, MovesPast}
use Rattle.definition_laws.proofs.Every.{got!, no!, bool!, then!, weaker!, any! }
use Rattle.definition_laws.proofs.ConstantProgress.{need-on, constant-past}
use Rattle.definition_laws.proofs.TableProgress.{push_member-stays, push_value-stays, push_parameter-stays, named_type-stays, base_type-stays, apply-stays, adjusted-stays, tag_row-stays, add_body-stays, bare_enum-stays, bare_enum-alone, close_enum-stays, declared_row-stays, declare-stays}

-- what goes on from an index goes on from every earlier one
module _ {A : Type 0} {i j : ℕ} {r : Answer (A × State)} where
  pub on-from : On j r → i ≤ j → On i r
  on-from h p = weaker! h (λ x k. omega arith)

  pub past-from : On j r → i < j → Past i r
  past-from h p = weaker! h (λ x k. omega arith)

module _ {i j : ℕ} {r : Answer State} where
  pub moves_from : MovesOn j r → i ≤ j → MovesOn i r
  moves_from h p = weaker! h (λ x k. omega arith)

  pub moves_past_from : MovesPast j r → i ≤ j → MovesPast i r
  moves_past_from h p = weaker! h (λ x k. omega arith)

-- a mark that must stand here is taken
pub needed-past : (ts : Tokens) (mark : ℕ) (s : State) → Every (λ (s' : State). s'.at ≡ s.at + 1) (needed ts mark s)
unfolding needed
needed-past ts mark s = then! _ _ (need-on ts mark s.at) λ i e. got! e

-- the readers that take a level of nesting
pub record LevelsOn (next : Levels) : Type 0 where
  pub composite : (union : Bool) (s : State) → Past s.at (next.composite union s)
  pub enumeration : (s : State) → Past s.at (next.enumeration s)
  pub declarator : (used : ℕ) (s : State) → On s.at (next.declarator used s)
  pub direct : (used : ℕ) (s : State) → On s.at (next.direct used s)
  pub constant : (s : State) → Past s.at (next.constant s)

-- ---- readers that need no level below

module _ (ts : Tokens) where
  pub qualifiers_from-on : (f : ℕ) (q : Qualifiers) (s : State) → s.at ≤ (qualifiers_from ts f q s).1.at
  unfolding qualifiers_from
  qualifiers_from-on zero q s = le_refl _
  qualifiers_from-on (suc f) q s = go (is_qualifier_word (kind_at ts s.at)) (stands ts atomic_word s) (qualifiers_from-on f _ (skip s)) (qualifiers_from-on f q (skip s))
    where
      go : (b c : Bool) → s.at + 1 ≤ (qualifiers_from ts f (with_qualifier (kind_at ts s.at) q) (skip s)).1.at → s.at + 1 ≤ (qualifiers_from ts f q (skip s)).1.at
          → s.at ≤ (elim b as (λ z. Qualifiers × State) [
            | true ↦ qualifiers_from ts f (with_qualifier (kind_at ts s.at) q) (skip s)
            | false ↦ elim c as (λ z. Qualifiers × State) [ true ↦ qualifiers_from ts f q (skip s) | false ↦ (q, s) ]
          ]).1.at
      go true c h k = omega arith
      go false true h k = omega arith
      go false false h k = le_refl _

  pub one_more_step-stays : (n : ℕ) (s : State) → Every (λ (s' : State). s' ≡ s) (one_more_step n s)
  unfolding one_more_step
  one_more_step-stays n s = bool! (leb max_steps n) no! (got! refl)

  pub stars_from-on : (f used : ℕ) (qs : List Qualifiers) (s : State) → On s.at (stars_from ts f used qs s)
  unfolding stars_from
  stars_from-on zero used qs s = got! (le_refl _)
  stars_from-on (suc f) used qs s = bool! (stands ts star s)
      (then! _ _ (one_more_step-stays _ (skip s)) λ s₁ e. let k = qualifiers_from-on (suc (left ts s₁.at)) unqualified s₁ in let j : s₁.at ≡ s.at + 1 = rw e in
      on-from (stars_from-on f used _ (qualifiers_here ts s₁).1) (omega arith))
      (got! (le_refl _))

  pub bound_words-on : (f : ℕ) (s : State) → s.at ≤ (bound_words ts f s).at
  unfolding bound_words
  bound_words-on zero s = le_refl _
  bound_words-on (suc f) s = go (stands ts static_word s || (is_qualifier_word (kind_at ts s.at) || stands ts atomic_word s)) (bound_words-on f (skip s))
    where
      go : (b : Bool) → s.at + 1 ≤ (bound_words ts f (skip s)).at → s.at ≤ (elim b as (λ z. State) [ true ↦ bound_words ts f (skip s) | false ↦ s ]).at
      go true h = omega arith
      go false h = le_refl _

  pub skip_initialiser-on : (f : ℕ) (depth : ℤ) (s : State) → s.at ≤ (skip_initialiser ts f depth s).at
  unfolding skip_initialiser
  skip_initialiser-on zero depth s = le_refl _
  skip_initialiser-on (suc f) depth s = go (stands ts end s || ((stands ts comma s || stands ts semicolon s) && le_z depth (pos 0))) (skip_initialiser-on f _ (skip s))
    where
      go : (b : Bool) → s.at + 1 ≤ (skip_initialiser ts f (nested (kind_at ts s.at) depth) (skip s)).at
          → s.at ≤ (elim b as (λ z. State) [ true ↦ s | false ↦ skip_initialiser ts f (nested (kind_at ts s.at) depth) (skip s) ]).at
      go true h = le_refl _
      go false h = omega arith

  pub initialiser-on : (s : State) → s.at ≤ (initialiser ts s).at
  unfolding initialiser
  initialiser-on s = go (stands ts equals s) (skip_initialiser-on (suc (left ts s.at)) (pos 0) (skip s))
    where
      go : (b : Bool) → s.at + 1 ≤ (skip_initialiser ts (suc (left ts s.at)) (pos 0) (skip s)).at
          → s.at ≤ (elim b as (λ z. State) [ true ↦ skip_initialiser ts (suc (left ts s.at)) (pos 0) (skip s) | false ↦ s ]).at
      go true h = omega arith
      go false h = le_refl _

  pub constant_here-past : (s : State) → Past s.at (constant_here ts s)
  unfolding constant_here
  constant_here-past s = then! _ _ (constant-past ts _ s.at) λ r h. got! h

-- ---- readers over the levels below

module _ (ts : Tokens) (m : Model) (next : Levels) (ok : LevelsOn next) where
  pub tagged_type-past : (k : ℕ) (s : State) → Past s.at (tagged_type ts m next k s)
  unfolding tagged_type
  tagged_type-past k s = bool! (eqb k enum_word) (ok.enumeration s) (ok.composite (eqb k union_word) s)

  pub specifiers_from-on : (f : ℕ) (p : Specifiers) (s : State) → On s.at (specifiers_from ts m next f p s)
  unfolding specifiers_from
  specifiers_from-on zero p s = got! (le_refl _)
  specifiers_from-on (suc f) p s =
      bool! (is_word (kind_at ts s.at))
      (bool! (is_storage_word (kind_at ts s.at)) (on-from (specifiers_from-on f _ (skip s)) (omega arith))
      (bool! (is_qualifier_word (kind_at ts s.at)) (on-from (specifiers_from-on f _ (skip s)) (omega arith))
      (bool! (is_ignored_word (kind_at ts s.at)) (on-from (specifiers_from-on f _ (skip s)) (omega arith))
      (bool! (is_type_word (kind_at ts s.at)) (bool! (is_some p.base) no! (on-from (specifiers_from-on f _ (skip s)) (omega arith)))
      (bool! (is_tag_word (kind_at ts s.at))
      (bool! (names_type p) no! (then! _ _ (tagged_type-past (kind_at ts s.at) (skip s)) λ b h. on-from (specifiers_from-on f _ b.1) (omega arith)))
      (bool! (names_type p) (got! (le_refl _)) (then! _ _ (named_type-stays s ts m) λ b h. on-from (specifiers_from-on f _ (skip b.1)) (omega arith))))))))
      (bool! (eqb (kind_at ts s.at) attribute) no! (got! (le_refl _)))

  pub specifiers-on : (s : State) → On s.at (specifiers ts m next s)
  unfolding specifiers
  specifiers-on s = specifiers_from-on (suc (left ts s.at)) _ s

  pub constant_bound-past : (s : State) → Past s.at (constant_bound ts m next s)
  unfolding constant_bound
  constant_bound-past s = then! _ _ (ok.constant s) λ v h. then! _ _ (needed-past ts close_bracket v.1) λ s' e. then! _ _ any! λ n k. got! (omega arith)

  pub array_bound-past : (s : State) → Past s.at (array_bound ts m next s)
  unfolding array_bound
  array_bound-past s₀ = let s = bound_words ts (suc (left ts s₀.at)) s₀ in let g : s₀.at ≤ s.at = bound_words-on ts (suc (left ts s₀.at)) s₀ in
      bool! (stands ts close_bracket s) (got! (omega arith))
      (bool! (stands ts star s) (then! _ _ any! λ s' e. no!) (weaker! (constant_bound-past s) (λ x h. omega arith)))

  pub parameter-on : (s : State) → Every (λ (x : ℕ × ℕ × State). s.at ≤ x.2.at) (parameter ts m next s)
  unfolding parameter
  parameter-on s = then! _ _ (specifiers-on s) λ p h. then! _ _ (base_type-stays p.1 m p.0 s.at) λ b e.
      then! _ _ (ok.declarator 0 b.1) λ d g. then! _ _ (apply-stays d.0.steps b.0 d.1) λ r k. got! (omega arith)

  pub parameters_end-past : (v : Bool) (first n : ℕ) (s : State) → Past s.at (parameters_end ts m next v first n s)
  unfolding parameters_end
  parameters_end-past v first n s = then! _ _ (needed-past ts close_paren s) λ s' e. got! (omega arith)

  pub parameters_from-past : (f first n : ℕ) (s : State) → Past s.at (parameters_from ts m next f first n s)
  unfolding parameters_from
  parameters_from-past zero first n s = parameters_end-past false first n s
  parameters_from-past (suc f) first n s = bool! (stands ts ellipsis s) (weaker! (parameters_end-past true first n (skip s)) (λ x h. omega arith))
      (then! _ _ (parameter-on s) λ p h. bool! (is_void_list ts n p.1 p.0 p.2)
      (weaker! (parameters_end-past false first n p.2) (λ x k. omega arith))
      (then! _ _ (adjusted-stays p.2 s.at p.0) λ a e. then! _ _ (push_parameter-stays a.1 _) λ x q.
      bool! (stands ts comma x.1) (weaker! (parameters_from-past f first (suc n) (skip x.1)) (λ y k. omega arith))
      (weaker! (parameters_end-past false first (suc n) x.1) (λ y k. omega arith))))

  pub parameters-past : (s : State) → Past s.at (parameters ts m next s)
  unfolding parameters
  parameters-past s = bool! (stands ts close_paren s) (got! (omega arith)) (parameters_from-past _ _ 0 s)

  pub suffixes_from-on : (f used : ℕ) (d : Declarator) (s : State) → On s.at (suffixes_from ts m next f used d s)
  unfolding suffixes_from
  suffixes_from-on zero used d s = got! (le_refl _)
  suffixes_from-on (suc f) used d s =
      bool! (stands ts open_bracket s)
      (then! _ _ (one_more_step-stays ts (used + length d.steps) (skip s)) λ s₁ e. let j : s₁.at ≡ s.at + 1 = rw e in
      then! _ _ (array_bound-past s₁) λ b h. on-from (suffixes_from-on f used _ b.1) (omega arith))
      (bool! (stands ts open_paren s)
      (then! _ _ (one_more_step-stays ts (used + length d.steps) (skip s)) λ s₁ e. let j : s₁.at ≡ s.at + 1 = rw e in
      then! _ _ (parameters-past s₁) λ p h. on-from (suffixes_from-on f used _ p.1) (omega arith))
      (got! (le_refl _)))

  pub suffixes-on : (used : ℕ) (d : Declarator) (s : State) → On s.at (suffixes ts m next used d s)
  unfolding suffixes
  suffixes-on used d s = suffixes_from-on (suc (left ts s.at)) used d s

  pub direct-on : (used : ℕ) (s : State) → On s.at (direct₁ ts m next used s)
  unfolding direct₁
  direct-on used s = bool! (is_name (kind_at ts s.at)) (on-from (suffixes-on used _ (skip s)) (omega arith))
      (bool! (opens_declarator ts m s)
      (then! _ _ (ok.declarator used (skip s)) λ d h. then! _ _ (needed-past ts close_paren d.1) λ s' e. on-from (suffixes-on used d.0 s') (omega arith))
      (suffixes-on used unnamed s))

  pub declarator-on : (used : ℕ) (s : State) → On s.at (declarator₁ ts m next used s)
  unfolding declarator₁
  declarator-on used s = then! _ _ (stars_from-on ts (suc (left ts s.at)) used [] s) λ r h.
      then! _ _ (ok.direct (used + length r.0) r.1) λ d k. got! (omega arith)

  -- ---- bodies

  pub bit_width-on : (at : ℕ) (s : State) → On s.at (bit_width ts m next at s)
  unfolding bit_width
  bit_width-on at s = bool! (stands ts colon s) (then! _ _ (ok.constant (skip s)) λ v h. then! _ _ any! λ w k. got! (omega arith)) (got! (le_refl _))

  pub member_declarator-on : (first b : ℕ) (s : State) → MovesOn s.at (member_declarator ts m next first b s)
  unfolding member_declarator
  member_declarator-on first b s = bool! (stands ts colon s)
      (then! _ _ (bit_width-on s.at s) λ w h. then! _ _ (push_member-stays w.1 _) λ e k. got! (omega arith))
      (then! _ _ (ok.declarator 0 s) λ d h. then! _ _ (apply-stays d.0.steps b d.1) λ r k. then! _ _ (bit_width-on s.at r.1) λ w g.
      bool! (eqb d.0.name no_name) no! (then! _ _ (push_member-stays w.1 _) λ e l. got! (omega arith)))

  pub member_declarators-past : (f first b : ℕ) (s : State) → MovesPast s.at (member_declarators ts m next f first b s)
  unfolding member_declarators
  member_declarators-past zero first b s = no!
  member_declarators-past (suc f) first b s = then! _ _ (member_declarator-on first b s) λ s₁ h. bool! (stands ts comma s₁)
      (moves_past_from (member_declarators-past f first b (skip s₁)) (omega arith)) (weaker! (needed-past ts semicolon s₁) (λ x k. omega arith))

  pub anonymous_member-on : (first b at : ℕ) (s : State) → MovesOn s.at (anonymous_member ts m next first b at s)
  unfolding anonymous_member
  anonymous_member-on first b at s = bool! (is_composite (resolved_kind s.table b)) (then! _ _ (push_member-stays s _) λ e k. got! (omega arith)) no!

  pub member_declaration-past : (first : ℕ) (s : State) → MovesPast s.at (member_declaration ts m next first s)
  unfolding member_declaration
  member_declaration-past first s = then! _ _ (specifiers-on s) λ p h. bool! (eqb (storage_number p.0.storage) (storage_number noStorage))
      (then! _ _ (base_type-stays p.1 m p.0 s.at) λ b e. bool! (stands ts semicolon b.1)
      (weaker! (anonymous_member-on first b.0 s.at (skip b.1)) (λ x k. omega arith))
      (moves_past_from (member_declarators-past (suc (left ts s.at)) first b.0 b.1) (omega arith)))
      no!

  pub members_from-past : (f first : ℕ) (s : State) → MovesPast s.at (members_from ts m next f first s)
  unfolding members_from
  members_from-past zero first s = no!
  members_from-past (suc f) first s = bool! (stands ts close_brace s) (got! (omega arith)) (bool! (stands ts end s) no!
      (bool! (stands ts semicolon s) (moves_past_from (members_from-past f first (skip s)) (omega arith))
      (then! _ _ (member_declaration-past first s) λ s₁ h. moves_past_from (members_from-past f first s₁) (omega arith))))

  pub body-past : (union : Bool) (at : ℕ) (s : State) → Past s.at (body ts m next union at s)
  unfolding body
  body-past union at s = then! _ _ (members_from-past (suc (left ts s.at)) (length s.table.members) s) λ s₁ h. then! _ _ any! λ l k. got! h

  pub composite-past : (union : Bool) (s : State) → Past s.at (composite₁ ts m next union s)
  unfolding composite₁ tagged_composite untagged_composite define_body
  composite-past union s = bool! (is_name (kind_at ts s.at))
      (then! _ _ (tag_row-stays (skip s) union _) λ r e. bool! (stands ts open_brace r.1)
      (then! _ _ (body-past union s.at (skip r.1)) λ b h. got! (omega arith))
      (got! (omega arith)))
      (bool! (stands ts open_brace s)
      (then! _ _ (body-past union s.at (skip s)) λ b h. weaker! (add_body-stays b.1 union b.0) (λ x k. omega arith))
      no!)

  -- ---- enumerations

  pub enumerator_value-on : (value : ℤ) (s : State) → On s.at (enumerator_value ts m next value s)
  unfolding enumerator_value
  enumerator_value-on value s = bool! (stands ts equals s) (weaker! (ok.constant (skip s)) (λ x h. omega arith)) (got! (le_refl _))

  pub enumerator-past : (first : ℕ) (value : ℤ) (s : State) → Past s.at (enumerator ts m next first value s)
  unfolding enumerator
  enumerator-past first value s = bool! (is_name (kind_at ts s.at))
      (then! _ _ (enumerator_value-on value (skip s)) λ v h. then! _ _ any! λ x k. then! _ _ (push_value-stays v.1 _) λ e l. got! (omega arith))
      no!

  pub enumerators_from-past : (f first : ℕ) (value : ℤ) (s : State) → MovesPast s.at (enumerators_from ts m next f first value s)
  unfolding enumerators_from
  enumerators_from-past zero first value s = no!
  enumerators_from-past (suc f) first value s = bool! (stands ts close_brace s) (got! (omega arith))
      (then! _ _ (enumerator-past first value s) λ e h. bool! (stands ts comma e.1)
      (moves_past_from (enumerators_from-past f first _ (skip e.1)) (omega arith))
      (weaker! (needed-past ts close_brace e.1) (λ x k. omega arith)))

  pub enum_body-past : (w : ℕ) (s : State) → Past s.at (enum_body ts m next w s)
  unfolding enum_body
  enum_body-past w s = then! _ _ (enumerators_from-past (suc (left ts s.at)) (length s.table.values) (pos 0) s) λ s₁ h.
      weaker! (close_enum-stays s₁ w _ _) (λ x k. omega arith)

  pub enumeration-past : (s : State) → Past s.at (enumeration₁ ts m next s)
  unfolding enumeration₁ after_tag
  enumeration-past s = bool! (is_name (kind_at ts s.at))
      (bool! (stands ts colon (skip s)) no! (bool! (stands ts open_brace (skip s)) (weaker! (enum_body-past _ (skip (skip s))) (λ x h. omega arith))
      (weaker! (bare_enum-stays (skip s) m _ s.at) (λ x h. omega arith))))
      (bool! (stands ts colon s) no! (bool! (stands ts open_brace s) (weaker! (enum_body-past no_name (skip s)) (λ x h. omega arith)) (bare_enum-alone s m s.at)))

-- ---- at every level

pub levels-on : (ts : Tokens) (m : Model) (room : ℕ) → LevelsOn (levels ts m room)
unfolding levels
levels-on ts m zero = record { composite = λ u s. no!; enumeration = λ s. no!; declarator = λ n s. no!; direct = λ n s. no!; constant = λ s. no! }
levels-on ts m (suc room) = let h = levels-on ts m room in record {
  composite = composite-past ts m _ h;
  enumeration = enumeration-past ts m _ h;
  declarator = declarator-on ts m _ h;
  direct = direct-on ts m _ h;
  constant = constant_here-past ts;
}

-- ---- declarations

module _ (ts : Tokens) (m : Model) where
  pub init_declarator-on : (c : Storage) (b : ℕ) (s : State) → MovesOn s.at (init_declarator ts m c b s)
  unfolding init_declarator
  init_declarator-on c b s = then! _ _ ((levels-on ts m (max_depth - 1)).declarator 0 s) λ d h. then! _ _ (apply-stays d.0.steps b d.1) λ r k.
      bool! (eqb d.0.name no_name) no! (let i = initialiser-on ts r.1 in
      then! _ _ (declared_row-stays (initialiser ts r.1) c _ _ _) λ n e. weaker! (declare-stays n.1 c _ _) (λ x g. omega arith))

  pub init_declarators-on : (f : ℕ) (c : Storage) (b : ℕ) (s : State) → MovesOn s.at (init_declarators ts m f c b s)
  unfolding init_declarators
  init_declarators-on zero c b s = no!
  init_declarators-on (suc f) c b s = then! _ _ (init_declarator-on c b s) λ s₁ h. bool! (stands ts comma s₁) (moves_from (init_declarators-on f c b (skip s₁)) (omega arith)) (got! h)

  pub declaration-on : (s : State) → MovesOn s.at (declaration ts m s)
  unfolding declaration
  declaration-on s = then! _ _ (specifiers-on ts m _ (levels-on ts m (max_depth - 1)) s) λ p h. then! _ _ (base_type-stays p.1 m p.0 s.at) λ b e.
      bool! (stands ts semicolon b.1 || stands ts end b.1)
      (bool! (is_typedef p.0.storage) no! (weaker! (declare-stays b.1 _ _ _) (λ x k. omega arith)))
      (moves_from (init_declarators-on (suc (left ts s.at)) p.0.storage b.0 b.1) (omega arith))

  pub separated-on : (s : State) → MovesOn s.at (separated ts m s)
  unfolding separated
  separated-on s = bool! (stands ts semicolon s) (got! (omega arith)) (bool! (stands ts end s) (got! (le_refl _)) no!)

  pub declarations_from-on : (f : ℕ) (s : State) → MovesOn s.at (declarations_from ts m f s)
  unfolding declarations_from
  declarations_from-on zero s = got! (le_refl _)
  declarations_from-on (suc f) s = bool! (stands ts end s) (got! (le_refl _)) (bool! (stands ts semicolon s) (moves_from (declarations_from-on f (skip s)) (omega arith))
      (then! _ _ (declaration-on s) λ s₁ h. then! _ _ (separated-on s₁) λ s₂ k. moves_from (declarations_from-on f s₂) (omega arith)))
