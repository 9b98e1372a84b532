-- Every reader keeps the table's invariant, at every level. Assumes nothing.
use mathlib.Core.Path.{◌≡◌, refl, ◌∙◌}
use mathlib.Core.Bool.{Bool, true, false, ◌||◌, ◌&&◌}
use mathlib.Core.List.{List, [], ◌∷◌}
use Prim.Native.Nat.{ℕ, zero, suc, ◌+◌, ◌-◌, ◌≤◌, ◌<◌}
use native.Mathlib.Omega.{arith}
use native.Mathlib.Nat.{le_refl}
use lib.Dec.{eqb}
use lib.IntN.{ℤ, pos}
use lib.Signed.{le_z}
use lib.ListN.{length}
use Rattle.definition.specs.Answer.{Answer}
use Rattle.definition.specs.Limit.{max_depth}
use Rattle.definition.specs.Kind.{end, attribute, enum_word, union_word, is_name, is_word, atomic_word, static_word, star, open_paren, close_paren, open_bracket, close_bracket, open_brace, close_brace, comma, ellipsis, semicolon, colon, equals}
use Rattle.definition.specs.Name.{no_name}
use Rattle.definition.specs.Token.{Tokens, kind_at, number_at, left}
use Rattle.definition.specs.Model.{Model}
use Rattle.definition.specs.Row.{Qualifiers, unqualified, is_some}
use Rattle.definition.specs.Table.{Member, Storage, storage_number, noStorage, Table, State, skip, mark_of, with_members}
use Rattle.definition.specs.Types.{resolved_kind}
use Rattle.definition.specs.Specifier.{Specifiers, no_specifiers, based_on, names_type, is_storage_word, is_qualifier_word, with_qualifier, is_ignored_word, is_type_word}
use Rattle.definition.specs.Specifiers.{is_tag_word, tagged_type, specifiers_from, specifiers}
use Rattle.definition.specs.Grammar.{DeclaratorStep, array_step, Declarator, named, unnamed, with_step, Levels, stands, needed}
use Rattle.definition.specs.Declarator.{qualifiers_from, qualifiers_here, stars_from, opens_declarator, bound_words, constant_bound, array_bound, is_void_list, parameter, parameters_end, parameters_from, parameters, suffixes_from, suffixes, direct₁, declarator₁}
use Rattle.definition.specs.Composite.{is_composite, bit_width, member_declarator, member_declarators, anonymous_member, member_declaration, members_from, fields_only, Body, body, tagged_composite, untagged_composite, composite₁}
use Rattle.definition.specs.Enumeration.{enumerator_value, enumerator, enumerators_from, enum_body, after_tag, enumeration₁}
use Rattle.definition.specs.Reader.{constant_here, levels, nested, skip_initialiser, initialiser, is_typedef, init_declarator, init_declarators, declaration, separated, declarations_from}
use Rattle.definition_laws.specs.Every.{Every}
use Rattle.definition_laws.proofs.Every.{got!, no!, bool!, then!, weaker!, any! }
use Rattle.definition_laws.proofs.Progress.{one_more_step-stays}
use Rattle.definition_laws.proofs.Each.{Each}
use Rattle.definition_laws.proofs.Sound.{Marks, here, mark, MemberIn, Sound, Kept, Gives, stay, equal, join, join-gives, open_members, open_values, open_parameters, members-opened, values-opened, parameters-opened, push_member-sound, push_value-sound, push_parameter-sound, members-fields, fields_only-length}
use Rattle.definition_laws.proofs.LayoutKeeps.{layout-keeps}
use Rattle.definition_laws.proofs.SoundTable.{GivesRow, BaseIn, named_type-sound, base_type-sound, adjusted-sound, declared_row-sound, declare-sound, tag_row-sound, opening, opened, starred-opens, apply-sound, define_body-sound, add_body-sound, noted-sound, close_enum-sound, bare_enum-sound}

-- ---- readers that leave the table

-- the table of every answer is the one before
abbrev Leaves : {A : Type 0} → Table → Answer (A × State) → Type 0
Leaves {A} t r = Every (λ (x : A × State). x.1.table ≡ t) r

module _ (ts : Tokens) where
  pub needed-leaves : (k : ℕ) (s : State) → Every (λ (s' : State). s'.table ≡ s.table) (needed ts k s)
  unfolding needed
  needed-leaves k s = then! _ _ any! λ i e. got! refl

  pub qualifiers_from-leaves : (f : ℕ) (q : Qualifiers) (s : State) → (qualifiers_from ts f q s).1.table ≡ s.table
  unfolding qualifiers_from
  qualifiers_from-leaves zero q s = refl
  qualifiers_from-leaves (suc f) q s = go (is_qualifier_word (kind_at ts s.at)) (stands ts atomic_word s) (qualifiers_from-leaves f _ (skip s)) (qualifiers_from-leaves f q (skip s))
    where
      go : (b c : Bool) → (qualifiers_from ts f (with_qualifier (kind_at ts s.at) q) (skip s)).1.table ≡ s.table → (qualifiers_from ts f q (skip s)).1.table ≡ s.table
          → (elim b as (λ z. Qualifiers × State) [
            | true ↦ qualifiers_from ts f (with_qualifier (kind_at ts s.at) q) (skip s)
            | false ↦ elim c as (λ z. Qualifiers × State) [ true ↦ qualifiers_from ts f q (skip s) | false ↦ (q, s) ]
          ]).1.table ≡ s.table
      go true c h k = h
      go false true h k = k
      go false false h k = refl

  pub stars_from-leaves : (f used : ℕ) (qs : List Qualifiers) (s : State) → Leaves s.table (stars_from ts f used qs s)
  unfolding stars_from
  stars_from-leaves zero used qs s = got! refl
  stars_from-leaves (suc f) used qs s = bool! (stands ts star s)
      (then! _ _ (one_more_step-stays ts _ (skip s)) λ s₁ e. let k = qualifiers_from-leaves (suc (left ts s₁.at)) unqualified s₁ in let j : s₁.table ≡ s.table = rw e in
      weaker! (stars_from-leaves f used _ (qualifiers_here ts s₁).1) (λ x h. h ∙ (k ∙ j)))
      (got! refl)

  pub bound_words-leaves : (f : ℕ) (s : State) → (bound_words ts f s).table ≡ s.table
  unfolding bound_words
  bound_words-leaves zero s = refl
  bound_words-leaves (suc f) s = go (stands ts static_word s || (is_qualifier_word (kind_at ts s.at) || stands ts atomic_word s)) (bound_words-leaves f (skip s))
    where
      go : (b : Bool) → (bound_words ts f (skip s)).table ≡ s.table → (elim b as (λ z. State) [ true ↦ bound_words ts f (skip s) | false ↦ s ]).table ≡ s.table
      go true h = h
      go false h = refl

  pub skip_initialiser-leaves : (f : ℕ) (depth : ℤ) (s : State) → (skip_initialiser ts f depth s).table ≡ s.table
  unfolding skip_initialiser
  skip_initialiser-leaves zero depth s = refl
  skip_initialiser-leaves (suc f) depth s = go (stands ts end s || ((stands ts comma s || stands ts semicolon s) && le_z depth (pos 0))) (skip_initialiser-leaves f _ (skip s))
    where
      go : (b : Bool) → (skip_initialiser ts f (nested (kind_at ts s.at) depth) (skip s)).table ≡ s.table
          → (elim b as (λ z. State) [ true ↦ s | false ↦ skip_initialiser ts f (nested (kind_at ts s.at) depth) (skip s) ]).table ≡ s.table
      go true h = refl
      go false h = h

  pub initialiser-leaves : (s : State) → (initialiser ts s).table ≡ s.table
  unfolding initialiser
  initialiser-leaves s = go (stands ts equals s) (skip_initialiser-leaves (suc (left ts s.at)) (pos 0) (skip s))
    where
      go : (b : Bool) → (skip_initialiser ts (suc (left ts s.at)) (pos 0) (skip s)).table ≡ s.table
          → (elim b as (λ z. State) [ true ↦ skip_initialiser ts (suc (left ts s.at)) (pos 0) (skip s) | false ↦ s ]).table ≡ s.table
      go true h = h
      go false h = refl

  pub constant_here-leaves : (s : State) → Leaves s.table (constant_here ts s)
  unfolding constant_here
  constant_here-leaves s = then! _ _ any! λ r h. got! refl

-- ---- the readers one level below

-- a declarator leaves its parameter lists open, until it is applied
abbrev pub Opens : Marks → Table → Answer (Declarator × State) → Type 0
Opens o t r = Every (λ (x : Declarator × State). Kept (opened x.0.steps o) t x.1.table) r

abbrev pub Keeps : Marks → Table → Answer State → Type 0
Keeps o t r = Every (λ (s : State). Kept o t s.table) r

pub record LevelsSound (next : Levels) : Type 0 where
  pub composite : (o : Marks) (union : Bool) (s : State) → Sound o s.table → GivesRow o s.table (next.composite union s)
  pub enumeration : (o : Marks) (s : State) → Sound o s.table → GivesRow o s.table (next.enumeration s)
  pub declarator : (o : Marks) (used : ℕ) (s : State) → Sound o s.table → Opens o s.table (next.declarator used s)
  pub direct : (o : Marks) (used : ℕ) (s : State) → Sound o s.table → Opens o s.table (next.direct used s)
  pub constant : (s : State) → Leaves s.table (next.constant s)

-- a row that was given is a base
based : {o : Marks} {t t' : Table} {n : ℕ} (p : Specifiers) → Gives o t n t' → BaseIn t' (based_on p n)
based {n} p g = record { below = λ i e. let z : n ≡ i = cc in let y = g.below in omega arith }

module _ (ts : Tokens) (m : Model) (next : Levels) (ok : LevelsSound next) where
  -- ---- specifiers

  tagged_type-sound : (o : Marks) (k : ℕ) (s : State) → Sound o s.table → GivesRow o s.table (tagged_type ts m next k s)
  unfolding tagged_type
  tagged_type-sound o k s h = bool! (eqb k enum_word) (ok.enumeration o s h) (ok.composite o (eqb k union_word) s h)

  pub specifiers_from-sound : (o : Marks) (f : ℕ) (p : Specifiers) (s : State) → Sound o s.table → BaseIn s.table p
      → Every (λ (x : Specifiers × State). Kept o s.table x.1.table × BaseIn x.1.table x.0) (specifiers_from ts m next f p s)
  unfolding specifiers_from
  specifiers_from-sound o zero p s h b = got! (stay h, b)
  specifiers_from-sound o (suc f) p s h b =
      bool! (is_word (kind_at ts s.at))
      (bool! (is_storage_word (kind_at ts s.at)) (specifiers_from-sound o f _ (skip s) h (record { below = b.below }))
      (bool! (is_qualifier_word (kind_at ts s.at)) (specifiers_from-sound o f _ (skip s) h (record { below = b.below }))
      (bool! (is_ignored_word (kind_at ts s.at)) (specifiers_from-sound o f p (skip s) h b)
      (bool! (is_type_word (kind_at ts s.at)) (bool! (is_some p.base) no! (specifiers_from-sound o f _ (skip s) h (record { below = b.below })))
      (bool! (is_tag_word (kind_at ts s.at))
      (bool! (names_type p) no! (then! _ _ (tagged_type-sound o _ (skip s) h) λ x k.
      weaker! (specifiers_from-sound o f _ x.1 k.kept.sound (based p k)) (λ y l. (join k.kept l.0, l.1))))
      (bool! (names_type p) (got! (stay h, b)) (then! _ _ (named_type-sound o s h ts m) λ x k.
      weaker! (specifiers_from-sound o f _ (skip x.1) k.kept.sound (based p k)) (λ y l. (join k.kept l.0, l.1)))))))))
      (bool! (eqb (kind_at ts s.at) attribute) no! (got! (stay h, b)))

  pub specifiers-sound : (o : Marks) (s : State) → Sound o s.table → Every (λ (x : Specifiers × State). Kept o s.table x.1.table × BaseIn x.1.table x.0) (specifiers ts m next s)
  unfolding specifiers
  specifiers-sound o s h = specifiers_from-sound o (suc (left ts s.at)) no_specifiers s h (record { below = λ n e. let z : ◌≡◌ {A = ℕ} 0 1 = cc in absurd (omega arith) })

  -- ---- declarators

  pub array_bound-leaves : (s : State) → Leaves s.table (array_bound ts m next s)
  unfolding array_bound constant_bound
  array_bound-leaves s₀ = let s = bound_words ts (suc (left ts s₀.at)) s₀ in let g : s.table ≡ s₀.table = bound_words-leaves ts (suc (left ts s₀.at)) s₀ in
      bool! (stands ts close_bracket s) (got! g) (bool! (stands ts star s) (then! _ _ any! λ s' e. no!)
      (then! _ _ (ok.constant s) λ v h. then! _ _ (needed-leaves ts close_bracket v.1) λ s' e. then! _ _ any! λ n k. got! (e ∙ (h ∙ g))))

  pub parameter-sound : (o : Marks) (s : State) → Sound o s.table → Every (λ (x : ℕ × ℕ × State). Gives o s.table x.0 x.2.table) (parameter ts m next s)
  unfolding parameter
  parameter-sound o s h = then! _ _ (specifiers-sound o s h) λ p k. then! _ _ (base_type-sound o p.1 k.0.sound m p.0 s.at k.1) λ b l.
      then! _ _ (ok.declarator o 0 b.1 l.kept.sound) λ d j.
      then! _ _ (apply-sound d.0.steps o b.0 d.1 j.sound (let y = l.below in let z = j.rows in omega arith)) λ r i.
      got! (join-gives (join k.0 (join l.kept j)) i)

  -- a list whose first entry is `first`
  abbrev pub OpensList : Marks → Table → Answer (DeclaratorStep × State) → Type 0
  OpensList o t r = Every (λ (x : DeclaratorStep × State). Kept (opening x.0 o) t x.1.table) r

  parameters_end-sound : (o : Marks) (v : Bool) (first n : ℕ) (t : Table) (s : State) → Kept (open_parameters first o) t s.table → OpensList o t (parameters_end ts m next v first n s)
  unfolding parameters_end
  parameters_end-sound o v first n t s k = then! _ _ (needed-leaves ts close_paren s) λ s' e. got! (rw e k)

  pub parameters_from-sound : (o : Marks) (f first n : ℕ) (t : Table) (s : State) → first ≤ length s.table.parameters → Kept (open_parameters first o) t s.table
      → OpensList o t (parameters_from ts m next f first n s)
  unfolding parameters_from
  parameters_from-sound o zero first n t s q g = parameters_end-sound o false first n t s g
  parameters_from-sound o (suc f) first n t s q g = bool! (stands ts ellipsis s) (parameters_end-sound o true first n t (skip s) g)
      (then! _ _ (parameter-sound (open_parameters first o) s g.sound) λ p k. bool! (is_void_list ts n p.1 p.0 p.2)
      (parameters_end-sound o false first n t p.2 (join g k.kept))
      (then! _ _ (adjusted-sound _ p.2 k.kept.sound s.at p.0 k.below) λ a j.
      let u = k.kept.parameters in let v = j.kept.parameters in
      then! _ _ (push_parameter-sound _ a.1 j.kept.sound (record { row = mark_of first; type = a.0; name = p.1 }) (record { carries = mark first here (omega arith) refl; type = j.below })) λ e i.
      let w = i.parameters in let all = join g (join k.kept (join j.kept i)) in
      bool! (stands ts comma e.1) (parameters_from-sound o f first (suc n) t (skip e.1) (omega arith) all)
      (parameters_end-sound o false first (suc n) t e.1 all)))

  pub parameters-sound : (o : Marks) (s : State) → Sound o s.table → OpensList o s.table (parameters ts m next s)
  unfolding parameters
  parameters-sound o s h = let k = stay {t = s.table} (parameters-opened s.table (length s.table.parameters) h) in
      bool! (stands ts close_paren s) (got! k) (parameters_from-sound o (suc (left ts s.at)) (length s.table.parameters) 0 s.table s (le_refl _) k)

  pub suffixes_from-sound : (o : Marks) (f used : ℕ) (d : Declarator) (t : Table) (s : State) → Kept (opened d.steps o) t s.table → Opens o t (suffixes_from ts m next f used d s)
  unfolding suffixes_from
  suffixes_from-sound o zero used d t s g = got! g
  suffixes_from-sound o (suc f) used d t s g =
      bool! (stands ts open_bracket s)
      (then! _ _ (one_more_step-stays ts (used + length d.steps) (skip s)) λ s₁ e. let j : s₁.table ≡ s.table = rw e in
      then! _ _ (array_bound-leaves s₁) λ b h. suffixes_from-sound o f used (with_step d (array_step b.0)) t b.1 (rw (h ∙ j) g))
      (bool! (stands ts open_paren s)
      (then! _ _ (one_more_step-stays ts (used + length d.steps) (skip s)) λ s₁ e. let j : s₁.table ≡ s.table = rw e in let g₁ : Kept (opened d.steps o) t s₁.table = rw j g in
      then! _ _ (parameters-sound (opened d.steps o) s₁ g₁.sound) λ p h. suffixes_from-sound o f used (with_step d p.0) t p.1 (join g₁ h))
      (got! g))

  pub suffixes-sound : (o : Marks) (used : ℕ) (d : Declarator) (t : Table) (s : State) → Kept (opened d.steps o) t s.table → Opens o t (suffixes ts m next used d s)
  unfolding suffixes
  suffixes-sound o used d t s g = suffixes_from-sound o (suc (left ts s.at)) used d t s g

  pub direct-sound : (o : Marks) (used : ℕ) (s : State) → Sound o s.table → Opens o s.table (direct₁ ts m next used s)
  unfolding direct₁
  direct-sound o used s h = bool! (is_name (kind_at ts s.at)) (suffixes-sound o used (named (number_at ts s.at)) s.table (skip s) (stay h))
      (bool! (opens_declarator ts m s)
      (then! _ _ (ok.declarator o used (skip s) h) λ d k. then! _ _ (needed-leaves ts close_paren d.1) λ s' e. suffixes-sound o used d.0 s.table s' (rw e k))
      (suffixes-sound o used unnamed s.table s (stay h)))

  pub declarator-sound : (o : Marks) (used : ℕ) (s : State) → Sound o s.table → Opens o s.table (declarator₁ ts m next used s)
  unfolding declarator₁
  declarator-sound o used s h = then! _ _ (stars_from-leaves ts (suc (left ts s.at)) used [] s) λ r e. let k : Kept o s.table r.1.table = equal e h in
      then! _ _ (ok.direct o (used + length r.0) r.1 k.sound) λ d j. got! (rw (starred-opens r.0 d.0.steps o) (join k j))

  -- ---- bodies

  pub bit_width-leaves : (at : ℕ) (s : State) → Leaves s.table (bit_width ts m next at s)
  unfolding bit_width
  bit_width-leaves at s = bool! (stands ts colon s) (then! _ _ (ok.constant (skip s)) λ v h. then! _ _ any! λ w k. got! h) (got! refl)

  -- a member of the body whose first entry is `first`
  pub member_declarator-sound : (o : Marks) (first b : ℕ) (s : State) → Sound (open_members first o) s.table → first ≤ length s.table.members → b < length s.table.rows
      → Keeps (open_members first o) s.table (member_declarator ts m next first b s)
  unfolding member_declarator
  member_declarator-sound o first b s h q p = bool! (stands ts colon s)
      (then! _ _ (bit_width-leaves s.at s) λ w e. let k : Kept (open_members first o) s.table w.1.table = equal e h in let u = k.members in let v = k.rows in
      then! _ _ (push_member-sound _ w.1 k.sound _ (record { carries = mark first here (omega arith) refl; type = omega arith })) λ x j. got! (join k j))
      (then! _ _ (ok.declarator (open_members first o) 0 s h) λ d g.
      then! _ _ (apply-sound d.0.steps _ b d.1 g.sound (let z = g.rows in omega arith)) λ r l.
      then! _ _ (bit_width-leaves s.at r.1) λ w e. let k : Kept (open_members first o) r.1.table w.1.table = equal e l.kept.sound in
      bool! (eqb d.0.name no_name) no!
      (let u = join g (join l.kept k) in let v = u.members in let y = l.below in let z = k.rows in
      then! _ _ (push_member-sound _ w.1 k.sound _ (record { carries = mark first here (omega arith) refl; type = omega arith })) λ x j. got! (join u j)))

  pub member_declarators-sound : (o : Marks) (f first b : ℕ) (s : State) → Sound (open_members first o) s.table → first ≤ length s.table.members → b < length s.table.rows
      → Keeps (open_members first o) s.table (member_declarators ts m next f first b s)
  unfolding member_declarators
  member_declarators-sound o zero first b s h q p = no!
  member_declarators-sound o (suc f) first b s h q p = then! _ _ (member_declarator-sound o first b s h q p) λ s₁ k. let u = k.members in let v = k.rows in bool! (stands ts comma s₁)
      (weaker! (member_declarators-sound o f first b (skip s₁) k.sound (omega arith) (omega arith)) (λ x j. join k j))
      (weaker! (needed-leaves ts semicolon s₁) (λ x e. rw e k))

  pub anonymous_member-sound : (o : Marks) (first b at : ℕ) (s : State) → Sound (open_members first o) s.table → first ≤ length s.table.members → b < length s.table.rows
      → Keeps (open_members first o) s.table (anonymous_member ts m next first b at s)
  unfolding anonymous_member
  anonymous_member-sound o first b at s h q p = bool! (is_composite (resolved_kind s.table b))
      (then! _ _ (push_member-sound _ s h _ (record { carries = mark first here q refl; type = p })) λ x j. got! j) no!

  pub member_declaration-sound : (o : Marks) (first : ℕ) (s : State) → Sound (open_members first o) s.table → first ≤ length s.table.members
      → Keeps (open_members first o) s.table (member_declaration ts m next first s)
  unfolding member_declaration
  member_declaration-sound o first s h q = then! _ _ (specifiers-sound _ s h) λ p k. bool! (eqb (storage_number p.0.storage) (storage_number noStorage))
      (then! _ _ (base_type-sound _ p.1 k.0.sound m p.0 s.at k.1) λ b l.
      let g = join k.0 l.kept in let u = g.members in bool! (stands ts semicolon b.1)
      (weaker! (anonymous_member-sound o first b.0 s.at (skip b.1) g.sound (omega arith) l.below) (λ x j. join g j))
      (weaker! (member_declarators-sound o (suc (left ts s.at)) first b.0 b.1 g.sound (omega arith) l.below) (λ x j. join g j)))
      no!

  pub members_from-sound : (o : Marks) (f first : ℕ) (s : State) → Sound (open_members first o) s.table → first ≤ length s.table.members
      → Keeps (open_members first o) s.table (members_from ts m next f first s)
  unfolding members_from
  members_from-sound o zero first s h q = no!
  members_from-sound o (suc f) first s h q = bool! (stands ts close_brace s) (got! (stay h)) (bool! (stands ts end s) no!
      (bool! (stands ts semicolon s) (members_from-sound o f first (skip s) h q)
      (then! _ _ (member_declaration-sound o first s h q) λ s₁ k. let u = k.members in weaker! (members_from-sound o f first s₁ k.sound (omega arith)) (λ x j. join k j))))

  -- members that are as many, and in order too, may stand for a table's members
  members-put : {o : Marks} (t : Table) (ms : List Member) → Sound o t → Each (MemberIn (length t.rows) o.members) 0 ms → length ms ≡ length t.members → Kept o t (with_members t ms)
  members-put t ms h k e = record {
    rows = le_refl _;
    members = omega arith;
    values = le_refl _;
    parameters = le_refl _;
    sound = record {
      some-row = h.some-row;
      few-rows = h.few-rows;
      few-members = let y = h.few-members in omega arith;
      few-values = h.few-values;
      few-parameters = h.few-parameters;
      few-declarations = h.few-declarations;
      rows = h.rows;
      members = k;
      values = h.values;
      declarations = h.declarations;
      parameters = h.parameters;
    };
  }

  pub body-sound : (o : Marks) (union : Bool) (at : ℕ) (s : State) → Sound o s.table
      → Every (λ (x : Body × State). Kept (open_members x.0.fields.first o) s.table x.1.table) (body ts m next union at s)
  unfolding body
  body-sound o union at s h = let first = length s.table.members in
      then! _ _ (members_from-sound o (suc (left ts s.at)) first s (members-opened s.table first h) (le_refl _)) λ s₁ k. let u = k.members in
      then! _ _ (layout-keeps m s₁.table union (length s₁.table.rows) (first ∷ o.members) first at (omega arith) k.sound.members) λ l j.
      let z = fields_only-length first l.1 in
      got! (join k (noted-sound s₁.table _ (fields_only first l.1)
      (members-put s₁.table (fields_only first l.1) k.sound (members-fields first k.sound.some-row j.0) (z ∙ j.1))))

  pub composite-sound : (o : Marks) (union : Bool) (s : State) → Sound o s.table → GivesRow o s.table (composite₁ ts m next union s)
  unfolding composite₁ tagged_composite untagged_composite
  composite-sound o union s h = bool! (is_name (kind_at ts s.at))
      (then! _ _ (tag_row-sound o (skip s) h union (number_at ts s.at)) λ r k. bool! (stands ts open_brace r.1)
      (then! _ _ (body-sound o union s.at (skip r.1) k.0.kept.sound) λ b j. let u = k.0.below in let v = j.rows in
      let d = define_body-sound o union (number_at ts s.at) r.0 b.0 b.1 j.sound k.1 (omega arith) in let w = d.rows in
      got! (record { kept = join k.0.kept (join j d); below = omega arith }))
      (got! k.0))
      (bool! (stands ts open_brace s)
      (then! _ _ (body-sound o union s.at (skip s) h) λ b j. weaker! (add_body-sound o union b.0 b.1 j.sound) (λ x i. join-gives j i))
      no!)

  -- ---- enumerations

  pub enumerator_value-leaves : (value : ℤ) (s : State) → Leaves s.table (enumerator_value ts m next value s)
  unfolding enumerator_value
  enumerator_value-leaves value s = bool! (stands ts equals s) (ok.constant (skip s)) (got! refl)

  pub enumerator-sound : (o : Marks) (first : ℕ) (value : ℤ) (s : State) → Sound (open_values first o) s.table → first ≤ length s.table.values
      → Every (λ (x : ℤ × State). Kept (open_values first o) s.table x.1.table) (enumerator ts m next first value s)
  unfolding enumerator
  enumerator-sound o first value s h q = bool! (is_name (kind_at ts s.at))
      (then! _ _ (enumerator_value-leaves value (skip s)) λ v e. let k : Kept (open_values first o) s.table v.1.table = equal e h in let u = k.values in
      then! _ _ any! λ x i. then! _ _ (push_value-sound _ v.1 k.sound _ (record { carries = mark first here (omega arith) refl })) λ y j. got! (join k j))
      no!

  pub enumerators_from-sound : (o : Marks) (f first : ℕ) (value : ℤ) (s : State) → Sound (open_values first o) s.table → first ≤ length s.table.values
      → Keeps (open_values first o) s.table (enumerators_from ts m next f first value s)
  unfolding enumerators_from
  enumerators_from-sound o zero first value s h q = no!
  enumerators_from-sound o (suc f) first value s h q = bool! (stands ts close_brace s) (got! (stay h))
      (then! _ _ (enumerator-sound o first value s h q) λ e k. let u = k.values in bool! (stands ts comma e.1)
      (weaker! (enumerators_from-sound o f first _ (skip e.1) k.sound (omega arith)) (λ x j. join k j))
      (weaker! (needed-leaves ts close_brace e.1) (λ x i. rw i k)))

  pub enum_body-sound : (o : Marks) (w : ℕ) (s : State) → Sound o s.table → GivesRow o s.table (enum_body ts m next w s)
  unfolding enum_body
  enum_body-sound o w s h = let first = length s.table.values in
      then! _ _ (enumerators_from-sound o (suc (left ts s.at)) first (pos 0) s (values-opened s.table first h) (le_refl _)) λ s₁ k.
      weaker! (close_enum-sound o w _ _ s₁ k.sound) (λ x j. join-gives k j)

  pub enumeration-sound : (o : Marks) (s : State) → Sound o s.table → GivesRow o s.table (enumeration₁ ts m next s)
  unfolding enumeration₁ after_tag
  enumeration-sound o s h = bool! (is_name (kind_at ts s.at))
      (bool! (stands ts colon (skip s)) no! (bool! (stands ts open_brace (skip s)) (enum_body-sound o _ (skip (skip s)) h) (bare_enum-sound o m _ s.at (skip s) h)))
      (bool! (stands ts colon s) no! (bool! (stands ts open_brace s) (enum_body-sound o no_name (skip s) h) (bare_enum-sound o m no_name s.at s h)))

-- ---- at every level

pub levels_sound : (ts : Tokens) (m : Model) (room : ℕ) → LevelsSound (levels ts m room)
unfolding levels
levels_sound ts m zero = record { composite = λ o u s h. no!; enumeration = λ o s h. no!; declarator = λ o n s h. no!; direct = λ o n s h. no!; constant = λ s. no! }
levels_sound ts m (suc room) = let k = levels_sound ts m room in record {
  composite = composite-sound ts m _ k;
  enumeration = enumeration-sound ts m _ k;
  declarator = declarator-sound ts m _ k;
  direct = direct-sound ts m _ k;
  constant = constant_here-leaves ts;
}

-- ---- declarations

module _ (ts : Tokens) (m : Model) (o : Marks) where
  pub init_declarator-sound : (c : Storage) (b : ℕ) (s : State) → Sound o s.table → b < length s.table.rows → Keeps o s.table (init_declarator ts m c b s)
  unfolding init_declarator
  init_declarator-sound c b s h p = then! _ _ ((levels_sound ts m (max_depth - 1)).declarator o 0 s h) λ d g.
      then! _ _ (apply-sound d.0.steps o b d.1 g.sound (let z = g.rows in omega arith)) λ r l.
      bool! (eqb d.0.name no_name) no!
      (let k : Kept o r.1.table (initialiser ts r.1).table = equal (initialiser-leaves ts r.1) l.kept.sound in let u = l.below in let v = k.rows in
      then! _ _ (declared_row-sound o (initialiser ts r.1) k.sound c d.0.name r.0 s.at (omega arith)) λ n j.
      weaker! (declare-sound o n.1 j.kept.sound c n.0 d.0.name j.below) (λ x i. join g (join l.kept (join k (join j.kept i)))))

  pub init_declarators-sound : (f : ℕ) (c : Storage) (b : ℕ) (s : State) → Sound o s.table → b < length s.table.rows → Keeps o s.table (init_declarators ts m f c b s)
  unfolding init_declarators
  init_declarators-sound zero c b s h p = no!
  init_declarators-sound (suc f) c b s h p = then! _ _ (init_declarator-sound c b s h p) λ s₁ k. let u = k.rows in bool! (stands ts comma s₁)
      (weaker! (init_declarators-sound f c b (skip s₁) k.sound (omega arith)) (λ x j. join k j)) (got! k)

  pub declaration-sound : (s : State) → Sound o s.table → Keeps o s.table (declaration ts m s)
  unfolding declaration
  declaration-sound s h = then! _ _ (specifiers-sound ts m _ (levels_sound ts m (max_depth - 1)) o s h) λ p k.
      then! _ _ (base_type-sound o p.1 k.0.sound m p.0 s.at k.1) λ b l. let g = join k.0 l.kept in
      bool! (stands ts semicolon b.1 || stands ts end b.1)
      (bool! (is_typedef p.0.storage) no! (weaker! (declare-sound o b.1 g.sound p.0.storage b.0 no_name l.below) (λ x i. join g i)))
      (weaker! (init_declarators-sound (suc (left ts s.at)) p.0.storage b.0 b.1 g.sound l.below) (λ x i. join g i))

  separated-leaves : (s : State) → Every (λ (s' : State). s'.table ≡ s.table) (separated ts m s)
  unfolding separated
  separated-leaves s = bool! (stands ts semicolon s) (got! refl) (bool! (stands ts end s) (got! refl) no!)

  pub declarations_from-sound : (f : ℕ) (s : State) → Sound o s.table → Keeps o s.table (declarations_from ts m f s)
  unfolding declarations_from
  declarations_from-sound zero s h = got! (stay h)
  declarations_from-sound (suc f) s h = bool! (stands ts end s) (got! (stay h)) (bool! (stands ts semicolon s) (declarations_from-sound f (skip s) h)
      (then! _ _ (declaration-sound s h) λ s₁ k. then! _ _ (separated-leaves s₁) λ s₂ e. let g : Kept o s.table s₂.table = rw e k in
      weaker! (declarations_from-sound f s₂ g.sound) (λ x j. join g j)))
