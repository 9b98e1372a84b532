-- Every reader pays for the names that it lists, and keeps the table's numbers in their bounds, at every level. Assumes nothing.
use mathlib.Core.Path.{◌≡◌, refl, ◌∙◌}
use mathlib.Core.Bool.{Bool, true, false, ◌||◌}
use mathlib.Core.Option.{Option, none}
use mathlib.Core.List.{List, [], ◌∷◌}
use Prim.Native.Nat.{ℕ, zero, suc, ◌+◌, ◌-◌, ◌*◌, ◌^◌, ◌≤◌, ◌<◌}
use native.Mathlib.Omega.{arith}
use lib.Dec.{eqb, leb}
use lib.IntN.{ℤ, pos, negsuc}
use lib.ListN.{length}
use borrow.Author.Tests.{ltb-true, leb-true}
use Rattle.definition.specs.Answer.{Answer}
use Rattle.definition.specs.Limit.{max_depth}
use Rattle.definition.specs.Kind.{end, attribute, enum_word, union_word, is_name, is_word, star, open_paren, close_paren, open_bracket, close_bracket, open_brace, close_brace, comma, ellipsis, semicolon, colon, equals}
use Rattle.definition.specs.Name.{no_name, length_of}
use Rattle.definition.specs.Token.{Tokens, kind_at, number_at, left}
use Rattle.definition.specs.Range.{in_range}
use Rattle.definition.specs.Model.{Model}
use Rattle.definition.specs.Row.{Qualifiers, or_zero, is_some}
use Rattle.definition.specs.Table.{Member, Storage, storage_number, noStorage, State, skip, mark_of, with_table, with_members}
use Rattle.definition.specs.Types.{resolved_kind}
use Rattle.definition.specs.Specifier.{Specifiers, no_specifiers, names_type, is_storage_word, is_qualifier_word, is_ignored_word, is_type_word}
use Rattle.definition.specs.Specifiers.{is_tag_word, tagged_type, specifiers_from, specifiers}
use Rattle.definition.specs.Grammar.{DeclaratorStep, pointer_step, array_step, Declarator, named, unnamed, with_step, Levels, stands, needed}
use Rattle.definition.specs.Declarator.{stars_from, starred, opens_declarator, bound_of, bound_words, constant_bound, array_bound, is_void_list, parameter, parameters_end, parameters_from, parameters, suffixes_from, suffixes, direct₁, declarator₁}
use Rattle.definition.specs.Composite.{width_of, is_composite, fresh, noted, bit_width, member_declarator, member_declarators, anonymous_member, member_declaration, members_from, fields_only, Body, body, tagged_composite, untagged_composite, composite₁}
use Rattle.definition.specs.Enumeration.{enumerator_value, enumerator, enumerators_from, enum_body, after_tag, enumeration₁}
use Rattle.definition.specs.Reader.{constant_here, levels, initialiser, is_typedef, init_declarator, init_declarators, declaration, separated, declarations_from}
use Rattle.definition_laws.specs.Every.{Every}
use Rattle.definition_laws.proofs.Every.{got!, no!, bool!, test!, then!, weaker!, any! }
use Rattle.definition_laws.proofs.Each.{Each, each_weaker}
use Rattle.definition_laws.proofs.ConstantProgress.{constant-past}
use Rattle.definition_laws.proofs.Progress.{needed-past, stars_from-on, bound_words-on, initialiser-on, one_more_step-stays}
use Rattle.definition_laws.proofs.SoundReader.{needed-leaves, stars_from-leaves, bound_words-leaves, initialiser-leaves}
use Rattle.listing_length.specs.Weight.{sum_of, member_bytes, weight}
use Rattle.listing_length.proofs.Sums.{both}
use Rattle.listing_length.proofs.Fits.{MemberFits, Fits}
use Rattle.listing_length.proofs.Ranges.{Ranged, ranged_in, constant_in, named_in}
use Rattle.listing_length.proofs.Places.{layout-places}
use Rattle.listing_length.proofs.Pays.{Pays, stay, join, settle, on, same, read-on, skipped, taken, Costs, CostsOn, push_member_costs, push_value_costs, push_parameter_costs, declare_costs, named_type_costs, adjusted_costs, declared_row_costs, tag_row_costs, bare_enum_costs}
use Rattle.listing_length.proofs.Closes.{base_type_costs, both!, Laid, fields_laid, fields-bytes, define_body_costs, add_body_costs, close_enum_costs, step_bound, StepsFit, no_step, step, apply_costs}

no_bytes : length_of no_name ≡ 0
unfolding length_of
no_bytes = refl

-- a declarator: its name is read, and not yet listed
abbrev pub Declares : Tokens → State → Answer (Declarator × State) → Type 0
Declares ts s r = Every (λ (x : Declarator × State). Pays ts s 0 x.1 (2 * length_of x.0.name) × StepsFit x.0.steps) r

-- the readers one level below
pub record LevelsPay (ts : Tokens) (next : Levels) : Type 0 where
  pub composite : (union : Bool) (s : State) → Fits s.table → Costs ts 0 s (next.composite union s)
  pub enumeration : (s : State) → Fits s.table → Costs ts 0 s (next.enumeration s)
  pub declarator : (used : ℕ) (s : State) → Fits s.table → Declares ts s (next.declarator used s)
  pub direct : (used : ℕ) (s : State) → Fits s.table → Declares ts s (next.direct used s)
  pub constant : (s : State) → Fits s.table → Every (λ (x : ℤ × State). Pays ts s 0 x.1 0 × Ranged x.0) (next.constant s)

-- ---- readers that leave the table

module _ (ts : Tokens) where
  needed_costs : (k : ℕ) (s : State) → Fits s.table → CostsOn ts 0 s (needed ts k s)
  needed_costs k s h = weaker! (both! (needed-leaves ts k s) (needed-past ts k s)) (λ s' e. let z = e.1 in same h e.0 (read-on ts s.at s'.at (omega arith)))

  stars_costs : (f used : ℕ) (qs : List Qualifiers) (s : State) → Fits s.table → Costs ts 0 s (stars_from ts f used qs s)
  stars_costs f used qs s h = weaker! (both! (stars_from-leaves ts f used qs s) (stars_from-on ts f used qs s)) (λ x e. same h e.0 (read-on ts s.at x.1.at e.1))

  words_cost : (f : ℕ) (s : State) → Fits s.table → Pays ts s 0 (bound_words ts f s) 0
  words_cost f s h = same h (bound_words-leaves ts f s) (read-on ts s.at (bound_words ts f s).at (bound_words-on ts f s))

  initialiser_costs : (s : State) → Fits s.table → Pays ts s 0 (initialiser ts s) 0
  initialiser_costs s h = same h (initialiser-leaves ts s) (read-on ts s.at (initialiser ts s).at (initialiser-on ts s))

  constant_here_costs : (s : State) → Fits s.table → Every (λ (x : ℤ × State). Pays ts s 0 x.1 0 × Ranged x.0) (constant_here ts s)
  unfolding constant_here
  constant_here_costs s h = then! _ _ (both! (constant-past ts _ s.at) (constant_in ts _ (named_in s.table.values h.values) s.at)) λ r k. let z = k.0 in
      got! (same h refl (read-on ts s.at r.1 (omega arith)), k.1)

-- ---- readers over the levels below

module _ (ts : Tokens) (m : Model) (next : Levels) (ok : LevelsPay ts next) where
  tagged_type_costs : (k : ℕ) (s : State) → Fits s.table → Costs ts 0 s (tagged_type ts m next k s)
  unfolding tagged_type
  tagged_type_costs k s h = bool! (eqb k enum_word) (ok.enumeration s h) (ok.composite (eqb k union_word) s h)

  specifiers_from_costs : (f : ℕ) (p : Specifiers) (s : State) → Fits s.table → Costs ts 0 s (specifiers_from ts m next f p s)
  unfolding specifiers_from
  specifiers_from_costs zero p s h = got! (stay h)
  specifiers_from_costs (suc f) p s h = let g = skipped ts s h in
      bool! (is_word (kind_at ts s.at))
      (bool! (is_storage_word (kind_at ts s.at)) (weaker! (specifiers_from_costs f _ (skip s) h) (λ x k. on g k))
      (bool! (is_qualifier_word (kind_at ts s.at)) (weaker! (specifiers_from_costs f _ (skip s) h) (λ x k. on g k))
      (bool! (is_ignored_word (kind_at ts s.at)) (weaker! (specifiers_from_costs f p (skip s) h) (λ x k. on g k))
      (bool! (is_type_word (kind_at ts s.at)) (bool! (is_some p.base) no! (weaker! (specifiers_from_costs f _ (skip s) h) (λ x k. on g k)))
      (bool! (is_tag_word (kind_at ts s.at))
      (bool! (names_type p) no! (then! _ _ (tagged_type_costs _ (skip s) h) λ b k. weaker! (specifiers_from_costs f _ b.1 k.fits) (λ x l. on g (on k l))))
      (bool! (names_type p) (got! (stay h)) (then! _ _ (named_type_costs ts s h m) λ b k.
      weaker! (specifiers_from_costs f _ (skip b.1) k.fits) (λ x l. on k (on (skipped ts b.1 k.fits) l)))))))))
      (bool! (eqb (kind_at ts s.at) attribute) no! (got! (stay h)))

  specifiers_costs : (s : State) → Fits s.table → Costs ts 0 s (specifiers ts m next s)
  unfolding specifiers
  specifiers_costs s h = specifiers_from_costs (suc (left ts s.at)) no_specifiers s h

  -- ---- declarators

  bound_of_in : (z : ℤ) (at : ℕ) → Ranged z → Every (λ (n : ℕ). n < 2 ^ 64) (bound_of z at)
  unfolding in_range
  bound_of_in (pos n) at e = let p = ltb-true n (2 ^ 63) e in got! (omega arith)
  bound_of_in (negsuc n) at e = no!

  abbrev Bounds : State → Answer (Option ℕ × State) → Type 0
  Bounds s r = Every (λ (x : Option ℕ × State). Pays ts s 0 x.1 0 × (or_zero x.0 < 2 ^ 64)) r

  array_bound_costs : (s : State) → Fits s.table → Bounds s (array_bound ts m next s)
  unfolding array_bound constant_bound
  array_bound_costs s₀ h = let s = bound_words ts (suc (left ts s₀.at)) s₀ in let g : Pays ts s₀ 0 s 0 = words_cost ts (suc (left ts s₀.at)) s₀ h in
      bool! (stands ts close_bracket s) (got! (on g (skipped ts s g.fits), omega arith)) (bool! (stands ts star s) (then! _ _ any! λ s' e. no!)
      (then! _ _ (ok.constant s g.fits) λ v k. then! _ _ (needed_costs ts close_bracket v.1 k.0.fits) λ s' l.
      then! _ _ (bound_of_in v.0 s.at k.1) λ n b. got! (on g (on k.0 l), b)))

  parameter_costs : (s : State) → Fits s.table → Every (λ (x : ℕ × ℕ × State). Pays ts s 0 x.2 (2 * length_of x.1)) (parameter ts m next s)
  unfolding parameter
  parameter_costs s h = then! _ _ (specifiers_costs s h) λ p k. then! _ _ (base_type_costs ts p.1 k.fits m p.0 s.at) λ b l.
      then! _ _ (ok.declarator 0 b.1 l.fits) λ d j. then! _ _ (apply_costs ts d.0.steps j.1 b.0 d.1 j.0.fits) λ r i.
      got! (on k (on l (settle (join j.0 i) (omega arith))))

  abbrev Lists : State → Answer (DeclaratorStep × State) → Type 0
  Lists s r = Every (λ (x : DeclaratorStep × State). Pays ts s 0 x.1 0 × (step_bound x.0 < 2 ^ 64)) r

  parameters_end_costs : (v : Bool) (first n : ℕ) (s₀ s : State) → Pays ts s₀ 0 s 0 → Lists s₀ (parameters_end ts m next v first n s)
  unfolding parameters_end
  parameters_end_costs v first n s₀ s g = then! _ _ (needed_costs ts close_paren s g.fits) λ s' k. got! (on g k, omega arith)

  parameters_from_costs : (f first n : ℕ) (s₀ s : State) → Pays ts s₀ 0 s 0 → Lists s₀ (parameters_from ts m next f first n s)
  unfolding parameters_from
  parameters_from_costs zero first n s₀ s g = parameters_end_costs false first n s₀ s g
  parameters_from_costs (suc f) first n s₀ s g = bool! (stands ts ellipsis s) (parameters_end_costs true first n s₀ (skip s) (on g (skipped ts s g.fits)))
      (then! _ _ (parameter_costs s g.fits) λ p k. bool! (is_void_list ts n p.1 p.0 p.2)
      (parameters_end_costs false first n s₀ p.2 (on g (settle k (omega arith))))
      (then! _ _ (adjusted_costs ts p.2 k.fits s.at p.0) λ a j.
      then! _ _ (push_parameter_costs ts a.1 j.fits (record { row = mark_of first; type = a.0; name = p.1 })) λ e i.
      let all : Pays ts s₀ 0 e.1 0 = on g (settle (join k (join j i)) (omega arith)) in
      bool! (stands ts comma e.1) (parameters_from_costs f first (suc n) s₀ (skip e.1) (on all (skipped ts e.1 all.fits)))
      (parameters_end_costs false first (suc n) s₀ e.1 all)))

  parameters_costs : (s : State) → Fits s.table → Lists s (parameters ts m next s)
  unfolding parameters
  parameters_costs s h = bool! (stands ts close_paren s) (got! (skipped ts s h, omega arith)) (parameters_from_costs (suc (left ts s.at)) (length s.table.parameters) 0 s s (stay h))

  -- after a name that was read from s₀ on
  suffixes_from_costs : (f used : ℕ) (d : Declarator) (s₀ s : State) → Pays ts s₀ 0 s (2 * length_of d.name) → StepsFit d.steps → Declares ts s₀ (suffixes_from ts m next f used d s)
  unfolding suffixes_from
  suffixes_from_costs zero used d s₀ s g q = got! (g, q)
  suffixes_from_costs (suc f) used d s₀ s g q =
      bool! (stands ts open_bracket s)
      (then! _ _ (one_more_step-stays ts (used + length d.steps) (skip s)) λ s₁ e. let k : Pays ts s 0 s₁ 0 = rw e (skipped ts s g.fits) in
      then! _ _ (array_bound_costs s₁ k.fits) λ b h.
      suffixes_from_costs f used (with_step d (array_step b.0)) s₀ b.1 (settle (join g (on k h.0)) (omega arith)) (step h.1 q))
      (bool! (stands ts open_paren s)
      (then! _ _ (one_more_step-stays ts (used + length d.steps) (skip s)) λ s₁ e. let k : Pays ts s 0 s₁ 0 = rw e (skipped ts s g.fits) in
      then! _ _ (parameters_costs s₁ k.fits) λ p h.
      suffixes_from_costs f used (with_step d p.0) s₀ p.1 (settle (join g (on k h.0)) (omega arith)) (step h.1 q))
      (got! (g, q)))

  suffixes_costs : (used : ℕ) (d : Declarator) (s₀ s : State) → Pays ts s₀ 0 s (2 * length_of d.name) → StepsFit d.steps → Declares ts s₀ (suffixes ts m next used d s)
  unfolding suffixes
  suffixes_costs used d s₀ s g q = suffixes_from_costs (suc (left ts s.at)) used d s₀ s g q

  direct_costs : (used : ℕ) (s : State) → Fits s.table → Declares ts s (direct₁ ts m next used s)
  unfolding direct₁
  direct_costs used s h = test! (is_name (kind_at ts s.at)) (λ e. suffixes_costs used (named (number_at ts s.at)) s (skip s) (taken ts s h e) no_step)
      (λ e. bool! (opens_declarator ts m s)
      (then! _ _ (ok.declarator used (skip s) h) λ d k. then! _ _ (needed_costs ts close_paren d.1 k.0.fits) λ s' l.
      suffixes_costs used d.0 s s' (on (skipped ts s h) (settle (join k.0 l) (omega arith))) k.1)
      (suffixes_costs used unnamed s s (settle (stay h) (omega (arith, no_bytes))) no_step))

  starred-fits : (qs : List Qualifiers) (xs : List DeclaratorStep) → StepsFit xs → StepsFit (starred qs xs)
  unfolding starred
  starred-fits [] xs q = q
  starred-fits (x ∷ qs) xs q = starred-fits qs (pointer_step x ∷ xs) (step (omega arith) q)

  declarator_costs : (used : ℕ) (s : State) → Fits s.table → Declares ts s (declarator₁ ts m next used s)
  unfolding declarator₁
  declarator_costs used s h = then! _ _ (stars_costs ts (suc (left ts s.at)) used [] s h) λ r k.
      then! _ _ (ok.direct (used + length r.0) r.1 k.fits) λ d j. got! (on k j.0, starred-fits r.0 d.0.steps j.1)

  -- ---- bodies

  width_of_in : (z : ℤ) (at : ℕ) → Every (λ (n : ℕ). n ≤ 64) (width_of z at)
  width_of_in (pos n) at = test! (leb n 64) (λ e. got! (leb-true n 64 e)) (λ e. no!)
  width_of_in (negsuc n) at = no!

  bit_width_costs : (at : ℕ) (s : State) → Fits s.table → Every (λ (x : Option ℕ × State). Pays ts s 0 x.1 0 × (or_zero x.0 ≤ 64)) (bit_width ts m next at s)
  unfolding bit_width
  bit_width_costs at s h = bool! (stands ts colon s)
      (then! _ _ (ok.constant (skip s) h) λ v k. then! _ _ (width_of_in v.0 at) λ w l. got! (on (skipped ts s h) k.0, l)) (got! (stay h, omega arith))

  -- a member that carries the mark of its list
  fresh-fits : (first b w : ℕ) (o : Option ℕ) (at : ℕ) → or_zero o ≤ 64 → MemberFits (fresh first b w o at)
  unfolding mark_of
  fresh-fits first b w o at p = record { width = p; stands = λ l. absurd (omega arith) }

  member_declarator_costs : (first b : ℕ) (s : State) → Fits s.table → CostsOn ts 0 s (member_declarator ts m next first b s)
  unfolding member_declarator
  member_declarator_costs first b s h = bool! (stands ts colon s)
      (then! _ _ (bit_width_costs s.at s h) λ w k. then! _ _ (push_member_costs ts w.1 k.0.fits (fresh first b no_name w.0 s.at) (fresh-fits first b no_name w.0 s.at k.1)) λ e j.
      got! (settle (join k.0 j) (omega (arith, no_bytes))))
      (then! _ _ (ok.declarator 0 s h) λ d g. then! _ _ (apply_costs ts d.0.steps g.1 b d.1 g.0.fits) λ r l.
      then! _ _ (bit_width_costs s.at r.1 l.fits) λ w k. bool! (eqb d.0.name no_name) no!
      (then! _ _ (push_member_costs ts w.1 k.0.fits (fresh first r.0 d.0.name w.0 s.at) (fresh-fits first r.0 d.0.name w.0 s.at k.1)) λ e j.
      got! (settle (join g.0 (join l (join k.0 j))) (omega arith))))

  member_declarators_costs : (f first b : ℕ) (s : State) → Fits s.table → CostsOn ts 0 s (member_declarators ts m next f first b s)
  unfolding member_declarators
  member_declarators_costs zero first b s h = no!
  member_declarators_costs (suc f) first b s h = then! _ _ (member_declarator_costs first b s h) λ s₁ k. bool! (stands ts comma s₁)
      (weaker! (member_declarators_costs f first b (skip s₁) k.fits) (λ x j. on k (on (skipped ts s₁ k.fits) j)))
      (weaker! (needed_costs ts semicolon s₁ k.fits) (λ x j. on k j))

  anonymous_member_costs : (first b at : ℕ) (s : State) → Fits s.table → CostsOn ts 0 s (anonymous_member ts m next first b at s)
  unfolding anonymous_member
  anonymous_member_costs first b at s h = bool! (is_composite (resolved_kind s.table b))
      (then! _ _ (push_member_costs ts s h (fresh first b no_name none at) (fresh-fits first b no_name none at (omega arith))) λ e j. got! (settle j (omega (arith, no_bytes)))) no!

  member_declaration_costs : (first : ℕ) (s : State) → Fits s.table → CostsOn ts 0 s (member_declaration ts m next first s)
  unfolding member_declaration
  member_declaration_costs first s h = then! _ _ (specifiers_costs s h) λ p k. bool! (eqb (storage_number p.0.storage) (storage_number noStorage))
      (then! _ _ (base_type_costs ts p.1 k.fits m p.0 s.at) λ b l. let g = on k l in bool! (stands ts semicolon b.1)
      (weaker! (anonymous_member_costs first b.0 s.at (skip b.1) g.fits) (λ x j. on g (on (skipped ts b.1 g.fits) j)))
      (weaker! (member_declarators_costs (suc (left ts s.at)) first b.0 b.1 g.fits) (λ x j. on g j)))
      no!

  members_from_costs : (f first : ℕ) (s : State) → Fits s.table → CostsOn ts 0 s (members_from ts m next f first s)
  unfolding members_from
  members_from_costs zero first s h = no!
  members_from_costs (suc f) first s h = bool! (stands ts close_brace s) (got! (skipped ts s h)) (bool! (stands ts end s) no!
      (bool! (stands ts semicolon s) (weaker! (members_from_costs f first (skip s) h) (λ x j. on (skipped ts s h) j))
      (then! _ _ (member_declaration_costs first s h) λ s₁ k. weaker! (members_from_costs f first s₁ k.fits) (λ x j. on k j))))

  -- members with the same names may stand for a table's members; a note changes no list
  put : (s : State) (b : Bool) (ms : List Member) → Fits s.table → Each (λ i e. MemberFits e) 0 ms → sum_of member_bytes ms ≡ sum_of member_bytes s.table.members
      → Pays ts s 0 (with_table s (with_members (noted b s.table) ms)) 0
  unfolding noted weight
  put s true ms h k e = record { fits = record { few = h.few; rows = h.rows; members = k; values = h.values }; weighs = omega arith }
  put s false ms h k e = record { fits = record { few = h.few; rows = h.rows; members = k; values = h.values }; weighs = omega arith }

  body_costs : (union : Bool) (at : ℕ) (s : State) → Fits s.table
      → Every (λ (x : Body × State). Pays ts s 0 x.1 0 × Each (Laid x.0.fields.first) 0 x.1.table.members) (body ts m next union at s)
  unfolding body
  body_costs union at s h = let first = length s.table.members in
      then! _ _ (members_from_costs (suc (left ts s.at)) first s h) λ s₁ k.
      then! _ _ (layout-places m s₁.table union first at k.fits.members) λ l j. let laid = fields_laid first (both j.fits j.ready) in
      got! (on k (put s₁ _ (fields_only first l.1) k.fits (fitting laid) (fields-bytes first l.1 ∙ j.bytes)), laid)
    where
      fitting : {first n : ℕ} {ms : List Member} → Each (Laid first) n ms → Each (λ i e. MemberFits e) n ms
      fitting h = each_weaker h (λ i e k. k.0)

  composite_costs : (union : Bool) (s : State) → Fits s.table → Costs ts 0 s (composite₁ ts m next union s)
  unfolding composite₁ tagged_composite untagged_composite
  composite_costs union s h = test! (is_name (kind_at ts s.at))
      (λ e. let g = taken ts s h e in then! _ _ (tag_row_costs ts (skip s) h union (number_at ts s.at)) λ r k. bool! (stands ts open_brace r.1)
      (then! _ _ (body_costs union s.at (skip r.1) k.0.fits) λ b j.
      let d = define_body_costs ts union (number_at ts s.at) r.0 b.0 b.1 j.0.fits j.1 k.1 in
      got! (settle (join g (join k.0 (on (skipped ts r.1 k.0.fits) (on j.0 d)))) (omega arith)))
      (got! (settle (join g k.0) (omega arith))))
      (λ e. bool! (stands ts open_brace s)
      (then! _ _ (body_costs union s.at (skip s) h) λ b j. weaker! (add_body_costs ts union b.0 b.1 j.0.fits j.1) (λ x i. on (skipped ts s h) (on j.0 i)))
      no!)

  -- ---- enumerations

  enumerator_value_costs : (value : ℤ) (s : State) → Fits s.table → Costs ts 0 s (enumerator_value ts m next value s)
  unfolding enumerator_value
  enumerator_value_costs value s h = bool! (stands ts equals s) (weaker! (ok.constant (skip s) h) (λ x k. on (skipped ts s h) k.0)) (got! (stay h))

  enumerator_costs : (first : ℕ) (value : ℤ) (s : State) → Fits s.table → Costs ts 0 s (enumerator ts m next first value s)
  unfolding enumerator
  enumerator_costs first value s h = test! (is_name (kind_at ts s.at))
      (λ e. then! _ _ (enumerator_value_costs value (skip s) h) λ v k. then! _ _ (ranged_in s.at v.0) λ x r.
      then! _ _ (push_value_costs ts v.1 k.fits (record { row = mark_of first; name = number_at ts s.at; value = x }) r) λ y j.
      got! (settle (join (taken ts s h e) (on k j)) (omega arith)))
      (λ e. no!)

  enumerators_from_costs : (f first : ℕ) (value : ℤ) (s : State) → Fits s.table → CostsOn ts 0 s (enumerators_from ts m next f first value s)
  unfolding enumerators_from
  enumerators_from_costs zero first value s h = no!
  enumerators_from_costs (suc f) first value s h = bool! (stands ts close_brace s) (got! (skipped ts s h))
      (then! _ _ (enumerator_costs first value s h) λ e k. bool! (stands ts comma e.1)
      (weaker! (enumerators_from_costs f first _ (skip e.1) k.fits) (λ x j. on k (on (skipped ts e.1 k.fits) j)))
      (weaker! (needed_costs ts close_brace e.1 k.fits) (λ x j. on k j)))

  enum_body_costs : (w : ℕ) (s : State) → Fits s.table → Costs ts (2 * length_of w) s (enum_body ts m next w s)
  unfolding enum_body
  enum_body_costs w s h = then! _ _ (enumerators_from_costs (suc (left ts s.at)) (length s.table.values) (pos 0) s h) λ s₁ k.
      weaker! (close_enum_costs ts w _ _ s₁ k.fits) (λ x j. on k j)

  after_tag_costs : (w at : ℕ) (s : State) → Fits s.table → Costs ts (2 * length_of w) s (after_tag ts m next w at s)
  unfolding after_tag
  after_tag_costs w at s h = bool! (stands ts colon s) no! (bool! (stands ts open_brace s) (weaker! (enum_body_costs w (skip s) h) (λ x k. on (skipped ts s h) k)) (bare_enum_costs ts s h m w at))

  enumeration_costs : (s : State) → Fits s.table → Costs ts 0 s (enumeration₁ ts m next s)
  unfolding enumeration₁
  enumeration_costs s h = test! (is_name (kind_at ts s.at))
      (λ e. weaker! (after_tag_costs (number_at ts s.at) s.at (skip s) h) (λ x k. settle (join (taken ts s h e) k) (omega arith)))
      (λ e. weaker! (after_tag_costs no_name s.at s h) (λ x k. settle k (omega (arith, no_bytes))))

-- ---- at every level

pub levels_pay : (ts : Tokens) (m : Model) (room : ℕ) → LevelsPay ts (levels ts m room)
unfolding levels
levels_pay ts m zero = record { composite = λ u s h. no!; enumeration = λ s h. no!; declarator = λ n s h. no!; direct = λ n s h. no!; constant = λ s h. no! }
levels_pay ts m (suc room) = let k = levels_pay ts m room in record {
  composite = composite_costs ts m _ k;
  enumeration = enumeration_costs ts m _ k;
  declarator = declarator_costs ts m _ k;
  direct = direct_costs ts m _ k;
  constant = constant_here_costs ts;
}

-- ---- declarations

module _ (ts : Tokens) (m : Model) where
  -- a typedef's name is listed in its row and in its declaration
  init_declarator_costs : (c : Storage) (b : ℕ) (s : State) → Fits s.table → CostsOn ts 0 s (init_declarator ts m c b s)
  unfolding init_declarator
  init_declarator_costs c b s h = then! _ _ ((levels_pay ts m (max_depth - 1)).declarator 0 s h) λ d g.
      then! _ _ (apply_costs ts d.0.steps g.1 b d.1 g.0.fits) λ r l. bool! (eqb d.0.name no_name) no!
      (let k = initialiser_costs ts r.1 l.fits in
      then! _ _ (declared_row_costs ts (initialiser ts r.1) k.fits c d.0.name r.0 s.at) λ n j.
      weaker! (declare_costs ts n.1 j.fits c n.0 d.0.name) (λ x i. settle (join g.0 (on l (on k (join j i)))) (omega arith)))

  init_declarators_costs : (f : ℕ) (c : Storage) (b : ℕ) (s : State) → Fits s.table → CostsOn ts 0 s (init_declarators ts m f c b s)
  unfolding init_declarators
  init_declarators_costs zero c b s h = no!
  init_declarators_costs (suc f) c b s h = then! _ _ (init_declarator_costs c b s h) λ s₁ k. bool! (stands ts comma s₁)
      (weaker! (init_declarators_costs f c b (skip s₁) k.fits) (λ x j. on k (on (skipped ts s₁ k.fits) j))) (got! k)

  pub declaration_costs : (s : State) → Fits s.table → CostsOn ts 0 s (declaration ts m s)
  unfolding declaration
  declaration_costs s h = then! _ _ (specifiers_costs ts m _ (levels_pay ts m (max_depth - 1)) s h) λ p k.
      then! _ _ (base_type_costs ts p.1 k.fits m p.0 s.at) λ b l. let g = on k l in
      bool! (stands ts semicolon b.1 || stands ts end b.1)
      (bool! (is_typedef p.0.storage) no! (weaker! (declare_costs ts b.1 g.fits p.0.storage b.0 no_name) (λ x i. settle (join g i) (omega (arith, no_bytes)))))
      (weaker! (init_declarators_costs (suc (left ts s.at)) p.0.storage b.0 b.1 g.fits) (λ x i. on g i))

  separated_costs : (s : State) → Fits s.table → CostsOn ts 0 s (separated ts m s)
  unfolding separated
  separated_costs s h = bool! (stands ts semicolon s) (got! (skipped ts s h)) (bool! (stands ts end s) (got! (stay h)) no!)

  pub declarations_from_costs : (f : ℕ) (s : State) → Fits s.table → CostsOn ts 0 s (declarations_from ts m f s)
  unfolding declarations_from
  declarations_from_costs zero s h = got! (stay h)
  declarations_from_costs (suc f) s h = bool! (stands ts end s) (got! (stay h))
      (bool! (stands ts semicolon s) (weaker! (declarations_from_costs f (skip s) h) (λ x j. on (skipped ts s h) j))
      (then! _ _ (declaration_costs s h) λ s₁ k. then! _ _ (separated_costs s₁ k.fits) λ s₂ l. weaker! (declarations_from_costs f s₂ l.fits) (λ x j. on k (on l j))))
