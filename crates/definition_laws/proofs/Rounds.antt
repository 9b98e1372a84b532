-- "Each round reads one": the rounds of every loop of the parser are enough, so that no loop ends for want of them. Assumes nothing.
use mathlib.Core.Path.{◌≡◌, refl, sym, ◌∙◌}
use mathlib.Core.Logic.{◌⊎◌, inl, inr, ⊎_elim}
use mathlib.Core.Bool.{true, false, ◌||◌, ◌&&◌, not}
use mathlib.Core.Option.{Option}
use mathlib.Core.List.{List}
use Prim.Native.Nat.{ℕ, zero, suc, ◌+◌, ◌<◌}
use native.Mathlib.Omega.{arith}
use lib.Dec.{eqb, ltb}
use lib.IntN.{ℤ, pos}
use lib.Signed.{le_z}
use lib.ListN.{length}
use borrow.Author.Tests.{le-ltb}
use Rattle.definition.specs.Answer.{got}
use Rattle.definition.specs.Kind.{end, is_word, atomic_word, static_word, star, open_paren, open_bracket, close_brace, comma, ellipsis, semicolon}
use Rattle.definition.specs.Token.{Tokens, kind_at, left}
use Rattle.definition.specs.Model.{Model}
use Rattle.definition.specs.Arithmetic.{precedence, operators, operator_in}
use Rattle.definition.specs.Constant.{Readers, operators_from}
use Rattle.definition.specs.Row.{Qualifiers, unqualified, is_some}
use Rattle.definition.specs.Table.{Storage, State, skip}
use Rattle.definition.specs.Specifier.{Specifiers, names_type, is_storage_word, is_qualifier_word, is_ignored_word, is_type_word}
use Rattle.definition.specs.Specifiers.{is_tag_word, specifiers_from}
use Rattle.definition.specs.Grammar.{Declarator, Levels, stands}
use Rattle.definition.specs.Declarator.{qualifiers_from, qualifiers_here, stars_from, bound_words, is_void_list, parameters_from, suffixes_from}
use Rattle.definition.specs.Composite.{member_declarators, members_from}
use Rattle.definition.specs.Enumeration.{enumerators_from}
use Rattle.definition.specs.Reader.{skip_initialiser, init_declarators, declarations_from, separated}
use Rattle.lemmas.proofs.Branch.{yes}
use Rattle.lemmas.proofs.Truth.{neither-first}
use Rattle.definition_laws.specs.Every.{Every}
use Rattle.definition_laws.specs.Enough.{Enough}
use Rattle.definition_laws.proofs.Every.{got!, no!, bool!, test!, any! }
use Rattle.definition_laws.proofs.ConstantProgress.{ReadersPast}
use Rattle.definition_laws.proofs.TableProgress.{named_type-stays, push_parameter-stays, adjusted-stays}
use Rattle.definition_laws.proofs.Progress.{LevelsOn, qualifiers_from-on, one_more_step-stays, tagged_type-past, array_bound-past, parameters-past, parameter-on, member_declarator-on, member_declaration-past, enumerator-past, init_declarator-on, declaration-on}
use Rattle.definition_laws.proofs.Same.{same_bool, same_then, there, enough}

-- ---- the end is in no class of tokens

no_operator : (low : ℕ) → ltb low (precedence end) ≡ false
unfolding precedence operators operator_in
no_operator low = le-ltb low 0 (omega arith)

no_qualifier : is_qualifier_word end ≡ false
unfolding is_qualifier_word
no_qualifier = refl

no_word : is_word end ≡ false
unfolding is_word
no_word = refl

no_bound_word : (eqb end static_word || (is_qualifier_word end || eqb end atomic_word)) ≡ false
unfolding is_qualifier_word
no_bound_word = refl

module _ (ts : Tokens) (known : ℕ → Option ℤ) (next : Readers) (ok : ReadersPast next) where
  operators-agree : (f g low : ℕ) (x : ℤ) (at : ℕ) → left ts at < f → left ts at < g → operators_from ts known next f low x at ≡ operators_from ts known next g low x at
  unfolding operators_from
  operators-agree zero g low x at p q = absurd (omega arith)
  operators-agree (suc f) zero low x at p q = absurd (omega arith)
  operators-agree (suc f) (suc g) low x at p q = same_bool (ltb low (precedence (kind_at ts at)))
      (λ e. let l = there ts (λ k. ltb low (precedence k)) at (no_operator low) e in
      same_then _ _ _ (ok.chain _ (at + 1)) λ r h. same_then _ _ _ any! λ v k. operators-agree f g low v r.1 (omega arith) (omega arith))
      (λ e. refl)

  pub operators-enough : (low : ℕ) (x : ℤ) (at : ℕ) → Enough (λ f. operators_from ts known next f low x at) (suc (left ts at))
  operators-enough low x at = enough (λ f g. operators-agree f g low x at)

-- ---- readers that need no level below

module _ (ts : Tokens) where
  -- a mark stands here, so a token is left
  pub here! : (mark : ℕ) (s : State) → eqb end mark ≡ false → stands ts mark s ≡ true → s.at < length ts.kinds
  here! mark s = there ts (λ k. eqb k mark) s.at

  -- the end does not stand here, so a token is left
  pub not_end : (s : State) → stands ts end s ≡ false → s.at < length ts.kinds
  not_end s e = there ts (λ k. not (eqb k end)) s.at refl (rw e)

  qualifiers-agree : (f g : ℕ) (q : Qualifiers) (s : State) → left ts s.at < f → left ts s.at < g → qualifiers_from ts f q s ≡ qualifiers_from ts g q s
  unfolding qualifiers_from
  qualifiers-agree zero g x s p q = absurd (omega arith)
  qualifiers-agree (suc f) zero x s p q = absurd (omega arith)
  qualifiers-agree (suc f) (suc g) x s p q = same_bool (is_qualifier_word (kind_at ts s.at))
      (λ e. let l = there ts is_qualifier_word s.at no_qualifier e in qualifiers-agree f g _ (skip s) (omega arith) (omega arith))
      (λ u. same_bool (stands ts atomic_word s) (λ e. let l = here! atomic_word s refl e in qualifiers-agree f g x (skip s) (omega arith) (omega arith)) (λ e. refl))

  pub qualifiers-enough : (q : Qualifiers) (s : State) → Enough (λ f. qualifiers_from ts f q s) (suc (left ts s.at))
  qualifiers-enough x s = enough (λ f g. qualifiers-agree f g x s)

  stars-agree : (f g used : ℕ) (qs : List Qualifiers) (s : State) → left ts s.at < f → left ts s.at < g → stars_from ts f used qs s ≡ stars_from ts g used qs s
  unfolding stars_from
  stars-agree zero g used qs s p q = absurd (omega arith)
  stars-agree (suc f) zero used qs s p q = absurd (omega arith)
  stars-agree (suc f) (suc g) used qs s p q = same_bool (stands ts star s)
      (λ e. let l = here! star s refl e in same_then _ _ _ (one_more_step-stays ts _ (skip s)) λ s₁ d.
      let k = qualifiers_from-on ts (suc (left ts s₁.at)) unqualified s₁ in let j : s₁.at ≡ s.at + 1 = rw d in
      stars-agree f g used _ (qualifiers_here ts s₁).1 (omega arith) (omega arith))
      (λ e. refl)

  pub stars-enough : (used : ℕ) (qs : List Qualifiers) (s : State) → Enough (λ f. stars_from ts f used qs s) (suc (left ts s.at))
  stars-enough used qs s = enough (λ f g. stars-agree f g used qs s)

  bound_words_agree : (f g : ℕ) (s : State) → left ts s.at < f → left ts s.at < g → bound_words ts f s ≡ bound_words ts g s
  unfolding bound_words
  bound_words_agree zero g s p q = absurd (omega arith)
  bound_words_agree (suc f) zero s p q = absurd (omega arith)
  bound_words_agree (suc f) (suc g) s p q = same_bool (stands ts static_word s || (is_qualifier_word (kind_at ts s.at) || stands ts atomic_word s))
      (λ e. let l = there ts (λ k. eqb k static_word || (is_qualifier_word k || eqb k atomic_word)) s.at no_bound_word e in bound_words_agree f g (skip s) (omega arith) (omega arith))
      (λ e. refl)

  pub bound_words_enough : (s : State) → Enough (λ f. bound_words ts f s) (suc (left ts s.at))
  bound_words_enough s = enough (λ f g. bound_words_agree f g s)

  initialiser-agree : (f g : ℕ) (depth : ℤ) (s : State) → left ts s.at < f → left ts s.at < g → skip_initialiser ts f depth s ≡ skip_initialiser ts g depth s
  unfolding skip_initialiser
  initialiser-agree zero g depth s p q = absurd (omega arith)
  initialiser-agree (suc f) zero depth s p q = absurd (omega arith)
  initialiser-agree (suc f) (suc g) depth s p q = same_bool (stands ts end s || ((stands ts comma s || stands ts semicolon s) && le_z depth (pos 0)))
      (λ e. refl)
      (λ e. let l = not_end s (neither-first (stands ts end s) _ e) in initialiser-agree f g _ (skip s) (omega arith) (omega arith))

  pub initialiser-enough : (depth : ℤ) (s : State) → Enough (λ f. skip_initialiser ts f depth s) (suc (left ts s.at))
  initialiser-enough depth s = enough (λ f g. initialiser-agree f g depth s)

-- ---- readers over the levels below

module _ (ts : Tokens) (m : Model) (next : Levels) (ok : LevelsOn next) where
  specifiers-agree : (f g : ℕ) (x : Specifiers) (s : State) → left ts s.at < f → left ts s.at < g → specifiers_from ts m next f x s ≡ specifiers_from ts m next g x s
  unfolding specifiers_from
  specifiers-agree zero g x s p q = absurd (omega arith)
  specifiers-agree (suc f) zero x s p q = absurd (omega arith)
  specifiers-agree (suc f) (suc g) x s p q =
      same_bool (is_word (kind_at ts s.at)) (λ e. let l = there ts is_word s.at no_word e in
      same_bool (is_storage_word (kind_at ts s.at)) (λ u. specifiers-agree f g _ (skip s) (omega arith) (omega arith)) (λ u.
      same_bool (is_qualifier_word (kind_at ts s.at)) (λ u. specifiers-agree f g _ (skip s) (omega arith) (omega arith)) (λ u.
      same_bool (is_ignored_word (kind_at ts s.at)) (λ u. specifiers-agree f g _ (skip s) (omega arith) (omega arith)) (λ u.
      same_bool (is_type_word (kind_at ts s.at))
      (λ u. same_bool (is_some x.base) (λ v. refl) (λ v. specifiers-agree f g _ (skip s) (omega arith) (omega arith)))
      (λ u. same_bool (is_tag_word (kind_at ts s.at))
      (λ v. same_bool (names_type x) (λ w. refl)
      (λ w. same_then _ _ _ (tagged_type-past ts m next ok _ (skip s)) λ b h. specifiers-agree f g _ b.1 (omega arith) (omega arith)))
      (λ v. same_bool (names_type x) (λ w. refl)
      (λ w. same_then _ _ _ (named_type-stays s ts m) λ b h. specifiers-agree f g _ (skip b.1) (omega arith) (omega arith))))))))
      (λ e. refl)

  pub specifiers-enough : (x : Specifiers) (s : State) → Enough (λ f. specifiers_from ts m next f x s) (suc (left ts s.at))
  specifiers-enough x s = enough (λ f g. specifiers-agree f g x s)

  parameters-agree : (f g first n : ℕ) (s : State) → left ts s.at < f → left ts s.at < g → parameters_from ts m next f first n s ≡ parameters_from ts m next g first n s
  unfolding parameters_from
  parameters-agree zero g first n s p q = absurd (omega arith)
  parameters-agree (suc f) zero first n s p q = absurd (omega arith)
  parameters-agree (suc f) (suc g) first n s p q = same_bool (stands ts ellipsis s) (λ e. refl)
      (λ e. same_then _ _ _ (parameter-on ts m next ok s) λ x h. same_bool (is_void_list ts n x.1 x.0 x.2) (λ v. refl)
      (λ v. same_then _ _ _ (adjusted-stays x.2 s.at x.0) λ a i. same_then _ _ _ (push_parameter-stays a.1 _) λ y j.
      same_bool (stands ts comma y.1) (λ w. let l = here! ts comma y.1 refl w in parameters-agree f g first (suc n) (skip y.1) (omega arith) (omega arith)) (λ w. refl)))

  pub parameters-enough : (first n : ℕ) (s : State) → Enough (λ f. parameters_from ts m next f first n s) (suc (left ts s.at))
  parameters-enough first n s = enough (λ f g. parameters-agree f g first n s)

  suffixes-agree : (f g used : ℕ) (d : Declarator) (s : State) → left ts s.at < f → left ts s.at < g → suffixes_from ts m next f used d s ≡ suffixes_from ts m next g used d s
  unfolding suffixes_from
  suffixes-agree zero g used d s p q = absurd (omega arith)
  suffixes-agree (suc f) zero used d s p q = absurd (omega arith)
  suffixes-agree (suc f) (suc g) used d s p q =
      same_bool (stands ts open_bracket s) (λ e. let l = here! ts open_bracket s refl e in
      same_then _ _ _ (one_more_step-stays ts _ (skip s)) λ s₁ i. let j : s₁.at ≡ s.at + 1 = rw i in
      same_then _ _ _ (array_bound-past ts m next ok s₁) λ b h. suffixes-agree f g used _ b.1 (omega arith) (omega arith))
      (λ e. same_bool (stands ts open_paren s) (λ v. let l = here! ts open_paren s refl v in
      same_then _ _ _ (one_more_step-stays ts _ (skip s)) λ s₁ i. let j : s₁.at ≡ s.at + 1 = rw i in
      same_then _ _ _ (parameters-past ts m next ok s₁) λ b h. suffixes-agree f g used _ b.1 (omega arith) (omega arith))
      (λ v. refl))

  pub suffixes-enough : (used : ℕ) (d : Declarator) (s : State) → Enough (λ f. suffixes_from ts m next f used d s) (suc (left ts s.at))
  suffixes-enough used d s = enough (λ f g. suffixes-agree f g used d s)

  member_declarators_agree : (f g first b : ℕ) (s : State) → left ts s.at < f → left ts s.at < g
      → member_declarators ts m next f first b s ≡ member_declarators ts m next g first b s
  unfolding member_declarators
  member_declarators_agree zero g first b s p q = absurd (omega arith)
  member_declarators_agree (suc f) zero first b s p q = absurd (omega arith)
  member_declarators_agree (suc f) (suc g) first b s p q = same_then _ _ _ (member_declarator-on ts m next ok first b s) λ s₁ h.
      same_bool (stands ts comma s₁) (λ e. let l = here! ts comma s₁ refl e in member_declarators_agree f g first b (skip s₁) (omega arith) (omega arith)) (λ e. refl)

  pub member_declarators_enough : (first b : ℕ) (s : State) → Enough (λ f. member_declarators ts m next f first b s) (suc (left ts s.at))
  member_declarators_enough first b s = enough (λ f g. member_declarators_agree f g first b s)

  members-agree : (f g first : ℕ) (s : State) → left ts s.at < f → left ts s.at < g → members_from ts m next f first s ≡ members_from ts m next g first s
  unfolding members_from
  members-agree zero g first s p q = absurd (omega arith)
  members-agree (suc f) zero first s p q = absurd (omega arith)
  members-agree (suc f) (suc g) first s p q = same_bool (stands ts close_brace s) (λ e. refl) (λ e. same_bool (stands ts end s) (λ u. refl) (λ u. let l = not_end ts s u in
      same_bool (stands ts semicolon s) (λ v. members-agree f g first (skip s) (omega arith) (omega arith))
      (λ v. same_then _ _ _ (member_declaration-past ts m next ok first s) λ s₁ h. members-agree f g first s₁ (omega arith) (omega arith))))

  pub members-enough : (first : ℕ) (s : State) → Enough (λ f. members_from ts m next f first s) (suc (left ts s.at))
  members-enough first s = enough (λ f g. members-agree f g first s)

  enumerators_agree : (f g first : ℕ) (value : ℤ) (s : State) → left ts s.at < f → left ts s.at < g
      → enumerators_from ts m next f first value s ≡ enumerators_from ts m next g first value s
  unfolding enumerators_from
  enumerators_agree zero g first value s p q = absurd (omega arith)
  enumerators_agree (suc f) zero first value s p q = absurd (omega arith)
  enumerators_agree (suc f) (suc g) first value s p q = same_bool (stands ts close_brace s) (λ e. refl)
      (λ e. same_then _ _ _ (enumerator-past ts m next ok first value s) λ x h. same_bool (stands ts comma x.1)
      (λ u. let l = here! ts comma x.1 refl u in enumerators_agree f g first _ (skip x.1) (omega arith) (omega arith)) (λ u. refl))

  pub enumerators_enough : (first : ℕ) (value : ℤ) (s : State) → Enough (λ f. enumerators_from ts m next f first value s) (suc (left ts s.at))
  enumerators_enough first value s = enough (λ f g. enumerators_agree f g first value s)

-- ---- declarations

module _ (ts : Tokens) (m : Model) where
  init_declarators_agree : (f g : ℕ) (c : Storage) (b : ℕ) (s : State) → left ts s.at < f → left ts s.at < g → init_declarators ts m f c b s ≡ init_declarators ts m g c b s
  unfolding init_declarators
  init_declarators_agree zero g c b s p q = absurd (omega arith)
  init_declarators_agree (suc f) zero c b s p q = absurd (omega arith)
  init_declarators_agree (suc f) (suc g) c b s p q = same_then _ _ _ (init_declarator-on ts m c b s) λ s₁ h.
      same_bool (stands ts comma s₁) (λ e. let l = here! ts comma s₁ refl e in init_declarators_agree f g c b (skip s₁) (omega arith) (omega arith)) (λ e. refl)

  pub init_declarators_enough : (c : Storage) (b : ℕ) (s : State) → Enough (λ f. init_declarators ts m f c b s) (suc (left ts s.at))
  init_declarators_enough c b s = enough (λ f g. init_declarators_agree f g c b s)

  -- a separator is a semicolon, or the end stands where it stood
  separated-here : (s : State) → Every (λ (s' : State). (s'.at ≡ s.at + 1) ⊎ ((s' ≡ s) × (stands ts end s ≡ true))) (separated ts m s)
  unfolding separated
  separated-here s = bool! (stands ts semicolon s) (got! (inl refl)) (test! (stands ts end s) (λ e. got! (inr (refl, e))) (λ e. no!))

  -- at the end no round is wanted
  ended : (f : ℕ) (s : State) → stands ts end s ≡ true → declarations_from ts m f s ≡ got s
  unfolding declarations_from
  ended zero s e = refl
  ended (suc f) s e = yes (stands ts end s) _ _ e

  declarations-agree : (f g : ℕ) (s : State) → left ts s.at < f → left ts s.at < g → declarations_from ts m f s ≡ declarations_from ts m g s
  unfolding declarations_from
  declarations-agree zero g s p q = absurd (omega arith)
  declarations-agree (suc f) zero s p q = absurd (omega arith)
  declarations-agree (suc f) (suc g) s p q = same_bool (stands ts end s) (λ e. refl) (λ e. let l = not_end ts s e in
      same_bool (stands ts semicolon s) (λ u. declarations-agree f g (skip s) (omega arith) (omega arith))
      (λ u. same_then _ _ _ (declaration-on ts m s) λ s₁ h. same_then _ _ _ (separated-here s₁) λ s₂ k. ⊎_elim
      (λ a. declarations-agree f g s₂ (omega arith) (omega arith))
      (λ a. let z : stands ts end s₂ ≡ true = rw a.0 a.1 in ended f s₂ z ∙ sym (ended g s₂ z)) k))

  pub declarations-enough : (s : State) → Enough (λ f. declarations_from ts m f s) (suc (left ts s.at))
  declarations-enough s = enough (λ f g. declarations-agree f g s)
