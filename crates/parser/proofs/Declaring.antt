-- What `declarator`, `direct`, `suffix`, `suffixes` and `declared_type` answer, from what the functions that they call answer. Assumes nothing.
use mathlib.Core.Path.{◌≡◌, refl, sym, ap, subst, ◌∙◌}
use mathlib.Core.Bool.{Bool, true, false}
use mathlib.Core.List.{List, [], ◌∷◌, ◌++◌}
use mathlib.Core.Logic.{◌⊎◌, inl, inr, ⊎_elim}
use Prim.Native.Nat.{ℕ, suc, ◌+◌, ◌-◌, ◌≤◌, ◌<◌}
use native.Mathlib.Omega.{arith}
use native.Mathlib.Nat.{le_refl}
use borrow.Author.Tests.{leb-true, leb-false, eqb-true}
use lib.Dec.{eqb, leb}
use lib.IntN.{ℤ}
use lib.ListN.{length}
use Rattle.std.specs.Prelude.{Result, Ok, Err}
use Rattle.std.specs.Result.{IsErrAnd}
use Rattle.std.proofs.lemmas.Result.{err_from_is_err_and}
use Rattle.encoding.specs.Refusals.{number_of}
use Rattle.encoding.specs.declared.refusals.Refusal.{Refusal}
use Rattle.encoding.specs.declared.refusals.Reason.TheVariants.{MissingMark, LimitPassed}
use Rattle.definition.specs.Answer.{Answer, got, refused, ◌>>=◌}
use Rattle.definition.specs.Refusal.{too_deep, missing_mark, limit_passed}
use Rattle.definition.specs.Limit.{max_steps}
use Rattle.definition.specs.Kind.{is_name, open_paren, open_bracket, close_paren}
use Rattle.definition.specs.Name.{no_name}
use Rattle.definition.specs.Token.{Tokens, kind_at, left}
use Rattle.definition.specs.Model.{Model}
use Rattle.definition.specs.Row.{Qualifiers}
use Rattle.definition.specs.Table.{Table, State, Reads, skip}
use Rattle.definition.specs.Grammar.{Declarator, DeclaratorStep, named, Levels, needed}
use Rattle.definition.specs.Grammar as Grammar
use Rattle.definition.specs.Declarator.{apply, starred, opens_declarator, suffixes, suffixes_from, declarator₁, direct₁}
use Rattle.definition.specs.Reader.{levels}
use Rattle.definition_laws.specs.Progress.{Past}
use Rattle.definition_laws.proofs.Progress.{levels-on, parameters-past, array_bound-past}
use Rattle.definition_laws.proofs.Every.{bool!, then! }
use Rattle.definition_laws.proofs.Every as Every
use Rattle.table.specs.Ends.{Ends}
use Rattle.table.specs.Held.{state, moved_to, Encodes, Held}
use Rattle.table.specs.Reply.{Reply, ok, bad, reply, reply_by, Shows, both, Runs, Does, Peek}
use Rattle.table.specs.declared.Cursor.{Cursor}
use Rattle.table.proofs.Branch.{by, yes!, nay! }
use Rattle.lemmas.proofs.Branch.{yes, nay}
use Rattle.table.proofs.Rounds.{Going, starts, turn}
use Rattle.table.proofs.Shown.{got!, no!, call, next, exit, refuse, held_at, held_on, held_next, step-on}
use Rattle.table.proofs.Steps.{there}
use Rattle.table.specs.Marks.{Passes}
use Rattle.constants.specs.Reading.{tokens}
use Rattle.declarator_steps.specs.declared.Steps.{Steps}
use Rattle.declarator_steps.specs.declared.Step.{Step}
use Rattle.declarator_steps.specs.Pending.{step_of, steps_from, pending, no_steps, with_step, released, Waiting}
use Rattle.declarator_steps.proofs.Views.{length-steps, length-stars, len_is, held-is, none-pending, push-counts, release_counts}
use Rattle.declarator_heads.specs.declared.Starred.{Starred}
use Rattle.declarator_heads.specs.Heads.{stars, stars_here, Stars, Tells}
use Rattle.declarator_heads.proofs.Waiting.{released-read}
use Rattle.declarator_heads.proofs.Opens.{shut}
use Rattle.parser.specs.Answers.{typed, both_numbers, declarator_of, declaring, Starting, Declares}
use Rattle.parser.specs.Pieces.{suffix_step, typed_from}
use Rattle.parser.specs.declared.Declared.{Declared}
use Rattle.parser.specs.declared.Typed.{Typed}
use Rattle.parser.proofs.Goes.{past}
use Rattle.parser.proofs.Made.{no_suffix, full_bracket, full_parenthesis, bracket_made, parenthesis_made}

-- ---- answers

-- a value under another name
pub got_as : {X : Type 0} {x y : X} {t : Table} {c : Cursor} {w d : List ℕ} {v : List ℤ} → x ≡ y → Encodes t c w d v → Shows both (got (y, state c t)) (ok c x) w d v
got_as e h = rw e (got! h)

-- what a declarator's answer says of it
declared_is : (r : Declared) {e : Cursor} {name : ℕ} → r.answer ≡ Ok (e, name) → declaring r ≡ ok e (declarator_of r.steps name)
declared_is r q = ap (reply_by (declarator_of r.steps)) q

refused-is : (r : Declared) {z : Refusal} → r.answer ≡ Err z → declaring r ≡ bad (number_of z.reason) z.at
refused-is r q = ap (reply_by (declarator_of r.steps)) q

unlike : {A : Type 0} {a : Result (Cursor × ℕ) Refusal} {z : Refusal} {y : Cursor × ℕ} → a ≡ Err z → a ≡ Ok y → A
unlike q i = let o : ◌≡◌ {A = ℕ} 0 1 = cc in absurd (omega arith)

-- a declarator that is refused: nothing is said of its steps
pub stops : {f : Reads Declarator} {c : Cursor} {s : Steps} {w d w' d' : List ℕ} {v v' : List ℤ} {r : Declared} (z : Refusal) → r.answer ≡ Err z
    → ((t : Table) → Encodes t c w d v → Shows both (f (state c t)) (bad (number_of z.reason) z.at) w' d' v') → Declares f c s w d v r w' d' v'
stops {f} {c} {w' = w'} {d'} {v' = v'} {r} z q k = record {
  does = record { run = λ t h. subst (λ (y : Reply Declarator). Shows both (f (state c t)) y w' d' v') (sym (refused-is r q)) (k t h) };
  stars = λ e name i. unlike q i;
  waits = λ e name i. unlike q i;
}

-- one that is declared: what the slices hold, and how many steps there can be
module _ {f : Reads Declarator} {c e : Cursor} {s : Steps} {w d w' d' : List ℕ} {v v' : List ℤ} {r : Declared} {name : ℕ} (g : Declares f c s w d v r w' d' v') (q : r.answer ≡ Ok (e, name)) where
  pub declared_held : Held c w d v → Held e w' d' v'
  declared_held h = held_on g.does h (declared_is r q)

  pub declared_few : r.steps.len ≤ max_steps
  declared_few = omega (arith, (g.waits e name q).apart)

-- ---- what is pending

-- nothing is: a declarator can start
pub starts-empty : (s : Steps) → s ≡ no_steps → Starting s
starts-empty s e = let p = none-pending e in record { none = len_is s p; waiting = record { stars = le_refl _; apart = omega (arith, len_is s p, held-is s p) } }

-- where the same stars wait, as many do
pub same-held : (a b : Steps) → (pending a).stars ≡ (pending b).stars → a.held ≡ b.held
same-held a b e = sym (length-stars a.operands a.held) ∙ (ap length e ∙ length-stars b.operands b.held)

-- a name with no steps yet
pub no_steps_lem : (s : Steps) (name : ℕ) → s.len ≡ 0 → declarator_of s name ≡ named name
unfolding steps_from
no_steps_lem s name e = ap (λ (n : ℕ). record { steps = steps_from s.kinds s.operands n; name = name }) e

-- ---- a level's declarators: refused where no level is left

module _ (ts : Tokens) (m : Model) {room : ℕ} (used : ℕ) (s : State) where
  pub no_declarator : room ≡ 0 → (levels ts m room).declarator used s ≡ refused too_deep s.at
  unfolding levels
  no_declarator e = rw e

  pub a-declarator : (room ≡ 0 → ⊥) → (levels ts m room).declarator used s ≡ declarator₁ ts m (levels ts m (room - 1)) used s
  unfolding levels
  a-declarator e = let h : room ≡ suc (room - 1) = omega arith in ap (λ k. (levels ts m k).declarator used s) h

  pub no_direct : room ≡ 0 → (levels ts m room).direct used s ≡ refused too_deep s.at
  unfolding levels
  no_direct e = rw e

  pub a-direct : (room ≡ 0 → ⊥) → (levels ts m room).direct used s ≡ direct₁ ts m (levels ts m (room - 1)) used s
  unfolding levels
  a-direct e = let h : room ≡ suc (room - 1) = omega arith in ap (λ k. (levels ts m k).direct used s) h

-- ---- `declared_type`

module _ (inner : Levels) (b : ℕ) {c : Cursor} {s : Steps} {w d w' d' : List ℕ} {v v' : List ℤ} {r : Declared} (e : s ≡ no_steps) (g : Declares (inner.declarator s.held) c s w d v r w' d' v') where
  first : Does (inner.declarator 0) c w d v (declaring r) w' d' v'
  first = subst (λ (i : ℕ). Does (inner.declarator i) c w d v (declaring r) w' d' v') (held-is s (none-pending e)) g.does

  pub typed-stop : (z : Refusal) (r' : Result (Cursor × Typed) Refusal) → r.answer ≡ Err z → IsErrAnd r' (λ y. y ≡ z) → Runs both_numbers (typed_from inner b) c w d v (reply_by typed r') w' d' v'
  unfolding typed_from
  typed-stop z r' q j = let x = err_from_is_err_and r' j in rw (x.1, x.2) (record { run = λ t h. refuse _ (first.run t h) (refused-is r q) refl })

  module _ {f : Cursor} {name : ℕ} (q : r.answer ≡ Ok (f, name)) {w'' d'' : List ℕ} {v'' : List ℤ} where
    pub typed-refused : (z : Refusal) (r' : Result (Cursor × Typed) Refusal) → Does (apply (pending r.steps).steps b) f w' d' v' (bad (number_of z.reason) z.at) w'' d'' v'' → IsErrAnd r' (λ y. y ≡ z)
        → Runs both_numbers (typed_from inner b) c w d v (reply_by typed r') w'' d'' v''
    unfolding typed_from
    typed-refused z r' a j = record { run = λ t h. call _ (first.run t h) (declared_is r q) (λ t₁ h₁. exit (reply_by typed) _ (a.run t₁ h₁) j refl) }

    pub typed-done : {e' : Cursor} {type : ℕ} → Does (apply (pending r.steps).steps b) f w' d' v' (ok e' type) w'' d'' v'' → Runs both_numbers (typed_from inner b) c w d v (ok e' (type, name)) w'' d'' v''
    unfolding typed_from
    typed-done a = record { run = λ t h. call _ (first.run t h) (declared_is r q) (λ t₁ h₁. next _ (a.run t₁ h₁) (λ t₂ h₂. got! h₂)) }

-- ---- `declarator`

pub stars_starting : {ks : List ℕ} {c : Cursor} {s : Steps} {t : Starred} → Starting s → Stars ks c s t → Starting t.steps
stars_starting o g = record { none = g.holds.len ∙ o.none; waiting = g.holds.waiting }

pub stars-held : {ks : List ℕ} {c e : Cursor} {s : Steps} {t : Starred} {w d : List ℕ} {v : List ℤ} → Stars ks c s t → t.answer ≡ Ok e → Held c w d v → Held e w d v
stars-held {s = s} {w = w} {d} {v} g q h = held_on (g.does [] w d v (s.held + s.len) refl) h (ap (stars g.read) q)

-- no stars
no_length : {A : Type 0} (xs : List A) → length xs ≡ 0 → xs ≡ []
no_length [] e = refl
no_length (x ∷ xs) e = absurd (omega arith)

-- what they would stand before is the whole
before-none : {qs : List Qualifiers} (x : Answer (Declarator × State)) → qs ≡ [] → (x >>= (λ d. got (record { steps = starred qs d.0.steps; name = d.0.name }, d.1))) ≡ x
unfolding ◌>>=◌ starred
before-none (got d) e = rw e
before-none (refused n p) e = refl

module _ (ks ns : List ℕ) (m : Model) (room : ℕ) {c : Cursor} {s : Steps} (w d : List ℕ) (v : List ℤ) (o : Starting s) (z : room ≡ 0 → ⊥) {t : Starred} (g : Stars ks c s t) where
  read-stars : Does (stars_here (tokens ks ns) s.held) c w d v (stars g.read t.answer) w d v
  read-stars = g.does ns w d v s.held (omega (arith, o.none))

  pub stars-stop : (i : Refusal) {r : Declared} → t.answer ≡ Err i → r.answer ≡ Err i → Declares ((levels (tokens ks ns) m room).declarator s.held) c s w d v r w d v
  unfolding declarator₁
  stars-stop i q j = stops i j (λ b h. by (a-declarator (tokens ks ns) m s.held (state c b) z) (refuse _ (read-stars.run b h) (ap (stars g.read) q) refl))

  module _ {e : Cursor} (q : t.answer ≡ Ok e) {w' d' : List ℕ} {v' : List ℤ} {r : Declared} (f : Declares ((levels (tokens ks ns) m (room - 1)).direct t.steps.held) e t.steps w d v r w' d' v') where
    rest : Does ((levels (tokens ks ns) m (room - 1)).direct (s.held + length g.read)) e w d v (declaring r) w' d' v'
    rest = subst (λ (i : ℕ). Does ((levels (tokens ks ns) m (room - 1)).direct i) e w d v (declaring r) w' d' v') g.holds.held f.does

    pub direct-stop : (i : Refusal) → r.answer ≡ Err i → Declares ((levels (tokens ks ns) m room).declarator s.held) c s w d v r w' d' v'
    unfolding declarator₁
    direct-stop i y = stops i y (λ b h. by (a-declarator (tokens ks ns) m s.held (state c b) z)
        (call _ (read-stars.run b h) (ap (stars g.read) q) (λ b₁ h₁. refuse _ (rest.run b₁ h₁) (refused-is r y) refl)))

    -- no star was read
    module _ (y : t.steps.held ≡ s.held) where
      none_read : g.read ≡ []
      none_read = no_length g.read (omega (arith, g.holds.held, y))

      pub unstarred : Declares ((levels (tokens ks ns) m room).declarator s.held) c s w d v r w' d' v'
      unfolding declarator₁
      unstarred = record {
        does = record {
          run = λ b h. by (a-declarator (tokens ks ns) m s.held (state c b) z)
              (call _ (read-stars.run b h) (ap (stars g.read) q) (λ b₁ h₁. by (before-none _ none_read) (rest.run b₁ h₁)));
        };
        stars = λ e₁ n₁ k₁. f.stars e₁ n₁ k₁ ∙ (ap (λ p. p.stars) g.holds.all ∙ ap (λ l. l ++ (pending s).stars) none_read);
        waits = λ e₁ n₁ k₁. subst (λ (i : ℕ). Waiting r.steps i) y (f.waits e₁ n₁ k₁);
      }

    module _ {e' : Cursor} {name : ℕ} (y : r.answer ≡ Ok (e', name)) where
      -- the stars that were read wait, and can be released
      pub stars_wait : Waiting r.steps (t.steps.held - s.held)
      stars_wait = record { stars = omega (arith, (f.waits e' name y).stars); apart = (f.waits e' name y).apart }

      module _ (u : Steps) (l : pending u ≡ released (t.steps.held - s.held) (pending r.steps)) where
        all : pending u ≡ record { steps = starred g.read (pending r.steps).steps; stars = (pending s).stars }
        all = l ∙ released-read (pending r.steps) g.holds (f.stars e' name y)

        still : Waiting u s.held
        still =
            let n = release_counts u r.steps (t.steps.held - s.held) stars_wait.stars l in
            record {
              stars = omega (arith, n.1, g.holds.held, (f.waits e' name y).stars);
              apart = omega (arith, n.0, n.1, (f.waits e' name y).apart);
            }

        pub direct-done : {a : Result (Cursor × ℕ) Refusal} {x : Declared} → a ≡ Ok (e', name) → x ≡ record { answer = a; steps = u } → Declares ((levels (tokens ks ns) m room).declarator s.held) c s w d v x w' d' v'
        unfolding declarator₁
        direct-done j i = rw (i, j) (record {
          does = record {
            run = λ b h. by (a-declarator (tokens ks ns) m s.held (state c b) z) (call _ (read-stars.run b h) (ap (stars g.read) q)
                (λ b₁ h₁. call _ (rest.run b₁ h₁) (declared_is r y) (λ b₂ h₂. got_as (ap (λ p. record { steps = p.steps; name = name }) all) h₂)));
          };
          stars = λ e'' name'' k''. ap (λ p. p.stars) all;
          waits = λ e'' name'' k''. still;
        })

-- ---- `direct`

-- a parenthesis that opens a declarator is a token
pub opens-there : (ts : Tokens) (m : Model) (s : State) → opens_declarator ts m s ≡ true → s.at < length ts.kinds
opens-there ts m s e = go (eqb (kind_at ts s.at) open_paren) refl
  where
    go : (b : Bool) → eqb (kind_at ts s.at) open_paren ≡ b → s.at < length ts.kinds
    go true q = let p : Peek ts.kinds s.at (kind_at ts s.at) = record { is = refl } in there p (eqb-true (kind_at ts s.at) open_paren q)
    go false q = let f : true ≡ false = sym e ∙ shut ts m s q in let o : ◌≡◌ {A = ℕ} 0 1 = cc in absurd (omega arith)

-- suffixes after no steps
after_none : (ts : Tokens) (m : Model) (next : Levels) (s : Steps) → Starting s → (n name : ℕ) (x : State) → n ≡ name → suffixes ts m next s.held (named name) x ≡ suffixes ts m next s.held (declarator_of s n) x
after_none ts m next s o n name x e = ap (λ (y : Declarator). suffixes ts m next s.held y x) (sym (no_steps_lem s n o.none ∙ ap named e))

module _ (ks ns : List ℕ) (m : Model) (room : ℕ) {c : Cursor} {s : Steps} {w d : List ℕ} {v : List ℤ} (o : Starting s) (z : room ≡ 0 → ⊥) where
  pub by_name : {c' : Cursor} {r : Declared} {name : ℕ} {w' d' : List ℕ} {v' : List ℤ} → is_name (kind_at (tokens ks ns) c.at) ≡ true → Peek ns c.at name → c' ≡ moved_to c (c.at + 1)
      → Declares (suffixes (tokens ks ns) m (levels (tokens ks ns) m (room - 1)) s.held (declarator_of s name)) c' s w d v r w' d' v'
      → Declares ((levels (tokens ks ns) m room).direct s.held) c s w d v r w' d' v'
  unfolding direct₁
  by_name {name = name} i p k f = record {
    does = record { run = λ b h. by (a-direct (tokens ks ns) m s.held (state c b) z) (yes! _ _ _ i (by (after_none (tokens ks ns) m (levels (tokens ks ns) m (room - 1)) s o name _ (skip (state c b)) p.is) (step-on k f.does h))) };
    stars = f.stars;
    waits = f.waits;
  }

  module _ (i : is_name (kind_at (tokens ks ns) c.at) ≡ false) {x : Bool} (q : Tells (λ t. opens_declarator (tokens ks ns) m (state c t)) c w x) where
    pub by-nothing : {r : Declared} {w' d' : List ℕ} {v' : List ℤ} → x ≡ false
        → Declares (suffixes (tokens ks ns) m (levels (tokens ks ns) m (room - 1)) s.held (declarator_of s no_name)) c s w d v r w' d' v'
        → Declares ((levels (tokens ks ns) m room).direct s.held) c s w d v r w' d' v'
    unfolding direct₁
    by-nothing e f = record {
      does = record {
        run = λ b h. by (a-direct (tokens ks ns) m s.held (state c b) z) (nay! _ _ _ i (nay! _ _ _ (sym (q.of b h.words h.index h.counts) ∙ e)
            (by (after_none (tokens ks ns) m (levels (tokens ks ns) m (room - 1)) s o no_name _ (state c b) refl) (f.does.run b h))));
      };
      stars = f.stars;
      waits = f.waits;
    }

    -- a declarator in parentheses
    module _ (e : x ≡ true) where
      inner-is : (b : Table) → Encodes b c w d v → (levels (tokens ks ns) m room).direct s.held (state c b) ≡ (do
        y ← (levels (tokens ks ns) m (room - 1)).declarator s.held (skip (state c b))
        a ← needed (tokens ks ns) close_paren y.1
        suffixes (tokens ks ns) m (levels (tokens ks ns) m (room - 1)) s.held y.0 a)
      unfolding direct₁
      inner-is b h = a-direct (tokens ks ns) m s.held (state c b) z ∙ (nay _ _ _ i ∙ yes _ _ _ (sym (q.of b h.words h.index h.counts) ∙ e))

      module _ {c' : Cursor} {t : Declared} {w₁ d₁ : List ℕ} {v₁ : List ℤ} (k : c' ≡ moved_to c (c.at + 1))
          (g : Declares ((levels (tokens ks ns) m (room - 1)).declarator s.held) c' s w d v t w₁ d₁ v₁) where
        pub inner-stop : (j : Refusal) → t.answer ≡ Err j → Declares ((levels (tokens ks ns) m room).direct s.held) c s w d v t w₁ d₁ v₁
        inner-stop j y = stops j y (λ b h. by (inner-is b h) (refuse _ (step-on k g.does h) (refused-is t y) refl))

        module _ {e' : Cursor} {name : ℕ} (y : t.answer ≡ Ok (e', name)) where
          pub not_closed_lem : {r : Declared} (j : Refusal) → Passes ks close_paren e' (Err j) → r.answer ≡ Err j → Declares ((levels (tokens ks ns) m room).direct s.held) c s w d v r w₁ d₁ v₁
          not_closed_lem j p l = stops j l (λ b h. by (inner-is b h) (call _ (step-on k g.does h) (declared_is t y) (λ b₁ h₁. refuse _ ((p.with ns _ _ _).run b₁ h₁) refl refl)))

          pub closed : {e'' : Cursor} {r : Declared} {w' d' : List ℕ} {v' : List ℤ} → Passes ks close_paren e' (Ok e'')
              → Declares (suffixes (tokens ks ns) m (levels (tokens ks ns) m (room - 1)) t.steps.held (declarator_of t.steps name)) e'' t.steps w₁ d₁ v₁ r w' d' v'
              → Declares ((levels (tokens ks ns) m room).direct s.held) c s w d v r w' d' v'
          closed {e''} {r} {w'} {d'} {v'} p f =
              let n : t.steps.held ≡ s.held = same-held t.steps s (g.stars e' name y) in
              let a = subst (λ (i : ℕ). Does (suffixes (tokens ks ns) m (levels (tokens ks ns) m (room - 1)) i (declarator_of t.steps name)) e'' w₁ d₁ v₁ (declaring r) w' d' v') n f.does in
              record {
                does = record { run = λ b h. by (inner-is b h) (call _ (step-on k g.does h) (declared_is t y) (λ b₁ h₁. call _ ((p.with ns _ _ _).run b₁ h₁) refl (λ b₂ h₂. a.run b₂ h₂))) };
                stars = λ a₁ b₁ j₁. f.stars a₁ b₁ j₁ ∙ g.stars e' name y;
                waits = λ a₁ b₁ j₁. subst (λ (i : ℕ). Waiting r.steps i) n (f.waits a₁ b₁ j₁);
              }

-- the stars that waited before a declarator in parentheses wait after it
pub declared_waits : {f : Reads Declarator} {c e : Cursor} {s : Steps} {w d w' d' : List ℕ} {v v' : List ℤ} {r : Declared} {name : ℕ} → Declares f c s w d v r w' d' v' → r.answer ≡ Ok (e, name)
    → Waiting r.steps r.steps.held
declared_waits {e = e} {name = name} g q = record { stars = le_refl _; apart = (g.waits e name q).apart }

-- ---- `suffixes`

suffix_step-past : (ts : Tokens) (m : Model) (room k : ℕ) (s : State) → Past s.at (suffix_step ts m (levels ts m room) k s)
unfolding suffix_step
suffix_step-past ts m room k s = bool! (eqb k open_paren) (parameters-past ts m _ (levels-on ts m room) s) (then! _ _ (array_bound-past ts m _ (levels-on ts m room) s) λ b h. Every.got! h)

-- the rounds from a state on, after what was read
abbrev rounds : Tokens → Model → Levels → ℕ → Declarator → ℕ → State → Answer (Declarator × State)
rounds ts m next used x n s = suffixes_from ts m next n used x s

-- what the loop keeps: the stars wait, there is room for the steps, and what is left to read says the whole answer
pub record Suffixing (ks ns : List ℕ) (m : Model) (room name : ℕ) (c : Cursor) (s : Steps) (w₀ d₀ : List ℕ) (v₀ : List ℤ) (here : Cursor) (t : Steps) (w d : List ℕ) (v : List ℤ) : Type 0 where
  pub held : Held here w d v
  pub stars : (pending t).stars ≡ (pending s).stars
  pub apart : t.len + t.held ≤ max_steps
  pub going : (b : Table) → Encodes b c w₀ d₀ v₀ → Ends (Going (rounds (tokens ks ns) m (levels (tokens ks ns) m room) s.held (declarator_of t name)) (left (tokens ks ns) here.at) here w d v)
      (suffixes (tokens ks ns) m (levels (tokens ks ns) m room) s.held (declarator_of s name) (state c b))

pub begin : {ks ns : List ℕ} {m : Model} {room name : ℕ} {c : Cursor} {s : Steps} {w d : List ℕ} {v : List ℤ} → Held c w d v → Waiting s s.held → Suffixing ks ns m room name c s w d v c s w d v
unfolding suffixes
begin h k = record { held = h; stars = refl; apart = k.apart; going = λ b e. starts e (omega arith) }

module _ {ks ns : List ℕ} {m : Model} {room name : ℕ} {c : Cursor} {s : Steps} {w₀ d₀ : List ℕ} {v₀ : List ℤ} {here : Cursor} {t : Steps} {w d : List ℕ} {v : List ℤ}
    (g : Suffixing ks ns m room name c s w₀ d₀ v₀ here t w d v) where
  -- how many steps and stars there are
  count : s.held + length (pending t).steps ≡ t.held + t.len
  count = omega (arith, same-held t s g.stars, length-steps t.kinds t.operands t.len)

  -- no suffix stands here
  pub ended : {k : ℕ} {r : Declared} → Peek ks here.at k → (k ≡ open_bracket → ⊥) → (k ≡ open_paren → ⊥) → r ≡ record { answer = Ok (here, name); steps = t }
      → Declares (suffixes (tokens ks ns) m (levels (tokens ks ns) m room) s.held (declarator_of s name)) c s w₀ d₀ v₀ r w d v
  ended p a b e = rw e (record {
    does = record {
      run = λ x h. turn (g.going x h) (λ x₁ f l h₁. by (no_suffix (tokens ks ns) m (levels (tokens ks ns) m room) f s.held (declarator_of t name) (state here x₁) (λ q. a (p.is ∙ q)) (λ q. b (p.is ∙ q))) (got! h₁));
    };
    stars = λ e₁ n₁ q₁. g.stars;
    waits = λ e₁ n₁ q₁. record { stars = omega (arith, same-held t s g.stars); apart = g.apart };
  })

  module _ {k : ℕ} (p : Peek ks here.at k) (a : (k ≡ open_bracket) ⊎ (k ≡ open_paren)) where
    pub suffix-there : here.at < length ks
    suffix-there = ⊎_elim (λ e. there p e) (λ e. there p e) a

    -- no room for it
    full_is : (f : ℕ) (x : State) → kind_at (tokens ks ns) x.at ≡ k → (k ≡ open_bracket) ⊎ (k ≡ open_paren) → max_steps ≤ t.held + t.len
        → suffixes_from (tokens ks ns) m (levels (tokens ks ns) m room) (suc f) s.held (declarator_of t name) x ≡ refused limit_passed (x.at + 1)
    full_is f x i (inl e) h = full_bracket (tokens ks ns) m (levels (tokens ks ns) m room) f s.held (declarator_of t name) x (i ∙ e) (omega (arith, count, h))
    full_is f x i (inr e) h = full_parenthesis (tokens ks ns) m (levels (tokens ks ns) m room) f s.held (declarator_of t name) x (i ∙ e) (omega (arith, count, h))

    -- a step, and what follows it
    made-is : (f : ℕ) (x : State) → kind_at (tokens ks ns) x.at ≡ k → (k ≡ open_bracket) ⊎ (k ≡ open_paren) → t.held + t.len < max_steps
        → suffixes_from (tokens ks ns) m (levels (tokens ks ns) m room) (suc f) s.held (declarator_of t name) x
        ≡ (suffix_step (tokens ks ns) m (levels (tokens ks ns) m room) (kind_at (tokens ks ns) x.at) (skip x)
        >>= λ y. suffixes_from (tokens ks ns) m (levels (tokens ks ns) m room) f s.held (Grammar.with_step (declarator_of t name) y.0) y.1)
    made-is f x i (inl e) h = bracket_made (tokens ks ns) m (levels (tokens ks ns) m room) f s.held (declarator_of t name) x (i ∙ e) (omega (arith, count, h))
    made-is f x i (inr e) h = parenthesis_made (tokens ks ns) m (levels (tokens ks ns) m room) f s.held (declarator_of t name) x (i ∙ e) (omega (arith, count, h))

    module _ {x : Bool} (q : x ≡ leb max_steps (t.held + t.len)) where
      pub full : {r : Declared} → x ≡ true → r.answer ≡ Err (record { reason = LimitPassed; at = here.at + 1 }) → Declares (suffixes (tokens ks ns) m (levels (tokens ks ns) m room) s.held (declarator_of s name)) c s w₀ d₀ v₀ r w d v
      full e i = stops _ i (λ b h. turn (g.going b h) (λ b₁ f l h₁. by (full_is f (state here b₁) (sym p.is) a (leb-true max_steps (t.held + t.len) (sym q ∙ e))) (no! h₁ refl)))

      module _ (e : x ≡ false) where
        low : t.held + t.len < max_steps
        low = leb-false max_steps (t.held + t.len) (sym q ∙ e)

        module _ {c' : Cursor} {w' d' : List ℕ} {v' : List ℤ} (i : c' ≡ moved_to here (here.at + 1)) where
          here-step : {r : Reply DeclaratorStep} → Does (suffix_step (tokens ks ns) m (levels (tokens ks ns) m room) k) c' w d v r w' d' v'
              → Does (suffix_step (tokens ks ns) m (levels (tokens ks ns) m room) (kind_at (tokens ks ns) here.at)) c' w d v r w' d' v'
          here-step {r} f = subst (λ (j : ℕ). Does (suffix_step (tokens ks ns) m (levels (tokens ks ns) m room) j) c' w d v r w' d' v') p.is f

          pub suffix-stop : (j : Refusal) {r : Declared} → Does (suffix_step (tokens ks ns) m (levels (tokens ks ns) m room) k) c' w d v (bad (number_of j.reason) j.at) w' d' v' → r.answer ≡ Err j
              → Declares (suffixes (tokens ks ns) m (levels (tokens ks ns) m room) s.held (declarator_of s name)) c s w₀ d₀ v₀ r w' d' v'
          suffix-stop j f z = stops j z (λ b h. turn (g.going b h) (λ b₁ l j h₁. by (made-is l (state here b₁) (sym p.is) a low) (refuse _ (step-on i (here-step f) h₁) refl refl)))

          module _ {e' : Cursor} (y : Step) (f : Does (suffix_step (tokens ks ns) m (levels (tokens ks ns) m room) k) c' w d v (ok e' (step_of y)) w' d' v') where
            pub suffix-held : Held e' w' d' v'
            suffix-held = held_next f (held_at i g.held)

            -- a step takes a token, and so does its mark
            pub fewer : left (tokens ks ns) e'.at < left (tokens ks ns) here.at
            fewer = omega (arith, ap (λ u. u.at) i, suffix-there, past f (held_at i g.held) refl (λ u. suffix_step-past (tokens ks ns) m room k u))

            pub again : {u : Steps} → pending u ≡ with_step (pending t) (step_of y) → Suffixing ks ns m room name c s w₀ d₀ v₀ e' u w' d' v'
            again {u} l =
                let n = push-counts u t l in
                record {
                  held = suffix-held;
                  stars = ap (λ v₁. v₁.stars) l ∙ g.stars;
                  apart = omega (arith, n.0, n.1, low);
                  going = λ b h. turn (g.going b h) (λ b₁ j o h₁. by (made-is j (state here b₁) (sym p.is) a low) (next _ (step-on i (here-step f) h₁)
                      (λ b₂ h₂. by (ap (λ (v₁ : Declarator). suffixes_from (tokens ks ns) m (levels (tokens ks ns) m room) j s.held v₁ (state e' b₂)) (sym (ap (λ v₁. record { steps = v₁.steps; name = name }) l)))
                      (starts {n = j} h₂ (omega (arith, fewer, o))))));
                }
