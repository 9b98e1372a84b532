-- The conditions on a text make the reader's log orderly: what is kept of the place in the text and the log.
use mathlib.Core.Path.{◌≡◌, refl, sym, ◌∙◌, ap, subst}
use mathlib.Core.List.{List, [], ◌∷◌}
use mathlib.Core.Option.{Option, none, some}
use mathlib.Core.Bool.{Bool, true, false, not, ◌||◌, true≢false}
use Prim.Native.Nat.{ℕ, zero, suc, ◌+◌, ◌-◌, ◌≤◌, ◌<◌}
use native.Mathlib.Omega.{arith}
use native.Mathlib.Decide.{dec_lt}
use lib.Dec.{T, eqb, eqb→eq, not_T}
use lib.Ieee.Fits.{and_i}
use Rattle.definition.specs.Kind.{open_brace, close_brace}
use Rattle.definition.specs.Token.{Tokens, kind_at}
use Rattle.definition.specs.Table.{Event, bodied, used, wide}
use Rattle.walks.proofs.WalkProof.{T_of}
use Rattle.walks.specs.Condition.{tag_at, opens_body, uses_enum, one_closed, opened_by, opened_after, is_closed, closed_before, Orderly, none_too_wide, has_body, has_use, met, orderly}
use Rattle.walks.proofs.TableProof.{T-either, met_by}

-- ---- braces

pub is_brace : ℕ → Bool
is_brace k = eqb k open_brace || eqb k close_brace

-- a test that braces do not pass
pub not_brace : (f : ℕ → Bool) → f open_brace ≡ false → f close_brace ≡ false → (k : ℕ) → f k ≡ true → is_brace k ≡ false
unfolding is_brace
not_brace f o c k z = at (eqb k open_brace) refl (eqb k close_brace) refl
  where
    at : (a : Bool) → eqb k open_brace ≡ a → (b : Bool) → eqb k close_brace ≡ b → a || b ≡ false
    at true p b q = absurd (true≢false (sym z ∙ ap f (eqb→eq k open_brace (T_of p)) ∙ o))
    at false p true q = absurd (true≢false (sym z ∙ ap f (eqb→eq k close_brace (T_of q)) ∙ c))
    at false p false q = refl

by-other : (k d : ℕ) → is_brace k ≡ false → opened_by k (some d) ≡ some d
unfolding is_brace
by-other k d z = at (eqb k open_brace) (eqb k close_brace) z
  where
    at : (a b : Bool) → a || b ≡ false → ◌≡◌ {A = Option ℕ} (elim a [ true ↦ some (suc d) | false ↦ elim b [ true ↦ one_closed d | false ↦ some d ] ]) (some d)
    at false false e = refl
    at true b e = absurd (subst T e tt)
    at false true e = absurd (subst T e tt)

by_open : (k d : ℕ) → k ≡ open_brace → opened_by k (some d) ≡ some (suc d)
by_open k d e = ap (λ x. opened_by x (some d)) e

by-close : (k d : ℕ) → k ≡ close_brace → opened_by k (some d) ≡ one_closed d
by-close k d e = ap (λ x. opened_by x (some d)) e

module _ (ts : Tokens) where
  -- one token on
  step : (q at : ℕ) → q ≤ at → opened_after ts q (at + 1 - q) ≡ opened_by (kind_at ts at) (opened_after ts q (at - q))
  unfolding opened_after
  step q at l =
      let a : at + 1 - q ≡ suc (at - q) = omega arith in
      let b : q + (at - q) ≡ at = omega arith in
      ap (λ n. opened_after ts q n) a ∙ ap (λ n. opened_by (kind_at ts n) (opened_after ts q (at - q))) b

  -- a body that has been closed stays closed
  closed-step : (j at : ℕ) → T (closed_before ts j at) → T (closed_before ts j (at + 1))
  closed-step j at h = go (dec_lt at (j + 3))
    where
      go : Dec (at < j + 3) → T (closed_before ts j (at + 1))
      go (yes l) =
          let z : at - (j + 3) ≡ 0 = omega arith in
          absurd (not_yet (subst (λ n. T (is_closed (opened_after ts (j + 3) n))) z h))
        where
          not_yet : T (is_closed (opened_after ts (j + 3) 0)) → ⊥
          not_yet x = unfold opened_after in x
      go (no l) = subst (λ o. T (is_closed o)) (sym (step (j + 3) at (omega arith))) (still (kind_at ts at) (opened_after ts (j + 3) (at - (j + 3))) h)
        where
          still : (k : ℕ) (o : Option ℕ) → T (is_closed o) → T (is_closed (opened_by k o))
          still k none h = tt
          still k (some d) h = absurd h

  closed-up : (j at n : ℕ) → T (closed_before ts j at) → T (closed_before ts j (at + n))
  closed-up j at zero h = subst (λ k. T (closed_before ts j k)) (omega arith) h
  closed-up j at (suc n) h = subst (λ k. T (closed_before ts j k)) (omega arith) (closed-step j (at + n) (closed-up j at n h))

  closed-later : (j at at' : ℕ) → at ≤ at' → T (closed_before ts j at) → T (closed_before ts j at')
  closed-later j at at' l h = subst (λ k. T (closed_before ts j k)) (omega arith) (closed-up j at (at' - at) h)

  -- ---- what is kept: the open braces, the innermost first; and where each event of the log stands in the text

  unfoldable pub Depths : List ℕ → ℕ → ℕ → Type 0
  Depths [] d at = Unit
  Depths (q ∷ qs) d at = (q ≤ at) × (opened_after ts q (at - q) ≡ some d) × Depths qs (suc d) at

  pub record Read (qs : List ℕ) (at : ℕ) (log : List Event) : Type 0 where
    pub depths : Depths qs 0 at
    pub bodies : (w : ℕ) → T (has_body w log) → (j : ℕ) × T (opens_body ts j) × (tag_at ts j ≡ w) × T (closed_before ts j at)
    pub uses : (w : ℕ) → T (has_use w log) → (i : ℕ) × T (uses_enum ts i) × (tag_at ts i ≡ w) × (i < at)
    pub order : T (none_too_wide log) → T (orderly log)

  depths-step : (qs : List ℕ) (d at : ℕ) → is_brace (kind_at ts at) ≡ false → Depths qs d at → Depths qs d (at + 1)
  unfolding Depths
  depths-step [] d at z h = tt
  depths-step (q ∷ qs) d at z h =
      (omega arith, step q at h.0 ∙ ap (λ o. opened_by (kind_at ts at) o) h.1 ∙ by-other (kind_at ts at) d z, depths-step qs (suc d) at z h.2)

  depths_open : (qs : List ℕ) (d at : ℕ) → kind_at ts at ≡ open_brace → Depths qs d at → Depths qs (suc d) (at + 1)
  unfolding Depths
  depths_open [] d at z h = tt
  depths_open (q ∷ qs) d at z h =
      (omega arith, step q at h.0 ∙ ap (λ o. opened_by (kind_at ts at) o) h.1 ∙ by_open (kind_at ts at) d z, depths_open qs (suc d) at z h.2)

  depths-close : (qs : List ℕ) (d at : ℕ) → kind_at ts at ≡ close_brace → Depths qs (suc d) at → Depths qs d (at + 1)
  unfolding Depths
  depths-close [] d at z h = tt
  depths-close (q ∷ qs) d at z h =
      (omega arith, step q at h.0 ∙ ap (λ o. opened_by (kind_at ts at) o) h.1 ∙ by-close (kind_at ts at) (suc d) z, depths-close qs (suc d) at z h.2)

  -- the same log at a later place
  later : (qs qs' : List ℕ) (at at' : ℕ) (log : List Event) → at ≤ at' → Depths qs' 0 at' → Read qs at log → Read qs' at' log
  later qs qs' at at' log l d r = record {
    depths = d;
    bodies = λ w h. (let b = r.bodies w h in (b.0, b.1, b.2, closed-later b.0 at at' l b.3));
    uses = λ w h. (let u = r.uses w h in let x = u.3 in (u.0, u.1, u.2, omega arith));
    order = r.order;
  }

  -- a token that is no brace; an opening brace; and, outside all bodies, any token
  pub on : (qs : List ℕ) (at : ℕ) (log : List Event) → is_brace (kind_at ts at) ≡ false → Read qs at log → Read qs (at + 1) log
  on qs at log z r = later qs qs at (at + 1) log (omega arith) (depths-step qs 0 at z r.depths) r

  pub into : (qs : List ℕ) (at : ℕ) (log : List Event) → kind_at ts at ≡ open_brace → Read qs at log → Read ((at + 1) ∷ qs) (at + 1) log
  unfolding Depths opened_after
  into qs at log z r = let e : at + 1 - (at + 1) ≡ 0 = omega arith in later qs ((at + 1) ∷ qs) at (at + 1) log (omega arith)
      (omega arith, ap (λ n. opened_after ts (at + 1) n) e, depths_open qs 0 at z r.depths) r

  pub outside : (at at' : ℕ) (log : List Event) → at ≤ at' → Read [] at log → Read [] at' log
  unfolding Depths
  outside at at' log l r = later [] [] at at' log l tt r

  -- a body of which everything up to its closing brace has been read
  pub record Ended (q : ℕ) (qs : List ℕ) (at : ℕ) (log : List Event) : Type 0 where
    pub brace : ℕ
    pub next : at ≡ brace + 1
    pub is_brace' : kind_at ts brace ≡ close_brace
    pub inside : Read (q ∷ qs) brace log

  -- it is closed
  pub closes : (q : ℕ) (qs : List ℕ) (at : ℕ) (log : List Event) → Ended q qs at log → Read qs at log
  unfolding Depths
  closes q qs at log e = subst (λ k. Read qs k log) (sym e.next)
      (later (q ∷ qs) qs e.brace (e.brace + 1) log (omega arith) (depths-close qs 0 e.brace e.is_brace' e.inside.depths.2) e.inside)

  -- layout's note
  pub notes : (qs : List ℕ) (at : ℕ) (log : List Event) → Read qs at log → Read qs at (wide ∷ log)
  unfolding has_body has_use none_too_wide
  notes qs at log r = record { depths = r.depths; bodies = r.bodies; uses = r.uses; order = λ h. absurd h }

  -- an enum's tag without braces
  pub uses_tag : (qs : List ℕ) (i w : ℕ) (log : List Event) → T (uses_enum ts i) → tag_at ts i ≡ w → Read qs (i + 2) log → Read qs (i + 2) (used w ∷ log)
  unfolding has_body has_use none_too_wide orderly
  uses_tag qs i w log u e r = record {
    depths = r.depths;
    bodies = r.bodies;
    uses = λ v h. T-either (eqb v w) (has_use v log) (λ z. (i, u, e ∙ sym (eqb→eq v w z), omega arith)) (λ z. r.uses v z) h;
    order = r.order;
  }

  -- a tag's body closes: its tag was not met before
  pub closes_tag : Orderly ts → (qs : List ℕ) (j w at : ℕ) (log : List Event) → T (opens_body ts j) → tag_at ts j ≡ w → Ended (j + 3) qs at log → Read qs at (bodied w ∷ log)
  unfolding has_body has_use none_too_wide orderly Depths
  closes_tag c qs j w at log o e x =
      let r = closes (j + 3) qs at log x in
      record {
        depths = r.depths;
        bodies = λ v h. T-either (eqb v w) (has_body v log) (λ z. (j, o, e ∙ sym (eqb→eq v w z), now)) (λ z. r.bodies v z) h;
        uses = r.uses;
        order = λ h. and_i (not (met w log)) (orderly log) (not_T (met w log) (met_by w log bodied_twice used-before)) (r.order h);
      }
    where
      b : ℕ
      b = x.brace

      open_now : opened_after ts (j + 3) (x.brace - (j + 3)) ≡ some 0
      open_now = x.inside.depths.1

      not_closed_lem : T (closed_before ts j x.brace) → ⊥
      not_closed_lem h = subst (λ y. T (is_closed y)) open_now h

      now : T (closed_before ts j at)
      now = subst (λ k. T (closed_before ts j k)) (sym x.next)
          (subst (λ y. T (is_closed y)) (sym (step (j + 3) x.brace x.inside.depths.0 ∙ ap (λ y. opened_by (kind_at ts x.brace) y) open_now ∙ by-close (kind_at ts x.brace) 0 x.is_brace')) tt)

      bodied_twice : T (has_body w log) → ⊥
      bodied_twice h = let y = x.inside.bodies w h in
          not_closed_lem (subst (λ k. T (closed_before ts k x.brace)) (c.one_body y.0 j y.1 o (y.2 ∙ sym e)) y.3)

      used-before : T (has_use w log) → ⊥
      used-before h = let y = x.inside.uses w h in let l = y.3 in
          not_closed_lem (closed-later j y.0 x.brace (omega arith) (c.body_first y.0 j y.1 o (y.2 ∙ sym e)))
