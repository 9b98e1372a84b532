-- Declarators that need no steps: a name alone, and one with a star before it. Assumes nothing.
use mathlib.Core.Path.{◌≡◌, refl, sym, ap, ◌∙◌}
use mathlib.Core.Bool.{Bool, true, ◌&&◌, not}
use mathlib.Core.List.{List, [], ◌∷◌}
use mathlib.Mathlib.Data.Bool.Basic.{and_elim_left, and_elim_right}
use Prim.Native.Nat.{ℕ, suc, ◌+◌, ◌-◌, ◌≤◌, ◌<◌}
use native.Mathlib.Omega.{arith}
use borrow.Author.Tests.{eqb-true, eqb-false, leb-true, not-true}
use lib.Dec.{eqb, leb}
use lib.IntN.{ℤ}
use lib.ListN.{length, get_or}
use Rattle.std.specs.Prelude.{Result}
use Rattle.std.specs.Result.{IsErrAnd}
use Rattle.encoding.specs.Refusals.{number_of}
use Rattle.encoding.specs.declared.refusals.Refusal.{Refusal}
use Rattle.definition.specs.Answer.{got, ◌>>=◌}
use Rattle.definition.specs.Kind.{is_name, star, open_bracket, open_paren}
use Rattle.definition.specs.Token.{Tokens, kind_at, number_at, left}
use Rattle.definition.specs.Model.{Model}
use Rattle.definition.specs.Row.{Qualifiers}
use Rattle.definition.specs.Table.{Table, State, new_table, skip}
use Rattle.definition.specs.Grammar.{pointer_step, named}
use Rattle.definition.specs.Declarator.{apply, qualifiers_here, one_more_step, starred, stars_from, suffixes, declarator₁, direct₁}
use Rattle.definition.specs.Reader.{levels}
use Rattle.table.specs.Held.{state, moved_to}
use Rattle.table.specs.Reply.{ok, bad, reply_by, Runs, Does, Peek}
use Rattle.table.specs.declared.Cursor.{Cursor}
use Rattle.table.proofs.Branch.{by}
use Rattle.lemmas.proofs.Branch.{yes, eq_yes, eq_no}
use Rattle.table.proofs.Shown.{got!, got-at, call, exit, step-on}
use Rattle.table.proofs.Steps.{there}
use Rattle.constants.specs.Reading.{tokens}
use Rattle.skipping.specs.Passing.{standing}
use Rattle.declarator_heads.specs.Heads.{is_plain, is_plain_pointer}
use Rattle.declarator_heads.proofs.Plain.{by_name, name-there as name-is-there}
use Rattle.parser.specs.Answers.{typed, both_numbers}
use Rattle.parser.specs.declared.Typed.{Typed}
use Rattle.parser.specs.Pieces.{typed_from}
use Rattle.parser.proofs.Made.{no_suffix}
use Rattle.parser.proofs.Declaring.{a-declarator, a-direct}

-- ---- the tests

name-unlike : {k : ℕ} → is_name k ≡ true → k ≡ star → ⊥
unfolding is_name
name-unlike e q = let f : is_name star ≡ true = sym (ap is_name q) ∙ e in let o : ◌≡◌ {A = ℕ} 0 1 = cc in omega arith

module _ (ks : List ℕ) (i : ℕ) (e : is_plain ks i ≡ true) where
  pub a-name : is_name (get_or ks i 0) ≡ true
  unfolding is_plain
  a-name = and_elim_left _ _ e

  pub name-there : i < length ks
  name-there = let p : Peek ks i (get_or ks i 0) = record { is = refl } in name-is-there p a-name

  no_suffixes : (not (eqb (get_or ks (i + 1) 0) open_bracket) && not (eqb (get_or ks (i + 1) 0) open_paren)) ≡ true
  unfolding is_plain
  no_suffixes = and_elim_right (is_name (get_or ks i 0)) _ e

  no_bracket : get_or ks (i + 1) 0 ≡ open_bracket → ⊥
  no_bracket = eqb-false _ _ (not-true _ (and_elim_left _ _ no_suffixes))

  no_paren : get_or ks (i + 1) 0 ≡ open_paren → ⊥
  no_paren = eqb-false _ _ (not-true _ (and_elim_right (not (eqb (get_or ks (i + 1) 0) open_bracket)) _ no_suffixes))

-- a star before a name, where the qualifiers between them were read
module _ (ks : List ℕ) (i : ℕ) (e : is_plain_pointer ks i ≡ true) where
  pub a-star : get_or ks i 0 ≡ star
  unfolding is_plain_pointer
  a-star = eqb-true _ _ (and_elim_left _ _ e)

  pub star-there : i < length ks
  star-there = let p : Peek ks i (get_or ks i 0) = record { is = refl } in there p a-star

  pub a-plain : {q : Qualifiers} {next : ℕ} → qualifiers_here (tokens ks []) (standing (i + 1) new_table) ≡ (q, standing next new_table) → is_plain ks next ≡ true
  a-plain f = let p : Peek ks i (get_or ks i 0) = record { is = refl } in sym (by_name p a-star f) ∙ e

-- ---- what the definition reads

-- no star: nothing is read
no_stars : (ts : Tokens) (f used : ℕ) (qs : List Qualifiers) (s : State) → (kind_at ts s.at ≡ star → ⊥) → stars_from ts (suc f) used qs s ≡ got (qs, s)
unfolding stars_from
no_stars ts f used qs s n = eq_no _ _ _ _ n

module _ (ks ns : List ℕ) (m : Model) (room : ℕ) (h : 2 ≤ room) where
  direct-name : (used : ℕ) (s : State) → is_plain ks s.at ≡ true → (levels (tokens ks ns) m (room - 1)).direct used s ≡ got (named (number_at (tokens ks ns) s.at), skip s)
  unfolding direct₁ suffixes
  direct-name used s e = a-direct (tokens ks ns) m used s (λ z. omega arith)
      ∙ (yes _ _ _ (a-name ks s.at e) ∙ no_suffix (tokens ks ns) m _ _ used _ (skip s) (no_bracket ks s.at e) (no_paren ks s.at e))

  -- a name alone: the base type
  typed-name : (b : ℕ) (s : State) → is_plain ks s.at ≡ true → typed_from (levels (tokens ks ns) m room) b s ≡ got (b, number_at (tokens ks ns) s.at, skip s)
  unfolding typed_from declarator₁ apply starred ◌>>=◌
  typed-name b s e = rw (a-declarator (tokens ks ns) m {room = room} 0 s (λ z. omega arith), no_stars (tokens ks ns) (left (tokens ks ns) s.at) 0 [] s (name-unlike (a-name ks s.at e)), direct-name 0 s e)

  -- a star before it: a pointer
  module _ (b : ℕ) (s : State) {q : Qualifiers} {next : ℕ} (e : is_plain_pointer ks s.at ≡ true) (i : is_plain ks next ≡ true)
      (f : qualifiers_here (tokens ks ns) (skip s) ≡ (q, standing next s.table)) where
    one-star : stars_from (tokens ks ns) (suc (left (tokens ks ns) s.at)) 0 [] s ≡ got (q ∷ [], standing next s.table)
    unfolding stars_from one_more_step ◌>>=◌
    one-star =
        let l : left (tokens ks ns) s.at ≡ suc (left (tokens ks ns) s.at - 1) = omega (arith, star-there ks s.at e) in
        eq_yes _ _ _ _ (a-star ks s.at e) ∙ (ap (λ (y : Qualifiers × State). stars_from (tokens ks ns) (left (tokens ks ns) s.at) 0 (y.0 ∷ []) y.1) f
        ∙ (ap (λ (n : ℕ). stars_from (tokens ks ns) n 0 (q ∷ []) (standing next s.table)) l
        ∙ no_stars (tokens ks ns) (left (tokens ks ns) s.at - 1) 0 (q ∷ []) (standing next s.table) (name-unlike (a-name ks next i))))

    typed-pointer : typed_from (levels (tokens ks ns) m room) b s
        ≡ (apply (pointer_step (q) ∷ []) b (skip (standing next s.table)) >>= λ r. got (r.0, number_at (tokens ks ns) next, r.1))
    unfolding typed_from declarator₁ starred ◌>>=◌
    typed-pointer = rw (a-declarator (tokens ks ns) m {room = room} 0 s (λ z. omega arith), one-star, direct-name 1 (standing next s.table) i)

-- ---- what the code answers

module _ (ks ns : List ℕ) (m : Model) (room b : ℕ) (c : Cursor) (h : 2 ≤ room) where
  pub typed-plain : {c' : Cursor} {w d : List ℕ} {v : List ℤ} {name : ℕ} → is_plain ks c.at ≡ true → Peek ns c.at name → c' ≡ moved_to c (c.at + 1) → Runs both_numbers (typed_from (levels (tokens ks ns) m room) b) c w d v (ok c' (b, name)) w d v
  typed-plain e p k = record { run = λ t g. by (typed-name ks ns m room h b (state c t) e ∙ ap (λ (n : ℕ). got (b, n, skip (state c t))) (sym p.is)) (got-at k g) }

  -- a pointer, from what adding it answers
  module _ {q : Qualifiers} {next : ℕ} (e : is_plain_pointer ks c.at ≡ true)
      (f : (ns : List ℕ) (t : Table) → qualifiers_here (tokens ks ns) (standing (c.at + 1) t) ≡ (q, standing next t)) where
    made : (t : Table) → typed_from (levels (tokens ks ns) m room) b (state c t)
        ≡ (apply (pointer_step (q) ∷ []) b (state (moved_to c (next + 1)) t) >>= λ r. got (r.0, number_at (tokens ks ns) next, r.1))
    made t = typed-pointer ks ns m room h b (state c t) e (a-plain ks c.at e (f [] new_table)) (f ns t)

    module _ {c' : Cursor} {w d w' d' : List ℕ} {v v' : List ℤ} (k : c' ≡ moved_to c (next + 1)) where
      pub pointer-done : {e' : Cursor} {type name : ℕ} → Does (apply (pointer_step (q) ∷ []) b) c' w d v (ok e' type) w' d' v' → Peek ns next name
          → Runs both_numbers (typed_from (levels (tokens ks ns) m room) b) c w d v (ok e' (type, name)) w' d' v'
      pointer-done a p = record { run = λ t g. by (made t) (call _ (step-on k a g) refl (λ t₁ h₁. rw (sym p.is) (got! h₁))) }

      pub pointer-refused : (z : Refusal) (r : Result (Cursor × Typed) Refusal) → Does (apply (pointer_step (q) ∷ []) b) c' w d v (bad (number_of z.reason) z.at) w' d' v' → IsErrAnd r (λ y. y ≡ z)
          → Runs both_numbers (typed_from (levels (tokens ks ns) m room) b) c w d v (reply_by typed r) w' d' v'
      pointer-refused z r a q = record { run = λ t g. by (made t) (exit (reply_by typed) _ (step-on k a g) q refl) }
