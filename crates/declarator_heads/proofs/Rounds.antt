-- The rounds of the loop over stars. Assumes nothing.
use mathlib.Core.Path.{◌≡◌, refl, sym, ap, ◌∙◌}
use mathlib.Core.Bool.{Bool, true, false}
use mathlib.Core.List.{List, [], ◌∷◌}
use Prim.Native.Nat.{ℕ, suc, ◌+◌, ◌-◌, ◌≤◌, ◌<◌}
use native.Mathlib.Omega.{arith}
use native.Mathlib.Nat.{le_refl}
use borrow.Author.Tests.{leb-false}
use lib.Dec.{leb}
use lib.IntN.{ℤ}
use lib.ListN.{length}
use Rattle.std.specs.Prelude.{Ok, Err}
use Rattle.encoding.specs.declared.refusals.Reason.TheVariants.{LimitPassed}
use Rattle.definition.specs.Answer.{Answer, got, refused}
use Rattle.definition.specs.Kind.{star}
use Rattle.definition.specs.Limit.{max_steps}
use Rattle.definition.specs.Refusal.{limit_passed}
use Rattle.definition.specs.Token.{Tokens, left}
use Rattle.definition.specs.Row.{Qualifiers, unqualified}
use Rattle.definition.specs.Table.{Table, State, new_table}
use Rattle.definition.specs.Declarator.{qualifiers_here, one_more_step, stars_from}
use Rattle.definition_laws.proofs.Progress.{qualifiers_from-on}
use Rattle.table.specs.Ends.{Ends}
use Rattle.table.specs.Held.{state, moved_to, Encodes}
use Rattle.table.specs.Reply.{Peek}
use Rattle.table.specs.declared.Cursor.{Cursor}
use Rattle.table.proofs.Branch.{by, via, halt}
use Rattle.lemmas.proofs.Branch.{yes, nay}
use Rattle.table.proofs.Rounds.{Going, turn, starts, starts-at}
use Rattle.table.proofs.Shown.{got!, no! }
use Rattle.table.proofs.Steps.{there, is+, is-}
use Rattle.declarator_steps.specs.declared.Steps.{Steps}
use Rattle.declarator_steps.specs.Pending.{pending, with_star, Room}
use Rattle.declarator_steps.proofs.Views.{hold_counts}
use Rattle.skipping.specs.Passing.{tokens, standing}
use Rattle.declarator_heads.specs.Heads.{stars_here, Holds, Stars}

-- the rounds from a state on, after the stars that were read
abbrev rounds : Tokens → ℕ → List Qualifiers → ℕ → State → Answer (List Qualifiers × State)
rounds ts used qs n s = stars_from ts n used qs s

-- what the loop keeps: the stars that were read wait, and what is left to read says the whole answer
pub record Reading (ks : List ℕ) (c : Cursor) (s : Steps) (here : Cursor) (t : Steps) : Type 0 where
  pub read : List Qualifiers
  pub holds : Holds read s t
  pub going : (ns w d : List ℕ) (v : List ℤ) (used : ℕ) → used ≡ s.held + s.len → (b : Table) → Encodes b c w d v
      → Ends (Going (rounds (tokens ks ns) used read) (left (tokens ks ns) here.at) here w d v) (stars_here (tokens ks ns) used (state c b))

pub begin : (ks : List ℕ) (c : Cursor) (s : Steps) → s.len + s.held ≤ max_steps → Reading ks c s c s
begin ks c s h = record {
  read = [];
  holds = record { all = refl; len = refl; held = omega arith; waiting = record { stars = le_refl _; apart = h } };
  going = λ ns w d v used u b e. starts e (omega arith);
}

-- room for one more, as the code counts and as the definition does
pub has_room : (t : Steps) {full : Bool} → full ≡ leb max_steps (t.held + t.len) → full ≡ false → Room t
has_room t q n = record { below = omega (arith, leb-false max_steps (t.held + t.len) (sym q ∙ n)) }

room-is : (n : ℕ) (s : State) → leb max_steps n ≡ false → one_more_step n s ≡ got s
unfolding one_more_step
room-is n s e = nay _ _ _ e

full_is : (n : ℕ) (s : State) → leb max_steps n ≡ true → one_more_step n s ≡ refused limit_passed s.at
unfolding one_more_step
full_is n s e = yes _ _ _ e

module _ {ks : List ℕ} {c : Cursor} {s : Steps} {here : Cursor} {t : Steps} (g : Reading ks c s here t) where
  -- how many steps and stars there are
  count : {used : ℕ} → used ≡ s.held + s.len → used + length g.read ≡ t.held + t.len
  count u = omega (arith, u, g.holds.held, g.holds.len)

  -- no star stands here
  pub ended : {k : ℕ} → Peek ks here.at k → (k ≡ star → ⊥) → Stars ks c s (record { answer = Ok here; steps = t })
  unfolding stars_from
  ended p n = record {
    read = g.read;
    holds = g.holds;
    does = λ ns w d v used u. record { run = λ b h. turn (g.going ns w d v used u b h) (λ b₁ f l h₁. is- _ _ p n (got! h₁)) };
  }

  module _ {k : ℕ} {full : Bool} (p : Peek ks here.at k) (e : k ≡ star) (q : full ≡ leb max_steps (t.held + t.len)) where
    -- one stands here, and there is no room for it
    pub stopped : full ≡ true → Stars ks c s (record { answer = Err (record { reason = LimitPassed; at = here.at + 1 }); steps = t })
    unfolding stars_from
    stopped y = record {
      read = g.read;
      holds = g.holds;
      does = λ ns w d v used u. record {
        run = λ b h. turn (g.going ns w d v used u b h) (λ b₁ f l h₁. is+ _ _ p e (halt _ (full_is _ _ (ap (leb max_steps) (count u) ∙ (sym q ∙ y))) (no! h refl)));
      };
    }

    -- one stands here, with what it is followed by
    module _ {q' : Qualifiers} {next : ℕ} {here' : Cursor} (n : full ≡ false)
        (f : (ns : List ℕ) (b : Table) → qualifiers_here (tokens ks ns) (standing (here.at + 1) b) ≡ (q', standing next b))
        (m : here' ≡ moved_to here next) where
      past : here.at < next
      past = omega (arith, rw (f [] new_table) at (qualifiers_from-on (tokens ks []) (suc (left (tokens ks []) (here.at + 1))) unqualified (standing (here.at + 1) new_table)))

      pub less : length ks - here'.at < length ks - here.at
      less = rw m (omega (arith, past, there p e))

      pub again : {t' : Steps} → pending t' ≡ with_star (pending t) (q') → Reading ks c s here' t'
      unfolding stars_from
      again {t'} a =
          let counts = hold_counts t' t a in
          let low = (has_room t q n).below in
          record {
            read = q' ∷ g.read;
            holds = record {
              all = a ∙ ap (λ y. with_star y (q')) g.holds.all;
              len = counts.0 ∙ g.holds.len;
              held = omega (arith, counts.1, g.holds.held);
              waiting = record { stars = le_refl _; apart = omega (arith, counts.0, counts.1, low) };
            };
            going = λ ns w d v used u b h. turn (g.going ns w d v used u b h) (λ b₁ i l h₁. is+ _ _ p e (via _ (room-is _ _ (ap (leb max_steps) (count u) ∙ (sym q ∙ n)))
                (by (ap (λ y. stars_from (tokens ks ns) i used (y.0 ∷ g.read) y.1) (f ns b₁)) (starts-at {n = i} m h₁ (omega (arith, less, l))))));
          }
