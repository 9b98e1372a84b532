-- The loops over the declarators and declarations of a body, and over the parameters of a list: what they keep, and why they end. Assumes nothing.
use mathlib.Core.Path.{◌≡◌, refl, sym, ap, ◌∙◌}
use mathlib.Core.Bool.{Bool, false}
use mathlib.Core.List.{List}
use Prim.Native.Nat.{ℕ, suc, ◌+◌, ◌-◌, ◌≤◌, ◌<◌}
use native.Mathlib.Omega.{arith}
use lib.IntN.{ℤ}
use lib.ListN.{length}
use Rattle.definition.specs.Answer.{Answer, got, refused, ◌>>=◌}
use Rattle.definition.specs.Kind.{close_paren}
use Rattle.definition.specs.Token.{Tokens, kind_at, left, need}
use Rattle.definition.specs.Table.{Table, State, skip}
use Rattle.definition.specs.Table as Table
use Rattle.definition.specs.Model.{Model}
use Rattle.definition.specs.Grammar.{DeclaratorStep, function_step, Levels, needed}
use Rattle.definition.specs.Declarator.{parameters_end, parameters_from}
use Rattle.definition.specs.Composite.{members_from}
use Rattle.definition.specs.Reader.{levels}
use Rattle.definition_laws.specs.Progress.{Stays}
use Rattle.definition_laws.proofs.Every.{then!, weaker! }
use Rattle.definition_laws.proofs.TableProgress.{adjusted-stays, push_parameter-stays}
use Rattle.table.specs.Ends.{Ends}
use Rattle.table.specs.Held.{state, moved_to, Encodes, Held}
use Rattle.table.specs.Reply.{Peek}
use Rattle.table.specs.declared.Cursor.{Cursor}
use Rattle.table.proofs.Branch.{by}
use Rattle.lemmas.proofs.Branch.{eq_yes}
use Rattle.table.proofs.Rounds.{Going, starts}
use Rattle.table.proofs.Steps.{there}
use Rattle.parameter_entries.specs.Parameters.{added_parameter}

-- the rounds over the declarations of a body, and over the parameters of a list, n of them read
abbrev pub members_in : Tokens → Model → ℕ → ℕ → ℕ → State → Answer State
members_in ts m room first f s = members_from ts m (levels ts m room) f first s

abbrev pub parameters_in : Tokens → Model → ℕ → ℕ → ℕ → ℕ → State → Answer (DeclaratorStep × State)
parameters_in ts m room first n f s = parameters_from ts m (levels ts m room) f first n s

-- what a loop keeps: what is left to read, by g, says what the whole says, by g₀, with any number of rounds above the tokens left
pub record Reading {B : Type 0} (ts : Tokens) (g₀ g : ℕ → State → Answer B) (c : Cursor) (w₀ d₀ : List ℕ) (v₀ : List ℤ) (s : Cursor) (w d : List ℕ) (v : List ℤ) : Type 0 where
  pub held : Held s w d v
  pub going : (f : ℕ) → left ts c.at < f → (t : Table) → Encodes t c w₀ d₀ v₀ → Ends (Going g (left ts s.at) s w d v) (g₀ f (state c t))

pub begin : {B : Type 0} {ts : Tokens} {g : ℕ → State → Answer B} {c : Cursor} {w d : List ℕ} {v : List ℤ} → Held c w d v → Reading ts g g c w d v c w d v
begin k = record { held = k; going = λ f p t h. starts h p }

-- fewer tokens are left after one that was taken
pub fewer : {e s : Cursor} (i n : ℕ) → s ≡ moved_to e (e.at + 1) → i ≤ e.at → e.at < n → n - s.at < n - i
fewer i n q p l = rw q (omega arith)

pub fewer-past : {i j n : ℕ} → i < j → i < n → n - j < n - i
fewer-past p l = omega arith

-- a token that is not the end is there
pub here-still : {ks : List ℕ} {i k : ℕ} → Peek ks i k → (k ≡ 0 → ⊥) → i < length ks
here-still {k = k} p q = let e : k ≡ suc (k - 1) = omega (arith, q) in there p e

pub enough : (n : ℕ) → n < suc n
enough n = omega arith

-- a call is the same with nothing after it
pub lone : {A : Type 0} (x : Answer A) → x ≡ (x >>= got)
unfolding ◌>>=◌
lone (got a) = refl
lone (refused n p) = refl

-- ---- a list of parameters

counted : (n : ℕ) → suc n ≡ n + 1
counted n = omega arith

module _ (ts : Tokens) (m : Model) (next : Levels) where
  -- a list that ends here
  pub list-end : (varargs : Bool) (first n : ℕ) (s : State) → kind_at ts s.at ≡ close_paren → got (function_step varargs (record { first = first; count = n }), skip s) ≡ parameters_end ts m next varargs first n s
  unfolding parameters_end needed need ◌>>=◌
  list-end varargs first n s e = sym (ap (λ (z : Answer ℕ). (z >>= λ i. got (Table.moved_to s i)) >>= λ s'. got (function_step varargs (record { first = first; count = n }), s')) (eq_yes _ _ _ _ e))

  -- the first entry of a list is the next one of the table
  pub empty-list : {Q : Answer (DeclaratorStep × State) → Type 0} {t : Table} {c : Cursor} {w d : List ℕ} {v : List ℤ} → Encodes t c w d v → kind_at ts c.at ≡ close_paren
      → Ends Q (parameters_end ts m next false c.parameters 0 (state c t)) → Ends Q (got (function_step false (record { first = length t.parameters; count = 0 }), skip (state c t)))
  empty-list {c = c} h e q = by (list-end false _ 0 _ e) (rw h.counts.parameters at q)

  pub from_next : {Q : Answer (DeclaratorStep × State) → Type 0} {t : Table} {c : Cursor} {w d : List ℕ} {v : List ℤ} (f : ℕ) → Encodes t c w d v
      → Ends Q (parameters_from ts m next f c.parameters 0 (state c t)) → Ends Q (parameters_from ts m next f (length t.parameters) 0 (state c t))
  from_next {t = t} {c} f h q = by (ap (λ n. parameters_from ts m next f n 0 (state c t)) (sym h.counts.parameters)) q

  -- the code counts by + 1
  module _ {Q : Answer (DeclaratorStep × State) → Type 0} (first n : ℕ) (s : State) where
    pub counted-end : (varargs : Bool) → Ends Q (parameters_end ts m next varargs first (n + 1) s) → Ends Q (parameters_end ts m next varargs first (suc n) s)
    counted-end varargs q = by (ap (λ k. parameters_end ts m next varargs first k s) (counted n)) q

    pub counted-on : (f : ℕ) → Ends Q (parameters_from ts m next f first (n + 1) s) → Ends Q (parameters_from ts m next f first (suc n) s)
    counted-on f q = by (ap (λ k. parameters_from ts m next f first k s) (counted n)) q

-- what the loop keeps: each parameter took a token with its comma
pub record Entering (ts : Tokens) (m : Model) (room first : ℕ) (c : Cursor) (w₀ d₀ : List ℕ) (v₀ : List ℤ) (n : ℕ) (s : Cursor) (w d : List ℕ) (v : List ℤ) : Type 0 where
  pub reading : Reading ts (parameters_in ts m room first 0) (parameters_in ts m room first n) c w₀ d₀ v₀ s w d v
  pub passed : n ≤ s.at
  pub few : n ≤ length ts.kinds

-- an entry is made where the cursor stands
pub added_parameter-stays : (first at type name : ℕ) (s : State) → Stays s.at (added_parameter first at type name s)
unfolding added_parameter
added_parameter-stays first at type name s = then! _ _ (adjusted-stays s at type) λ a e. weaker! (push_parameter-stays a.1 _) (λ x q. q ∙ e)

-- so the cursor has gone on, but for the comma
pub entry-on : {i j k : ℕ} → i ≤ j → k ≡ j → i ≤ k
entry-on p q = omega arith

-- and one more parameter took one more token
pub one_more : {e s : Cursor} {n i : ℕ} → s ≡ moved_to e (e.at + 1) → n ≤ i → i ≤ e.at → n + 1 ≤ s.at
one_more q p l = rw q (omega arith)

pub one_fewer : {n i j k : ℕ} → n ≤ i → i ≤ j → j < k → n + 1 ≤ k
one_fewer p q l = omega arith
