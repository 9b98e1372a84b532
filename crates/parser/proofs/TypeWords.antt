-- The row of a tag or a type name, and the rounds of the loop over specifiers. Assumes nothing.
use mathlib.Core.Path.{◌≡◌, sym, ap, ◌∙◌}
use mathlib.Core.Bool.{Bool, true, false}
use mathlib.Core.List.{List}
use mathlib.Mathlib.Data.Bool.Basic.{and_elim_left}
use Prim.Native.Nat.{ℕ, suc, ◌+◌, ◌-◌, ◌≤◌, ◌<◌}
use native.Mathlib.Omega.{arith}
use borrow.Author.Tests.{leb-true}
use lib.IntN.{ℤ}
use lib.Dec.{leb}
use lib.ListN.{length, get_or}
use Rattle.definition.specs.Answer.{Answer, got, refused, ◌>>=◌}
use Rattle.definition.specs.Refusal.{bad_type_words, layout_attribute}
use Rattle.definition.specs.Kind.{attribute, identifier, sizeof_word, is_word}
use Rattle.definition.specs.Limit.{max_text}
use Rattle.definition.specs.Token.{Tokens, kind_at, left}
use Rattle.definition.specs.Model.{Model}
use Rattle.definition.specs.Row.{is_some}
use Rattle.definition.specs.Table.{Table, State, skip}
use Rattle.definition.specs.Grammar.{Levels}
use Rattle.definition.specs.Reader.{levels}
use Rattle.definition.specs.Specifier.{Specifiers, no_specifiers, based_on, wording, names_type, is_type_word}
use Rattle.definition.specs.Specifiers.{is_tag_word, tagged_type, named_type, specifiers_from, specifiers}
use Rattle.definition_laws.specs.Progress.{Past}
use Rattle.definition_laws.proofs.Every.{got!, bool!, then!, weaker! }
use Rattle.definition_laws.proofs.TableProgress.{named_type-stays}
use Rattle.definition_laws.proofs.Progress.{LevelsOn, levels-on, tagged_type-past}
use Rattle.words.specs.AtMost.{AtMost}
use Rattle.words.proofs.Uses.{none_read, one-read, more-read}
use Rattle.specifier_words.specs.Untyped.{says_no_type, with_said, type_from}
use Rattle.specifier_words.proofs.Rounds.{said-round, type-round, same-words}
use Rattle.table.specs.Ends.{Ends}
use Rattle.table.specs.Held.{state, moved_to, Encodes, Held}
use Rattle.table.specs.Reply.{Reply, ok, Does, Peek}
use Rattle.table.specs.declared.Cursor.{Cursor}
use Rattle.table.proofs.Branch.{by, yes!, nay! }
use Rattle.table.proofs.Steps.{there, is+, is-}
use Rattle.table.proofs.Shown.{call, held_at, held_on}
use Rattle.table.proofs.Rounds.{Going, starts, starts-at, turn}
use Rattle.parser.specs.Pieces.{type_row}
use Rattle.parser.proofs.Goes.{past, stays}
use Rattle.parser.proofs.Made.{row_made}

-- ---- a type's row, by its word

module _ {Q : Answer (ℕ × State) → Type 0} {k : ℕ} {b : Bool} (ts : Tokens) (m : Model) (next : Levels) (s : State) (p : Peek ts.kinds s.at k) (e : b ≡ is_tag_word k) where
  pub by-tag : b ≡ true → Ends Q (tagged_type ts m next k (skip s)) → Ends Q (type_row ts m next s)
  unfolding type_row
  by-tag g h = yes! _ _ _ (ap is_tag_word (sym p.is) ∙ (sym e ∙ g)) (by (ap (λ i. tagged_type ts m next i (skip s)) (sym p.is)) h)

  pub by_name : b ≡ false → Ends Q (named_type ts m s >>= λ x. got (x.0, skip x.1)) → Ends Q (type_row ts m next s)
  unfolding type_row
  by_name g h = nay! _ _ _ (ap is_tag_word (sym p.is) ∙ (sym e ∙ g)) h

-- the name's token is passed over
pub past-name : {c e n : Cursor} {w d w' d' : List ℕ} {v v' : List ℤ} {r : Reply ℕ} {x i : ℕ} (ts : Tokens) (m : Model) → Does (named_type ts m) c w d v r w' d' v' → Held c w d v → r ≡ ok e x
    → i ≡ c.at → n ≡ moved_to e (i + 1) → n ≡ moved_to e (e.at + 1)
past-name {e = e} ts m g h q j k = k ∙ ap (λ y. moved_to e (y + 1)) (j ∙ sym (stays g h q (λ s. named_type-stays s ts m)))

type_row-past : (ts : Tokens) (m : Model) (next : Levels) → LevelsOn next → (s : State) → Past s.at (type_row ts m next s)
unfolding type_row
type_row-past ts m next o s = bool! (is_tag_word (kind_at ts s.at))
    (weaker! (tagged_type-past ts m next o _ (skip s)) λ x h. omega arith)
    (then! _ _ (named_type-stays s ts m) λ b h. got! (omega arith))

-- ---- a round of `specifiersFrom`, by the word that was read

of-token : {ks : List ℕ} {i k : ℕ} {c : Bool} → Peek ks i k → (g : ℕ → Bool) → g k ≡ c → g (get_or ks i 0) ≡ c
of-token e g h = ap g (sym e.is) ∙ h

module _ {Q : Answer (Specifiers × State) → Type 0} {k : ℕ} (ts : Tokens) (m : Model) (next : Levels) (f : ℕ) (p : Specifiers) (s : State) (e : Peek ts.kinds s.at k) where
  pub at-attribute : is_word k ≡ false → k ≡ attribute → Ends Q (refused layout_attribute s.at) → Ends Q (specifiers_from ts m next (suc f) p s)
  unfolding specifiers_from
  at-attribute w a h = nay! _ _ _ (of-token e is_word w) (is+ _ _ e a h)

  pub at_mark : is_word k ≡ false → (k ≡ attribute → ⊥) → Ends Q (got (p, s)) → Ends Q (specifiers_from ts m next (suc f) p s)
  unfolding specifiers_from
  at_mark w a h = nay! _ _ _ (of-token e is_word w) (is- _ _ e a h)

  pub at-said : is_word k ≡ true → says_no_type k ≡ true → Ends Q (specifiers_from ts m next f (with_said p k) (skip s)) → Ends Q (specifiers_from ts m next (suc f) p s)
  at-said w g h = by (said-round ts m next f p s (of-token e is_word w) (of-token e says_no_type g) ∙ ap (λ i. specifiers_from ts m next f (with_said p i) (skip s)) (sym e.is)) h

  module _ (w : is_word k ≡ true) (g : says_no_type k ≡ false) where
    typed : Ends Q (type_from ts m next f p s) → Ends Q (specifiers_from ts m next (suc f) p s)
    typed h = by (type-round ts m next f p s (of-token e is_word w) (of-token e says_no_type g)) h

    pub at_type_word : is_type_word k ≡ true → is_some p.base ≡ false → Ends Q (specifiers_from ts m next f (wording p k) (skip s)) → Ends Q (specifiers_from ts m next (suc f) p s)
    unfolding type_from
    at_type_word y b h = typed (yes! _ _ _ (of-token e is_type_word y) (nay! _ _ _ b (by (ap (λ i. specifiers_from ts m next f (wording p i) (skip s)) (sym e.is)) h)))

    pub at_word_twice : is_type_word k ≡ true → is_some p.base ≡ true → Ends Q (refused bad_type_words s.at) → Ends Q (specifiers_from ts m next (suc f) p s)
    unfolding type_from
    at_word_twice y b h = typed (yes! _ _ _ (of-token e is_type_word y) (yes! _ _ _ b h))

    pub at_tag_twice : is_type_word k ≡ false → is_tag_word k ≡ true → names_type p ≡ true → Ends Q (refused bad_type_words s.at) → Ends Q (specifiers_from ts m next (suc f) p s)
    unfolding type_from
    at_tag_twice y b n h = typed (nay! _ _ _ (of-token e is_type_word y) (yes! _ _ _ (of-token e is_tag_word b) (yes! _ _ _ n h)))

    pub at_name : is_type_word k ≡ false → is_tag_word k ≡ false → names_type p ≡ true → Ends Q (got (p, s)) → Ends Q (specifiers_from ts m next (suc f) p s)
    unfolding type_from
    at_name y b n h = typed (nay! _ _ _ (of-token e is_type_word y) (nay! _ _ _ (of-token e is_tag_word b) (yes! _ _ _ n h)))

    pub at_row : is_type_word k ≡ false → names_type p ≡ false → Ends Q (type_row ts m next s >>= λ b. specifiers_from ts m next f (based_on p b.0) b.1) → Ends Q (specifiers_from ts m next (suc f) p s)
    at_row y n h = typed (by (row_made ts m next f p s (of-token e is_type_word y) n) h)

-- ---- what the loop keeps

abbrev pub rounds : Tokens → Model → ℕ → Specifiers → ℕ → State → Answer (Specifiers × State)
rounds ts m room p f s = specifiers_from ts m (levels ts m room) f p s

-- what is left to read says what all specifiers say, and each type word took a token
pub record Specifying (ts : Tokens) (m : Model) (room : ℕ) (c : Cursor) (w₀ d₀ : List ℕ) (v₀ : List ℤ) (p : Specifiers) (s : Cursor) (w d : List ℕ) (v : List ℤ) : Type 0 where
  pub held : Held s w d v
  pub few : AtMost s.at p.words
  pub going : (t : Table) → Encodes t c w₀ d₀ v₀ → Ends (Going (rounds ts m room p) (left ts s.at) s w d v) (specifiers ts m (levels ts m room) (state c t))

pub begin : {c : Cursor} {w d : List ℕ} {v : List ℤ} {p : Specifiers} (ts : Tokens) (m : Model) (room : ℕ) → p ≡ no_specifiers → Held c w d v → Specifying ts m room c w d v p c w d v
unfolding specifiers
begin ts m room e h = record { held = h; few = rw e (more-read (omega arith) none_read); going = λ t k. rw e (starts k (omega arith)) }

-- a word is there
word-there : (k : ℕ) → is_word k ≡ true → k ≡ suc (k - 1)
unfolding is_word
word-there k e = omega (arith, leb-true identifier k (and_elim_left (leb identifier k) (leb k sizeof_word) e))

pub inside : {ks : List ℕ} {i k : ℕ} → Peek ks i k → is_word k ≡ true → i < length ks
inside {k = k} e y = there e (word-there k y)

pub fewer : {s e : Cursor} (n : ℕ) → e ≡ moved_to s (s.at + 1) → s.at < n → n - e.at < n - s.at
fewer n q l = rw q (omega arith)

module _ {k room : ℕ} {ts : Tokens} {m : Model} {c s : Cursor} {w₀ d₀ w d : List ℕ} {v₀ v : List ℤ} {p : Specifiers}
    (g : Specifying ts m room c w₀ d₀ v₀ p s w d v) (e : Peek ts.kinds s.at k) (y : is_word k ≡ true) where
  -- no more words than bytes
  pub room_for : length ts.kinds ≤ max_text → AtMost max_text p.words
  room_for h = let l = inside e y in more-read (omega arith) g.few

  -- a word of one token
  pub next-said : {p' : Specifiers} {s' : Cursor} → says_no_type k ≡ true → p' ≡ with_said p k → s' ≡ moved_to s (s.at + 1) → Specifying ts m room c w₀ d₀ v₀ p' s' w d v
  next-said b a z = record {
    held = held_at z g.held;
    few = rw (a, z, same-words p k) (more-read (omega arith) g.few);
    going = λ t h. turn (g.going t h) (λ t₁ f l h₁. at-said ts m (levels ts m room) f p (state s t₁) e y b (let i = fewer (length ts.kinds) z (inside e y) in rw a (starts-at z h₁ (omega arith))));
  }

  pub next_word : {p' : Specifiers} {s' : Cursor} → says_no_type k ≡ false → is_type_word k ≡ true → is_some p.base ≡ false → p' ≡ wording p k → s' ≡ moved_to s (s.at + 1) → Specifying ts m room c w₀ d₀ v₀ p' s' w d v
  next_word b j o a z = record {
    held = held_at z g.held;
    few = rw (a, z) (one-read k g.few);
    going = λ t h. turn (g.going t h) (λ t₁ f l h₁. at_type_word ts m (levels ts m room) f p (state s t₁) e y b j o (let i = fewer (length ts.kinds) z (inside e y) in rw a (starts-at z h₁ (omega arith))));
  }

  -- a type's row
  module _ {s' : Cursor} {w' d' : List ℕ} {v' : List ℤ} {r : Reply ℕ} {n : ℕ} (x : Does (type_row ts m (levels ts m room)) s w d v r w' d' v') (q : r ≡ ok s' n) where
    pub past_row : left ts s'.at < left ts s.at
    past_row = let l = inside e y in let h = past x g.held q (type_row-past ts m (levels ts m room) (levels-on ts m room)) in omega arith

    pub next_row : {p' : Specifiers} → says_no_type k ≡ false → is_type_word k ≡ false → names_type p ≡ false → p' ≡ based_on p n → Specifying ts m room c w₀ d₀ v₀ p' s' w' d' v'
    next_row b j o a = record {
      held = held_on x g.held q;
      few = let h = past x g.held q (type_row-past ts m (levels ts m room) (levels-on ts m room)) in rw a (more-read (omega arith) g.few);
      going = λ t h. turn (g.going t h) (λ t₁ f l h₁. at_row ts m (levels ts m room) f p (state s t₁) e y b j o (call _ (x.run t₁ h₁) q (λ t₂ h₂. let i = past_row in rw a (starts h₂ (omega arith)))));
    }
