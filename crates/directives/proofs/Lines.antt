-- Laws of a # line, read from its start. Assumes nothing.
use mathlib.Core.Path.{◌≡◌, refl, sym, ap, ◌∙◌}
use mathlib.Core.Bool.{Bool, true, false}
use mathlib.Core.List.{[], ◌∷◌}
use mathlib.Mathlib.Data.Bool.Basic.{and_elim_left}
use Prim.Native.Nat.{ℕ, suc, ◌+◌, ◌-◌, ◌≤◌, ◌<◌, min}
use native.Mathlib.Omega.{arith}
use lib.Dec.{eqb, leb}
use lib.ListN.{length, get_or, length-drop}
use Rattle.definition.specs.Text.{Bytes, byte_at}
use Rattle.definition.specs.Scan.{from, begins, before}
use Rattle.definition.specs.Comment.{joins, opens_line_comment, opens_comment, ends_line, line_length, ends_comment, comment_end}
use Rattle.definition.specs.Directive.{Line, line_from, directive, is_macro}
use Rattle.definition_laws.proofs.LexerProgress.{before_le, first-from}
use Rattle.lemmas.proofs.Branch.{yes, nay, le_yes, le_no}
use Rattle.scan.proofs.Going.{inside, begins-is, begins-inside, going}
use borrow.Author.Tests.{leb-true, leb-false, eqb-true, eq-eqb, ne_eqb}
use native.Mathlib.Nat.{min-eq_left, min-eq_right, le_of_lt}
use Rattle.directives.specs.declared.State.{State}
use Rattle.directives.specs.declared.State.TheVariants.{BeforeWord}
use Rattle.directives.specs.Turn.{wanted}

-- the loop over a # line: what is left of it, from a state, gives the whole
pub record Turning (text : Bytes) (i : ℕ) (s : State) (keeps : Bool) (next : ℕ) : Type 0 where
  pub rounds : ℕ
  pub enough : length text - i < rounds
  pub line : keeps ≡ wanted s (line_from rounds text i).line
  pub end : next ≡ (line_from rounds text i).next

pub starts : (text : Bytes) (at : ℕ) → at < length text → Turning text (at + 1) BeforeWord (is_macro (directive text at).line) (directive text at).next
unfolding directive
starts text at h = record { rounds = length text; enough = omega arith; line = refl; end = refl }

module _ (text : Bytes) (i : ℕ) (s : State) {keeps : Bool} {next : ℕ} (g : Turning text i s keeps next) where
  one_more : line_from g.rounds text i ≡ line_from (suc (g.rounds - 1)) text i
  one_more = let k = g.enough in let q : g.rounds ≡ suc (g.rounds - 1) = omega arith in ap (λ (n : ℕ). line_from n text i) q

  -- nothing is left
  ends : line_from (suc (g.rounds - 1)) text i ≡ record { line = []; next = i } → (wanted s [] ≡ keeps) × (i ≡ next)
  ends e = let q = one_more ∙ e in (sym (g.line ∙ ap (λ (l : Line). wanted s l.line) q), sym (g.end ∙ ap (λ (l : Line). l.next) q))

  pub line-ends : length text ≤ i → (wanted s [] ≡ keeps) × (i ≡ next)
  unfolding line_from
  line-ends h = ends (le_yes _ _ _ _ h)

  module _ (h : i < length text) where
    -- what the rest is, and the loop goes on
    module _ (t : State) (b j : ℕ) (p : i < j) (r : j ≤ length text) (turned : (rest : Bytes) → wanted t rest ≡ wanted s (b ∷ rest)) where
      goes : line_from (suc (g.rounds - 1)) text i ≡ record { line = b ∷ (line_from (g.rounds - 1) text j).line; next = (line_from (g.rounds - 1) text j).next } → Turning text j t keeps next
      goes e =
          let q = one_more ∙ e in
          record {
            rounds = g.rounds - 1;
            enough = (let k = g.enough in omega arith);
            line = g.line ∙ (ap (λ (l : Line). wanted s l.line) q ∙ sym (turned _));
            end = g.end ∙ ap (λ (l : Line). l.next) q;
          }

    pub line_joins : (t : State) → begins 92 10 (from text i) ≡ true → i + 2 ≤ length text → ((rest : Bytes) → wanted t rest ≡ wanted s (32 ∷ rest)) → Turning text (i + 2) t keeps next
    unfolding line_from joins
    line_joins t e p q = goes t 32 (i + 2) (omega arith) p q (le_no _ _ _ _ h ∙ yes _ _ _ e)

    module _ (nj : begins 92 10 (from text i) ≡ false) where
      pub line_comment : (t : State) (j : ℕ) → begins 47 42 (from text i) ≡ true → i < j → j ≡ min (comment_end text i + 2) (length text) → j ≤ length text → ((rest : Bytes) → wanted t rest ≡ wanted s (32 ∷ rest)) → Turning text j t keeps next
      unfolding line_from joins opens_comment
      line_comment t j e p w r q = goes t 32 j p r q (le_no _ _ _ _ h ∙ (nay _ _ _ nj ∙ (yes _ _ _ e ∙ rw w)))

      module _ (nc : begins 47 42 (from text i) ≡ false) where
        pub line_note : (j : ℕ) → begins 47 47 (from text i) ≡ true → i < j → j ≡ i + line_length (from text i) → Turning text j s keeps next
        unfolding line_from joins opens_comment opens_line_comment
        line_note j e p w =
            let q = one_more ∙ (le_no _ _ _ _ h ∙ (nay _ _ _ nj ∙ (nay _ _ _ nc ∙ (yes _ _ _ e ∙ ap (λ (n : ℕ). line_from (g.rounds - 1) text n) (sym w))))) in
            record {
              rounds = g.rounds - 1;
              enough = (let k = g.enough in omega arith);
              line = g.line ∙ ap (λ (l : Line). wanted s l.line) q;
              end = g.end ∙ ap (λ (l : Line). l.next) q;
            }

        module _ (nn : begins 47 47 (from text i) ≡ false) where
          pub line-feed : get_or text i 0 ≡ 10 → (wanted s [] ≡ keeps) × (i ≡ next)
          unfolding line_from joins opens_comment opens_line_comment ends_line
          line-feed e = ends (le_no _ _ _ _ h ∙ (nay _ _ _ nj ∙ (nay _ _ _ nc ∙ (nay _ _ _ nn ∙ yes _ _ _ (eq-eqb _ _ (first-from text i ∙ (sym (inside text i h) ∙ e)))))))

          pub line_byte : (t : State) → (get_or text i 0 ≡ 10 → ⊥) → ((rest : Bytes) → wanted t rest ≡ wanted s (get_or text i 0 ∷ rest)) → Turning text (i + 1) t keeps next
          unfolding line_from joins opens_comment opens_line_comment ends_line
          line_byte t e q = goes t (byte_at text i) (i + 1) (omega arith) (omega arith) (λ rest. q rest ∙ ap (λ (b : ℕ). wanted s (b ∷ rest)) (inside text i h)) (le_no _ _ _ _ h ∙ (nay _ _ _ nj ∙ (nay _ _ _ nc ∙ (nay _ _ _ nn ∙ nay _ _ _ (ne_eqb _ _ (λ z. e (inside text i h ∙ (sym (first-from text i) ∙ z))))))))

-- how far a comment goes
pub comment_inside : (text : Bytes) (i : ℕ) → i ≤ length text → i + before ends_comment (from text i) ≤ length text
comment_inside text i h = let b = before_le ends_comment (from text i) in let l = length-drop i text in omega arith

no_feed : (text : Bytes) (i : ℕ) → byte_at text i ≡ 47 → ends_line (from text i) ≡ false
unfolding ends_line
no_feed text i e = rw (first-from text i, e)

begins-starts : (a b : ℕ) (text : Bytes) (i : ℕ) → begins a b (from text i) ≡ true → byte_at text i ≡ a
begins-starts a b text i e = eqb-true (byte_at text i) a (and_elim_left (eqb (byte_at text i) a) (eqb (byte_at text (i + 1)) b) (sym (begins-is a b text i) ∙ e))

min-on : (i j a n : ℕ) (t : Bool) → leb a n ≡ t → i + 2 ≤ a → i + 2 ≤ n → j ≡ min a n → (i < j) × (j ≤ n)
min-on i j a n true p h k q = let l = leb-true a n p in let m = q ∙ min-eq_left l in (omega arith, omega arith)
min-on i j a n false p h k q = let l = leb-false a n p in let m = q ∙ min-eq_right (le_of_lt l) in (omega arith, omega arith)

pub comment_on : (text : Bytes) (i j : ℕ) → begins 47 42 (from text i) ≡ true → j ≡ min (comment_end text i + 2) (length text) → (i < j) × (j ≤ length text)
unfolding comment_end
comment_on text i j e q = min-on i j (comment_end text i + 2) (length text) _ refl (omega arith) (begins-inside 47 42 text i (omega arith) e) q

pub line_on : (text : Bytes) (i j : ℕ) → begins 47 47 (from text i) ≡ true → j ≡ i + line_length (from text i) → (i < j) × (j ≤ length text)
unfolding line_length
line_on text i j e q =
    let k = begins-inside 47 47 text i (omega arith) e in
    let f = begins-starts 47 47 text i e in
    let g = going ends_line text i (omega arith) (no_feed text i f) in
    let b = before_le ends_line (from text i) in
    let l = length-drop i text in
    (omega arith, omega arith)
