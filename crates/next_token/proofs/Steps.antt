-- Each step of the cutting. Assumes nothing.
use mathlib.Core.Path.{◌≡◌, refl, sym, ap, ◌∙◌}
use mathlib.Core.Bool.{Bool, true, false, ◌&&◌, not}
use mathlib.Core.List.{List, [], ◌∷◌}
use mathlib.Mathlib.Data.Bool.Basic.{or_inl, and_elim_left, and_elim_right}
use Prim.Native.Nat.{ℕ, zero, ◌+◌, ◌-◌, ◌≤◌, ◌<◌}
use native.Mathlib.Omega.{arith}
use borrow.Author.Tests.{eq-eqb, ltb-true, eqb-true}
use lib.Dec.{eqb, leb, ltb}
use lib.ListN.{length, take, length-drop}
use lib.Seq.{length-take-le}
use Rattle.definition.specs.Answer.{Answer, got, refused, ◌>>=◌}
use Rattle.definition.specs.Text.{Bytes, byte_at}
use Rattle.definition.specs.Kind.{is_name}
use Rattle.definition.specs.Class.{class_of, is_word_byte}
use Rattle.definition.specs.Scan.{from, first, second, begins, before}
use Rattle.definition.specs.Comment.{ends_line, line_length}
use Rattle.definition.specs.Directive.{ends_word}
use Rattle.definition.specs.Attribute.{Attribute, not_blank, in_parens, parenthesized, attribute_at}
use Rattle.definition.specs.Number.{is_number_byte, ends_number, number_value}
use Rattle.definition.specs.Mark.{Mark, Written, pair, one_byte_marks, two_byte_marks, mark_among, mark_at, mark_of, short_mark}
use Rattle.definition.specs.Word.{kind_of}
use Rattle.definition.specs.Cut.{Cutting, push, push_name, cut_word_of, word_at, cut_word, number_word, cut_number}
use Rattle.definition_laws.proofs.LexerProgress.{first-from, before_le}
use Rattle.definition_laws.proofs.NameKinds.{name-above}
use Rattle.lemmas.proofs.Branch.{yes, nay, eq_yes, eq_no}
use Rattle.scan.proofs.Going.{going, begins-inside}
use Rattle.next_token.specs.Pieces.{Starts, cut_attribute}

-- what follows an answer
module _ {A B : Type 0} (a : Answer A) (f : A → Answer B) where
  pub got_then : (x : A) → got x ≡ a → f x ≡ (a >>= f)
  unfolding ◌>>=◌
  got_then x e = rw (← e) refl

  pub refused_then : (n p : ℕ) → refused n p ≡ a → refused n p ≡ (a >>= f)
  unfolding ◌>>=◌
  refused_then n p e = rw (← e) refl

-- a word goes on over a byte at least
pub letter_on : (text : Bytes) (at : ℕ) → Starts text at 2 → 0 < before ends_word (from text at)
unfolding ends_word is_word_byte
letter_on text at h =
    let g = going ends_word text at h.inside (ap not (or_inl _ (eqb (class_of (first (from text at))) 3) (eq-eqb _ _ (ap class_of (first-from text at) ∙ h.class)))) in
    omega arith

pub digit_on : (text : Bytes) (at : ℕ) → Starts text at 3 → 0 < before ends_number (from text at)
unfolding ends_number is_number_byte is_word_byte
digit_on text at h =
    let c = ap class_of (first-from text at) ∙ h.class in
    let g = going ends_number text at h.inside (rw c) in
    omega arith

-- it ends within the text
pub before_inside : (stop : Bytes → Bool) (text : Bytes) (at : ℕ) → at ≤ length text → at + before stop (from text at) ≤ length text
before_inside stop text at h = let b = before_le stop (from text at) in let l = length-drop at text in omega arith

-- what was read up to an offset
module _ (stop : Bytes → Bool) (text : Bytes) (at end : ℕ) (e : end ≡ at + before stop (from text at)) where
  run_taken : take (before stop (from text at)) (from text at) ≡ take (end - at) (from text at)
  run_taken = let p : before stop (from text at) ≡ end - at = omega arith in ap (λ (n : ℕ). take n (from text at)) p

  run_end : at + length (take (before stop (from text at)) (from text at)) ≡ end
  run_end = let l = length-take-le (before stop (from text at)) (from text at) (before_le stop (from text at)) in omega arith

-- an attribute does not end before its word
parens_on : (text : Bytes) (word at : ℕ) (a : Attribute) → got a ≡ parenthesized text word at → at ≤ a.next
unfolding parenthesized
parens_on text word at a e = by (leb (length text) (at + 1 + in_parens zero (from text (at + 1)))) refl
  where
    by : (t : Bool) → leb (length text) (at + 1 + in_parens zero (from text (at + 1))) ≡ t → at ≤ a.next
    by true p = let q : got a ≡ refused 5 word = e ∙ yes _ _ _ p in absurd cc
    by false p = let q = e ∙ nay _ _ _ p in let n : at + 2 + in_parens zero (from text (at + 1)) ≡ a.next = cc in omega arith

pub attribute_on : (text : Bytes) (word at : ℕ) (a : Attribute) → got a ≡ attribute_at text word at → at ≤ a.next
unfolding attribute_at
attribute_on text word at a e = by (eqb (byte_at text (at + before not_blank (from text at))) 40) refl
  where
    by : (t : Bool) → eqb (byte_at text (at + before not_blank (from text at))) 40 ≡ t → at ≤ a.next
    by true p = let k = parens_on text word (at + before not_blank (from text at)) a (e ∙ yes _ _ _ p) in omega arith
    by false p = let q = e ∙ nay _ _ _ p in let n : at ≡ a.next = cc in omega arith

-- a number
module _ (text : Bytes) (at end : ℕ) (e : end ≡ at + before ends_number (from text at)) (s : Cutting) (here : s.at ≡ at) where
  number-is : number_word text s.at ≡ take (end - at) (from text at)
  unfolding number_word
  number-is = rw here (run_taken ends_number text at end e)

  number-end : s.at + length (number_word text s.at) ≡ end
  unfolding number_word
  number-end = rw here (run_end ends_number text at end e)

  pub number_got : (v : ℕ) → got v ≡ number_value at (take (end - at) (from text at)) → got (push 1 v end s) ≡ cut_number text s
  unfolding cut_number
  number_got v q = rw (← number-end) (got_then _ _ v (rw (number-is, here) q))

  pub number_refused : (n p : ℕ) → refused n p ≡ number_value at (take (end - at) (from text at)) → refused n p ≡ cut_number text s
  unfolding cut_number
  number_refused n p q = refused_then _ _ n p (rw (number-is, here) q)

-- no name is an attribute
no_attribute : (k : ℕ) → is_name k ≡ true → k ≡ 3 → ⊥
unfolding is_name
no_attribute k r z = let f : false ≡ true = rw z at r in absurd cc

-- a word of a kind
module _ (text : Bytes) (at end : ℕ) (e : end ≡ at + before ends_word (from text at)) (s : Cutting) (here : s.at ≡ at) where
  word-is : word_at text s.at ≡ take (end - at) (from text at)
  unfolding word_at
  word-is = rw here (run_taken ends_word text at end e)

  word-end : s.at + length (word_at text s.at) ≡ end
  unfolding word_at
  word-end = rw here (run_end ends_word text at end e)

  module _ (k : ℕ) (q : k ≡ kind_of (take (end - at) (from text at))) where
    word-kind : kind_of (word_at text s.at) ≡ k
    word-kind = ap kind_of word-is ∙ sym q

    pub word_attribute : k ≡ 3 → cut_attribute text end s ≡ cut_word text s
    unfolding cut_word cut_word_of cut_attribute
    word_attribute p = sym (eq_yes _ _ _ _ (word-kind ∙ p) ∙ rw word-end)

    pub word_plain : (k ≡ 3 → ⊥) → is_name k ≡ false → got (push k 0 end s) ≡ cut_word text s
    unfolding cut_word cut_word_of
    word_plain p r = sym (eq_no _ _ _ _ (λ z. p (sym word-kind ∙ z)) ∙ (nay _ _ _ (ap is_name word-kind ∙ r) ∙ rw (word-kind, word-end)))

    pub word_name : is_name k ≡ true → got (push_name k (take (end - at) (from text at)) s) ≡ cut_word text s
    unfolding cut_word cut_word_of
    word_name r = sym (eq_no _ _ _ _ (λ z. no_attribute k r (sym word-kind ∙ z)) ∙ (yes _ _ _ (ap is_name word-kind ∙ r) ∙ rw (word-kind, word-is)))

size-by : (a b c : ℕ) (t : Bool) → (eqb a 46 && (eqb b 46 && eqb c 46)) ≡ t → (u : Bool) → eqb (mark_among two_byte_marks (pair a b)) 0 ≡ u
    → (1 ≤ (mark_of a b c).size) × ((mark_of a b c).size ≤ 3)
unfolding mark_of short_mark
size-by a b c true p u q = let e : (mark_of a b c).size ≡ 3 = ap (λ (m : Mark). m.size) (yes _ _ _ p) in (omega arith, omega arith)
size-by a b c false p true q = let e : (mark_of a b c).size ≡ 1 = ap (λ (m : Mark). m.size) (nay _ _ _ p ∙ yes _ _ _ q) in (omega arith, omega arith)
size-by a b c false p false q = let e : (mark_of a b c).size ≡ 2 = ap (λ (m : Mark). m.size) (nay _ _ _ p ∙ nay _ _ _ q) in (omega arith, omega arith)

mark-size : (bs : Bytes) → (1 ≤ (mark_at bs).size) × ((mark_at bs).size ≤ 3)
unfolding mark_at
mark-size bs = size-by (byte_at bs 0) (byte_at bs 1) (byte_at bs 2) _ refl _ refl

-- no mark has a name's kind
unfoldable above : List Written → Bool
above [] = true
above (m ∷ ms) = ltb 24 m.kind && above ms

among-above : (ms : List Written) (n : ℕ) → above ms ≡ true → (mark_among ms n ≡ 0 → ⊥) → 24 < mark_among ms n
unfolding mark_among above
among-above [] n h z = absurd (z refl)
among-above (m ∷ ms) n h z = by (eqb n m.written) refl (among-above ms n (and_elim_right (ltb 24 m.kind) (above ms) h))
  where
    by : (t : Bool) → eqb n m.written ≡ t → ((mark_among ms n ≡ 0 → ⊥) → 24 < mark_among ms n) → 24 < mark_among (m ∷ ms) n
    by true p f = let e : mark_among (m ∷ ms) n ≡ m.kind = yes _ _ _ p in let k = ltb-true 24 m.kind (and_elim_left (ltb 24 m.kind) (above ms) h) in omega arith
    by false p f = let e : mark_among (m ∷ ms) n ≡ mark_among ms n = nay _ _ _ p in let k = f (λ q. z (e ∙ q)) in omega arith

kind-by : (a b c : ℕ) → ((mark_of a b c).kind ≡ 0 → ⊥) → (t : Bool) → (eqb a 46 && (eqb b 46 && eqb c 46)) ≡ t → (u : Bool) → eqb (mark_among two_byte_marks (pair a b)) 0 ≡ u → 24 < (mark_of a b c).kind
unfolding mark_of short_mark above two_byte_marks one_byte_marks
kind-by a b c z true p u q = let e : (mark_of a b c).kind ≡ 53 = ap (λ (m : Mark). m.kind) (yes _ _ _ p) in omega arith
kind-by a b c z false p true q =
    let e : (mark_of a b c).kind ≡ mark_among one_byte_marks a = ap (λ (m : Mark). m.kind) (nay _ _ _ p ∙ yes _ _ _ q) in
    let k = among-above one_byte_marks a refl (λ y. z (e ∙ y)) in omega arith
kind-by a b c z false p false q =
    let e : (mark_of a b c).kind ≡ mark_among two_byte_marks (pair a b) = ap (λ (m : Mark). m.kind) (nay _ _ _ p ∙ nay _ _ _ q) in
    let k = among-above two_byte_marks (pair a b) refl (λ y. z (e ∙ y)) in omega arith

-- the mark that stands here
module _ (bs : Bytes) (m : Mark) (is : m ≡ mark_at bs) where
  pub mark_size : (1 ≤ m.size) × (m.size ≤ 3)
  mark_size = rw is (mark-size bs)

  pub mark_plain : (m.kind ≡ 0 → ⊥) → is_name m.kind ≡ false
  unfolding mark_at
  mark_plain z =
      let k = kind-by (byte_at bs 0) (byte_at bs 1) (byte_at bs 2) (λ y. z (ap (λ (x : Mark). x.kind) is ∙ y)) _ refl _ refl in
      rw is (name-above k)

-- a line that begins with two slashes goes on
pub note_on : (text : Bytes) (at : ℕ) → begins 47 47 (from text at) ≡ true → 0 < line_length (from text at)
unfolding begins line_length ends_line
note_on text at e =
    let i = begins-inside 47 47 text at (omega arith) e in
    let b = eqb-true (first (from text at)) 47 (and_elim_left (eqb (first (from text at)) 47) (eqb (second (from text at)) 47) e) in
    let g = going ends_line text at (omega arith) (rw b refl) in
    omega arith

-- what each function cites
pub ruleset answers = (got_then, refused_then)

pub ruleset attributes = (answers, attribute_on)

pub ruleset words = (word_attribute, word_plain, word_name, letter_on, before_inside)

pub ruleset numbers = (number_got, number_refused, digit_on, before_inside)

pub ruleset comments = (answers, before_inside)
