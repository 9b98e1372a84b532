-- The lexer goes on in the text, and where names stand two bytes apart at least. Assumes nothing.
use mathlib.Core.Path.{◌≡◌, refl, ◌∙◌}
use mathlib.Core.Bool.{Bool, true, false, ◌&&◌, ◌||◌, not}
use mathlib.Core.List.{[], ◌∷◌}
use mathlib.Mathlib.Data.Bool.Basic.{and_elim_left, or_inl, or_inr}
use Prim.Native.Nat.{ℕ, zero, suc, ◌+◌, ◌^◌, ◌≤◌, ◌<◌, min}
use Prim.Native.Char.{code}
use native.Mathlib.Omega.{arith}
use native.Mathlib.Nat.{le_refl}
use lib.Dec.{eqb, leb, ltb}
use lib.ListN.{length, take, drop, length-take, length-drop}
use lib.Seq.{get_or-drop}
use borrow.Author.Tests.{leb-false, eqb-true, not-true}
use Rattle.definition.specs.Answer.{Answer}
use Rattle.definition.specs.Text.{Bytes, bytes, byte_at, no_byte}
use Rattle.definition.specs.Byte.{space, apostrophe, open_byte, backslash, slash_byte}
use Rattle.definition.specs.Class.{letter, digit, class_of, is_blank_byte, is_letter_byte, is_digit_byte, among, mark_bytes, is_word_byte}
use Rattle.definition.specs.Scan.{from, first, second, begins, before}
use Rattle.definition.specs.Comment.{joins, opens_line_comment, opens_comment, ends_line, line_length, comment_end, after_comment}
use Rattle.definition.specs.Directive.{Line, and_then, line_from, ends_word}
use Rattle.definition.specs.Attribute.{Attribute, parenthesized, attribute_at}
use Rattle.definition.specs.Number.{is_number_byte, ends_number, value_from}
use Rattle.definition.specs.Character.{Read, ends_hex, hex_byte, escape, one_byte, bytes_from, character_at}
use Rattle.definition.specs.Quoted.{after_string}
use Rattle.definition_laws.specs.Every.{Every}
use Rattle.definition_laws.proofs.Every.{got!, no!, bool!, then!, weaker!, any! }

-- ---- tests

pub not_of : (a : Bool) → a ≡ true → not a ≡ false
not_of a e = rw e

-- ---- how far something holds

pub before_le : (stop : Bytes → Bool) (bs : Bytes) → before stop bs ≤ length bs
unfolding before
before_le stop [] = le_refl _
before_le stop (b ∷ bs) = go (stop (b ∷ bs)) (before_le stop bs)
  where
    go : (t : Bool) → before stop bs ≤ length bs → (elim t as (λ z. ℕ) [ true ↦ zero | false ↦ suc (before stop bs) ]) ≤ length (b ∷ bs)
    go true h = omega arith
    go false h = omega arith

-- at least one byte, where it does not stop at once
pub before-positive : (stop : Bytes → Bool) (bs : Bytes) → 0 < length bs → stop bs ≡ false → 0 < before stop bs
unfolding before
before-positive stop [] p e = absurd (omega arith)
before-positive stop (b ∷ bs) p e = go (stop (b ∷ bs)) e
  where
    go : (t : Bool) → t ≡ false → 0 < (elim t as (λ z. ℕ) [ true ↦ zero | false ↦ suc (before stop bs) ])
    go true q = let z : ◌≡◌ {A = ℕ} 0 1 = cc in absurd (omega arith)
    go false q = omega arith

-- it stops where it stops, if it does at the end
pub before-stops : (stop : Bytes → Bool) (bs : Bytes) → stop [] ≡ true → stop (drop (before stop bs) bs) ≡ true
unfolding before
before-stops stop [] e = e
before-stops stop (b ∷ bs) e = go (stop (b ∷ bs)) refl (before-stops stop bs e)
  where
    go : (t : Bool) → stop (b ∷ bs) ≡ t → stop (drop (before stop bs) bs) ≡ true → stop (drop (elim t as (λ z. ℕ) [ true ↦ zero | false ↦ suc (before stop bs) ]) (b ∷ bs)) ≡ true
    go true q h = q
    go false q h = h

-- what follows an offset of the text
module _ (text : Bytes) (at : ℕ) where
  pub first-from : first (from text at) ≡ byte_at text at
  first-from = let z : at + 0 ≡ at = omega arith in rw z at (get_or-drop at text 0 no_byte)

  pub from-length : at < length text → 0 < length (from text at)
  from-length p = omega (arith, length-drop at text)

  -- the bytes to where something stops
  pub run_length : (stop : Bytes → Bool) → length (take (before stop (from text at)) (from text at)) ≡ before stop (from text at)
  run_length stop = let p = before_le stop (from text at) in length-take (before stop (from text at)) (from text at) ∙ omega arith

-- ---- words

-- past the end no word goes on
no_word_at_end : ends_word [] ≡ true
unfolding ends_word is_word_byte class_of is_blank_byte is_letter_byte is_digit_byte among mark_bytes bytes
no_word_at_end = refl

pub letter_in_word : (b : ℕ) → eqb (class_of b) letter ≡ true → is_word_byte b ≡ true
unfolding is_word_byte
letter_in_word b e = or_inl (eqb (class_of b) letter) _ e

pub digit_in_number : (b : ℕ) → eqb (class_of b) digit ≡ true → is_number_byte b ≡ true
unfolding is_number_byte is_word_byte
digit_in_number b e = or_inl (eqb (class_of b) letter || eqb (class_of b) digit) _ (or_inr (eqb (class_of b) letter) _ e)

module _ (text : Bytes) (at : ℕ) where
  pub word_goes_on : is_word_byte (byte_at text at) ≡ true → ends_word (from text at) ≡ false
  unfolding ends_word
  word_goes_on b = rw (first-from text at) (not_of _ b)

  pub number_goes_on : is_number_byte (byte_at text at) ≡ true → ends_number (from text at) ≡ false
  unfolding ends_number
  number_goes_on b = rw (first-from text at) (not_of _ b)

  -- no byte of a word follows a word
  pub word-ends : is_word_byte (byte_at text (at + before ends_word (from text at))) ≡ false
  unfolding ends_word
  word-ends = let k = before ends_word (from text at) in
      let e : first (drop k (from text at)) ≡ byte_at text (at + k) = first-from (from text at) k ∙ get_or-drop at text k no_byte in
      let f : not (is_word_byte (first (drop k (from text at)))) ≡ true = before-stops ends_word (from text at) no_word_at_end in
      rw e at (not-true (is_word_byte (first (drop k (from text at)))) f)

-- ---- comments and # lines

-- a comment to the line's end takes a byte
pub line_comment_positive : (bs : Bytes) → 0 < length bs → opens_line_comment bs ≡ true → 0 < line_length bs
unfolding opens_line_comment begins line_length ends_line
line_comment_positive bs p e = before-positive ends_line bs p (let z = eqb-true (first bs) slash_byte (and_elim_left (eqb (first bs) slash_byte) (eqb (second bs) slash_byte) e) in rw z)

pub comment_end-past : (text : Bytes) (at : ℕ) → at + 2 ≤ comment_end text at
unfolding comment_end
comment_end-past text at = omega arith

pub after_comment-past : (text : Bytes) (at : ℕ) → Every (λ (n : ℕ). at < n) (after_comment text at)
unfolding after_comment
after_comment-past text at = let z = comment_end-past text at in bool! (leb (length text) (comment_end text at + 1)) no! (got! (omega arith))

pub line_from-on : (f : ℕ) (text : Bytes) (at : ℕ) → at ≤ (line_from f text at).next
unfolding line_from
line_from-on zero text at = le_refl _
line_from-on (suc f) text at = go (leb (length text) at) refl (joins (from text at)) (opens_comment (from text at)) (opens_line_comment (from text at)) (ends_line (from text at))
    (line_from-on f text (at + 2)) (line_from-on f text (min (comment_end text at + 2) (length text))) (line_from-on f text (at + line_length (from text at))) (line_from-on f text (at + 1))
  where
    go : (a : Bool) → leb (length text) at ≡ a → (b c d e : Bool) → at + 2 ≤ (line_from f text (at + 2)).next
        → min (comment_end text at + 2) (length text) ≤ (line_from f text (min (comment_end text at + 2) (length text))).next
        → at + line_length (from text at) ≤ (line_from f text (at + line_length (from text at))).next → at + 1 ≤ (line_from f text (at + 1)).next
        → at ≤ (elim a as (λ z. Line) [
          | true ↦ record { line = []; next = at }
          | false ↦ elim b as (λ z. Line) [
            | true ↦ and_then space (line_from f text (at + 2))
            | false ↦
                elim c as (λ z. Line) [
                  | true ↦ and_then space (line_from f text (min (comment_end text at + 2) (length text)))
                  | false ↦
                      elim d as (λ z. Line) [
                        | true ↦ line_from f text (at + line_length (from text at))
                        | false ↦
                            elim e as (λ z. Line) [ true ↦ record { line = []; next = at } | false ↦ and_then (byte_at text at) (line_from f text (at + 1)) ]
                      ]
                ]
          ]
        ]).next
    go true q b c d e h i j k = le_refl _
    go false q true c d e h i j k = omega arith
    go false q false true d e h i j k = let l = leb-false (length text) at q in let m = comment_end-past text at in omega arith
    go false q false false true e h i j k = omega arith
    go false q false false false true h i j k = le_refl _
    go false q false false false false h i j k = omega arith

-- ---- attributes, characters, strings

pub attribute_at-on : (text : Bytes) (word at : ℕ) → Every (λ (a : Attribute). at ≤ a.next) (attribute_at text word at)
unfolding attribute_at parenthesized
attribute_at-on text word at = bool! (eqb (byte_at text _) open_byte) (bool! (leb (length text) _) no! (got! (omega arith))) (got! (le_refl _))

abbrev ReadPast : ℕ → Answer Read → Type 0
ReadPast at r = Every (λ (x : Read). at < x.next) r

hex_byte-on : (text : Bytes) (start at : ℕ) → Every (λ (x : Read). at ≤ x.next) (hex_byte text start at)
unfolding hex_byte
hex_byte-on text start at = let n = before ends_hex (from text at) in bool! (leb 1 n && ltb (value_from 16 zero (take n (from text at))) (2 ^ 127)) (got! (omega arith)) no!

escape-past : (text : Bytes) (start at : ℕ) → ReadPast at (escape text start at)
unfolding escape
escape-past text start at = bool! (leb (length text) (at + 1)) no! (bool! (eqb (byte_at text (at + 1)) (code "x"))
    (weaker! (hex_byte-on text start (at + 2)) (λ x k. omega arith)) (got! (omega arith)))

pub one_byte-past : (text : Bytes) (start at : ℕ) → ReadPast at (one_byte text start at)
unfolding one_byte
one_byte-past text start at = bool! (eqb (byte_at text at) backslash) (escape-past text start at) (got! (omega arith))

pub bytes_from-past : (f : ℕ) (text : Bytes) (start v at : ℕ) → ReadPast at (bytes_from f text start v at)
unfolding bytes_from
bytes_from-past zero text start v at = no!
bytes_from-past (suc f) text start v at = bool! (leb (length text) at) no! (bool! (eqb (byte_at text at) apostrophe)
    (then! _ _ any! λ w k. got! (omega arith))
    (then! _ _ (one_byte-past text start at) λ r k. weaker! (bytes_from-past f text start _ r.next) (λ x l. omega arith)))

pub character_at-past : (text : Bytes) (at : ℕ) → ReadPast at (character_at text at)
unfolding character_at
character_at-past text at = bool! (eqb (byte_at text (at + 1)) apostrophe) no! (weaker! (bytes_from-past (suc (length text)) text at 0 (at + 1)) (λ x l. omega arith))

pub after_string-past : (text : Bytes) (at : ℕ) → Every (λ (n : ℕ). at < n) (after_string text at)
unfolding after_string
after_string-past text at = bool! (leb (length text) _) no! (got! (omega arith))
