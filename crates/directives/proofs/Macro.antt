-- What a # line must still have, behind one byte more. Assumes nothing.
use mathlib.Core.Path.{◌≡◌, refl, sym, ap, ◌∙◌}
use mathlib.Core.Bool.{Bool, true, false, ◌&&◌, not}
use mathlib.Core.List.{[], ◌∷◌}
use Prim.Native.Nat.{ℕ, zero, suc, ◌+◌, ◌<◌}
use borrow.Author.Tests.{ne_eqb}
use lib.Dec.{eqb}
use lib.ListN.{length, drop, get_or}
use Rattle.definition.specs.Text.{Bytes, bytes, byte_at}
use Rattle.definition.specs.Class.{class_of, is_blank, is_word_byte, is_blank_byte, is_letter_byte, is_digit_byte, among, mark_bytes}
use Rattle.definition.specs.Scan.{before, starts_with}
use Rattle.definition.specs.Directive.{past_blanks, says_something, ends_word, is_body, is_name_and_body, is_macro}
use Rattle.lemmas.proofs.Branch.{yes, nay, eq_yes, eq_no}
use Rattle.lemmas.proofs.Truth.{not_first, not_second}
use Rattle.lemmas.proofs.Lists.{drop-next}
use Rattle.directives.specs.declared.State.{State}
use Rattle.directives.specs.declared.State.TheVariants.{BeforeWord, InDefine, BeforeName, InName, InBody, Kept, Dropped}
use Rattle.directives.specs.Turn.{wants, wanted}

module _ (b : ℕ) (rest : Bytes) where
  pub word_begins : is_blank b ≡ false → wants (bytes "define") (b ∷ rest) ≡ is_macro (b ∷ rest)
  unfolding is_macro wants past_blanks bytes
  word_begins e = ap (wants (bytes "define")) (sym (nay (is_blank b) (past_blanks rest) (b ∷ rest) e))

  name_ends : is_word_byte b ≡ false → is_body (drop (before ends_word (b ∷ rest)) (b ∷ rest)) ≡ (not (eqb b 40) && says_something (b ∷ rest))
  unfolding before ends_word is_body
  name_ends e = ap (λ (n : ℕ). is_body (drop n (b ∷ rest))) (yes (not (is_word_byte b)) zero (suc (before ends_word rest)) (ap not e))

  pub name_opens : is_word_byte b ≡ false → b ≡ 40 → is_body (drop (before ends_word (b ∷ rest)) (b ∷ rest)) ≡ false
  name_opens e o = name_ends e ∙ rw o

  pub name_past : is_word_byte b ≡ false → (b ≡ 40 → ⊥) → is_body (drop (before ends_word (b ∷ rest)) (b ∷ rest)) ≡ says_something (b ∷ rest)
  name_past e n = name_ends e ∙ rw (ne_eqb b 40 n)

  -- a letter of a word, read up to i
  module _ (word : Bytes) (i : ℕ) (more : i < length word) where
    pub letter_same : get_or word i 0 ≡ b → wants (drop (i + 1) word) rest ≡ wants (drop i word) (b ∷ rest)
    unfolding wants starts_with
    letter_same e =
        sym (ap (λ (w : Bytes). wants w (b ∷ rest)) (drop-next word i 0 more)
        ∙ ap (λ (t : Bool). elim (t && is_blank (byte_at rest (length (drop (i + 1) word)))) as (λ z. Bool) [ true ↦ is_name_and_body (past_blanks (drop (length (drop (i + 1) word)) rest)) | false ↦ false ]) (eq_yes _ b _ _ e))

    pub letter_other : (get_or word i 0 ≡ b → ⊥) → false ≡ wants (drop i word) (b ∷ rest)
    unfolding wants starts_with
    letter_other e =
        sym (ap (λ (w : Bytes). wants w (b ∷ rest)) (drop-next word i 0 more)
        ∙ nay _ _ _ (not_first (is_blank (byte_at rest (length (drop (i + 1) word)))) (eq_no _ b _ _ e)))

-- a line that ends before it said something
no-byte : is_blank 256 ≡ false
unfolding is_blank class_of is_blank_byte is_letter_byte is_digit_byte among mark_bytes bytes
no-byte = refl

nothing-left : (word : Bytes) → wants word [] ≡ false
unfolding wants
nothing-left word = nay _ _ _ (not_second (starts_with word []) no-byte)

no_name : is_name_and_body [] ≡ false
unfolding is_name_and_body ends_word is_word_byte class_of is_blank_byte is_letter_byte is_digit_byte among mark_bytes bytes
no_name = refl

pub not_kept : (s : State) → (s ≡ Kept → ⊥) → wanted s [] ≡ false
unfolding is_macro wants past_blanks before is_body says_something bytes
not_kept BeforeWord n = nothing-left (bytes "define")
not_kept (InDefine read) n = nothing-left (drop read (bytes "define"))
not_kept BeforeName n = no_name
not_kept InName n = refl
not_kept InBody n = refl
not_kept Kept n = absurd (n refl)
not_kept Dropped n = refl
