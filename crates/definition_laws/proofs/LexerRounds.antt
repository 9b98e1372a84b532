-- The rounds of the lexer's loops are enough. Assumes nothing.
use mathlib.Core.Path.{◌≡◌, refl, sym, ap}
use mathlib.Core.List.{[]}
use Prim.Native.Nat.{ℕ, zero, suc, ◌+◌, ◌-◌, ◌≤◌, min}
use native.Mathlib.Omega.{arith}
use native.Mathlib.Nat.{le_refl}
use lib.Dec.{eqb, leb}
use lib.ListN.{length}
use borrow.Author.Tests.{le-leb, leb-false}
use Rattle.definition.specs.Answer.{got}
use Rattle.definition.specs.Text.{Bytes, byte_at}
use Rattle.definition.specs.Byte.{space, apostrophe}
use Rattle.definition.specs.Scan.{from}
use Rattle.definition.specs.Comment.{joins, opens_line_comment, opens_comment, ends_line, line_length, comment_end}
use Rattle.definition.specs.Directive.{and_then, line_from}
use Rattle.definition.specs.Character.{bytes_from}
use Rattle.definition.specs.Cut.{Cutting, cut_all}
use Rattle.lemmas.proofs.Branch.{yes}
use Rattle.definition_laws.specs.Enough.{Enough}
use Rattle.definition_laws.proofs.Same.{same_bool, same_then}
use Rattle.definition_laws.proofs.LexerProgress.{from-length, line_comment_positive, comment_end-past, one_byte-past}
use Rattle.definition_laws.proofs.Spaced.{cut_next-past}

-- where any two numbers of rounds from n on agree, n are enough
enough-from : {B : Type 0} {loop : ℕ → B} {n : ℕ} → ((f g : ℕ) → n ≤ f → n ≤ g → loop f ≡ loop g) → Enough loop n
enough-from {n} h = record { same = λ f p. h f n p (le_refl _) }

module _ (text : Bytes) where
  -- ---- the cutting of a text

  -- at the end no round is wanted
  cut-ended : (f : ℕ) (s : Cutting) → length text ≤ s.at → cut_all f text s ≡ got s
  unfolding cut_all
  cut-ended zero s p = refl
  cut-ended (suc f) s p = yes (leb (length text) s.at) _ _ (le-leb (length text) s.at p)

  cut-agree : (f g : ℕ) (s : Cutting) → length text - s.at ≤ f → length text - s.at ≤ g → cut_all f text s ≡ cut_all g text s
  unfolding cut_all
  cut-agree zero g s p q = sym (cut-ended g s (omega arith))
  cut-agree (suc f) zero s p q = cut-ended (suc f) s (omega arith)
  cut-agree (suc f) (suc g) s p q = same_bool (leb (length text) s.at) (λ e. refl)
      (λ e. let l = leb-false (length text) s.at e in same_then _ _ _ (cut_next-past text s l) λ s' h. cut-agree f g s' (omega arith) (omega arith))

  pub cut-enough : (s : Cutting) → Enough (λ f. cut_all f text s) (length text - s.at)
  cut-enough s = enough-from (λ f g. cut-agree f g s)

  -- ---- a # line

  line-ended : (f at : ℕ) → length text ≤ at → line_from f text at ≡ record { line = []; next = at }
  unfolding line_from
  line-ended zero at p = refl
  line-ended (suc f) at p = yes (leb (length text) at) _ _ (le-leb (length text) at p)

  line-agree : (f g at : ℕ) → length text - at ≤ f → length text - at ≤ g → line_from f text at ≡ line_from g text at
  unfolding line_from
  line-agree zero g at p q = sym (line-ended g at (omega arith))
  line-agree (suc f) zero at p q = line-ended (suc f) at (omega arith)
  line-agree (suc f) (suc g) at p q = same_bool (leb (length text) at) (λ e. refl) (λ e. let l = leb-false (length text) at e in
      same_bool (joins (from text at)) (λ u. ap (and_then space) (line-agree f g (at + 2) (omega arith) (omega arith))) (λ u.
      same_bool (opens_comment (from text at)) (λ v. let c = comment_end-past text at in ap (and_then space) (line-agree f g (min (comment_end text at + 2) (length text)) (omega arith) (omega arith))) (λ v.
      same_bool (opens_line_comment (from text at))
      (λ w. let c = line_comment_positive (from text at) (from-length text at l) w in line-agree f g (at + line_length (from text at)) (omega arith) (omega arith))
      (λ w. same_bool (ends_line (from text at)) (λ x. refl) (λ x. ap (and_then (byte_at text at)) (line-agree f g (at + 1) (omega arith) (omega arith)))))))

  pub line-enough : (at : ℕ) → Enough (λ f. line_from f text at) (length text - at)
  line-enough at = enough-from (λ f g. line-agree f g at)

  -- ---- a character constant

  bytes-ended : (f start v at : ℕ) → length text ≤ at → bytes_from f text start v at ≡ bytes_from 0 text start v at
  unfolding bytes_from
  bytes-ended zero start v at p = refl
  bytes-ended (suc f) start v at p = yes (leb (length text) at) _ _ (le-leb (length text) at p)

  bytes-agree : (f g start v at : ℕ) → length text - at ≤ f → length text - at ≤ g → bytes_from f text start v at ≡ bytes_from g text start v at
  unfolding bytes_from
  bytes-agree zero g start v at p q = sym (bytes-ended g start v at (omega arith))
  bytes-agree (suc f) zero start v at p q = bytes-ended (suc f) start v at (omega arith)
  bytes-agree (suc f) (suc g) start v at p q = same_bool (leb (length text) at) (λ e. refl) (λ e. let l = leb-false (length text) at e in
      same_bool (eqb (byte_at text at) apostrophe) (λ u. refl)
      (λ u. same_then _ _ _ (one_byte-past text start at) λ r h. bytes-agree f g start _ r.next (omega arith) (omega arith)))

  pub bytes-enough : (start v at : ℕ) → Enough (λ f. bytes_from f text start v at) (length text - at)
  bytes-enough start v at = enough-from (λ f g. bytes-agree f g start v at)
