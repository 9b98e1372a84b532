-- Laws of \x. Assumes nothing.
use mathlib.Core.Path.{◌≡◌, refl, sym, ap, ◌∙◌}
use mathlib.Core.Bool.{true, false, not}
use mathlib.Core.List.{[], ◌∷◌}
use mathlib.Mathlib.Data.Bool.Basic.{and_intro}
use Prim.Native.Nat.{ℕ, zero, suc, ◌+◌, ◌*◌, ◌%◌, ◌^◌, ◌≤◌, ◌<◌}
use native.Mathlib.Nat.{le-mul_of_pos_right, add-zero, lt_of_not-le}
use native.Mathlib.Decide.{dec_le}
use native.Mathlib.Omega.{arith}
use borrow.Author.Tests.{le-leb, lt-leb, lt-ltb, le-ltb}
use lib.ListN.{length, take, length-drop}
use lib.Seq.{get_or-drop}
use Rattle.definition.specs.Answer.{got, refused}
use Rattle.definition.specs.Text.{Bytes, byte_at}
use Rattle.definition.specs.Scan.{from, before}
use Rattle.definition.specs.Number.{digit_value, value_from}
use Rattle.definition.specs.Character.{ends_hex, hex_byte}
use Rattle.definition_laws.proofs.LexerProgress.{before_le, first-from}
use Rattle.lemmas.proofs.Branch.{yes as yes-is, nay}
use Rattle.lemmas.proofs.Truth.{not_first, not_second}
use Rattle.literals.proofs.Digits.{value-more}
use Rattle.scan.proofs.Going.{inside, outside, stopped-at, going}

-- past the end stands no digit
pub no_digit : (text : Bytes) (i : ℕ) → length text ≤ i → 99 ≡ digit_value (byte_at text i)
unfolding digit_value
no_digit text i h = rw (outside text i h) refl

-- where a digit stands, the text goes on
pub digit_inside : (text : Bytes) (i : ℕ) → digit_value (byte_at text i) < 16 → i < length text
digit_inside text i h = by (dec_le (length text) i)
  where
    by : Dec (length text ≤ i) → i < length text
    by (yes k) = let e = no_digit text i k in absurd (omega arith)
    by (no k) = lt_of_not-le k

-- values of digits only grow
value_le : (base : ℕ) (w : Bytes) (m k : ℕ) → 0 < base → m + k ≤ length w → value_from base 0 (take m w) ≤ value_from base 0 (take (m + k) w)
value_le base w m zero p h = rw (add-zero m) (omega arith)
value_le base w m (suc k) p h =
    let ih = value_le base w m k p (omega arith) in
    let q : m + suc k ≡ m + k + 1 = omega arith in
    let e = value-more base 0 w (m + k) (omega arith) in
    let g = le-mul_of_pos_right (value_from base 0 (take (m + k) w)) p in
    rw q (omega arith)

-- no digit stands next
stopped : (bs : Bytes) → ends_hex bs ≡ true → before ends_hex bs ≡ 0
unfolding before
stopped [] e = refl
stopped (b ∷ bs) e = stopped-at ends_hex b bs e

hex_stops : (text : Bytes) (i : ℕ) → 16 ≤ digit_value (byte_at text i) → before ends_hex (from text i) ≡ 0
unfolding ends_hex
hex_stops text i h = stopped (from text i) (rw (first-from text i) (ap not (le-ltb (digit_value (byte_at text i)) 16 h)))

hex_goes : (text : Bytes) (i : ℕ) → digit_value (byte_at text i) < 16 → ends_hex (from text i) ≡ false
unfolding ends_hex
hex_goes text i h = rw (first-from text i) (ap not (lt-ltb (digit_value (byte_at text i)) 16 h))

module _ (text : Bytes) (start at : ℕ) where
  -- the value of all the digits
  abbrev whole : ℕ
  whole = value_from 16 0 (take (before ends_hex (from text at)) (from text at))

  hex_refused : before ends_hex (from text at) ≡ 0 → refused 6 start ≡ hex_byte text start at
  unfolding hex_byte
  hex_refused e = sym (nay _ _ _ (not_first _ (lt-leb 1 (before ends_hex (from text at)) (omega arith))))

  hex_fine : 0 < before ends_hex (from text at) → whole < 2 ^ 127 → got (record { value = whole % 256; next = at + before ends_hex (from text at) }) ≡ hex_byte text start at
  unfolding hex_byte
  hex_fine h k = sym (yes-is _ _ _ (and_intro (le-leb 1 _ h) (lt-ltb _ (2 ^ 127) k)))

  hex_got : (n v : ℕ) → before ends_hex (from text at) ≡ n → 0 < n → value_from 16 0 (take n (from text at)) ≡ v → v < 2 ^ 127 → got (record { value = v % 256; next = at + n }) ≡ hex_byte text start at
  hex_got n v e h f k = rw (e, f) at (hex_fine (omega arith) (rw (e, f) k))

  hex_above : 2 ^ 127 ≤ whole → refused 6 start ≡ hex_byte text start at
  unfolding hex_byte
  hex_above h = sym (nay _ _ _ (not_second _ (le-ltb _ (2 ^ 127) h)))

-- the loop over the digits: n of them are read, with their value
pub record Digits (text : Bytes) (at n v : ℕ) : Type 0 where
  pub within : at + n ≤ length text
  pub left : n + before ends_hex (from text (at + n)) ≡ before ends_hex (from text at)
  pub value : value_from 16 0 (take n (from text at)) ≡ v
  pub small : v < 2 ^ 127

module _ (text : Bytes) (at : ℕ) where
  pub digits-none : at ≤ length text → Digits text at 0 0
  unfolding value_from
  digits-none h = record { within = omega arith; left = rw (add-zero at) (omega arith); value = refl; small = omega arith }

  module _ (n v : ℕ) (g : Digits text at n v) where
    module _ (d : ℕ) (is : d ≡ digit_value (byte_at text (at + n))) (few : d < 16) where
      past : n + 1 + before ends_hex (from text (at + (n + 1))) ≡ before ends_hex (from text at)
      past =
          let e = going ends_hex text (at + n) (digit_inside text (at + n) (rw (← is) few)) (hex_goes text (at + n) (rw (← is) few)) in
          let q : at + n + 1 ≡ at + (n + 1) = omega arith in
          let l = g.left in
          rw (← q) (omega arith)

      more : value_from 16 0 (take (n + 1) (from text at)) ≡ v * 16 + d
      more =
          let h = digit_inside text (at + n) (rw (← is) few) in
          let l : n < length (from text at) = rw (length-drop at text) (omega arith) in
          let m = value-more 16 0 (from text at) n l in
          let b = inside (from text at) n l ∙ get_or-drop at text n 256 in
          rw (b, g.value, ← is) at m

      pub digits-more : v < 2 ^ 123 → Digits text at (n + 1) (v * 16 + d)
      digits-more k = let h = digit_inside text (at + n) (rw (← is) few) in record { within = omega arith; left = past; value = more; small = omega arith }

      pub digits_above : (start : ℕ) → 2 ^ 123 ≤ v → refused 6 start ≡ hex_byte text start at
      digits_above start k =
          let b = before_le ends_hex (from text at) in
          let p = past in
          let m = more in
          let e = value_le 16 (from text at) (n + 1) (before ends_hex (from text (at + (n + 1)))) (omega arith) (omega arith) in
          let g : 2 ^ 127 ≤ value_from 16 0 (take (n + 1 + before ends_hex (from text (at + (n + 1)))) (from text at)) = omega arith in
          hex_above text start at (rw (← p) g)

    module _ (start : ℕ) (stops : 16 ≤ digit_value (byte_at text (at + n))) where
      all : before ends_hex (from text at) ≡ n
      all = let e = hex_stops text (at + n) stops in let l = g.left in omega arith

      pub digits_empty : n ≡ 0 → refused 6 start ≡ hex_byte text start at
      digits_empty e = hex_refused text start at (all ∙ e)

      pub digits-read : (n ≡ 0 → ⊥) → got (record { value = v % 256; next = at + n }) ≡ hex_byte text start at
      digits-read e = hex_got text start at n v all (omega (arith, e)) g.value g.small

-- what the loop goes by, and what is read after it
pub ruleset hex = (digit_inside, digits_empty, digits-read)
