-- Laws of the trees and of the walk. Assumes nothing.
use mathlib.Core.Path.{◌≡◌, refl, sym, ap, ◌∙◌}
use mathlib.Core.Bool.{Bool, true, false}
use mathlib.Core.List.{List}
use Prim.Native.Nat.{ℕ, suc, ◌+◌, ◌-◌, ◌*◌, ◌/◌, ◌%◌, ◌^◌, ◌≤◌, ◌<◌}
use native.Mathlib.Omega.{arith}
use lib.Dec.{ltb}
use lib.ListN.{length, get_or}
use Rattle.std.proofs.lemmas.List.{get_or_read_under}
use Rattle.definition.specs.Text.{Bytes, byte_at}
use Rattle.encoding.specs.Kinds.{kind_number, kind_numbers}
use Rattle.encoding.specs.declared.token_kinds.TokenKind.{TokenKind}
use Rattle.encoding.specs.declared.token_kinds.TokenKind.TheVariants.{End}
use Rattle.encoding.proofs.KindColumns.{kind_there}
use Rattle.spellings.specs.Names.{is_name_of}
use Rattle.spellings.specs.Chain.{bit_of, branch, Reach, here, there, Keeps, Rising, Met, Missed}

-- what the code reads of a kind
pub is_name_at : (text w : Bytes) (ks : List TokenKind) (j n : ℕ) {t : Bool} → is_name_of text w (kind_number (get_or ks j End)) n ≡ t → is_name_of text w (get_or (kind_numbers ks) j 0) n ≡ t
is_name_at text w ks j n e = rw (kind_there ks j) e

pub is_name_read : (text w : Bytes) (ks : List TokenKind) (j n : ℕ) {k : TokenKind} {t : Bool} → k ≡ get_or ks j k → j < length ks → is_name_of text w (kind_number k) n ≡ t → is_name_of text w (get_or (kind_numbers ks) j 0) n ≡ t
is_name_read text w ks j n {k} is h e = is_name_at text w ks j n (rw (sym (get_or_read_under ks j (length ks) k End is h refl)) e)

-- a bit of a spelling
bit-low : (w : Bytes) (d : ℕ) → bit_of w d < 2
unfolding bit_of
bit-low w d = by (ltb (length w) (d / 8 + 1)) (byte_at w (length w - (d / 8 + 1)) / 2 ^ (d % 8))
  where
    by : (t : Bool) (x : ℕ) → elim t as (λ z. ℕ) [ true ↦ 0 | false ↦ x % 2 ] < 2
    by true x = omega arith
    by false x = omega arith

-- the walk: at a link and a depth, what is come by from here is come by from the head
pub record On (text w : Bytes) (ks ns ls : List ℕ) (count heads head s d : ℕ) : Type 0 where
  pub low : get_or ls s 0 ≤ count
  pub within : s < heads + 2 * count
  pub deep : 0 < get_or ls s 0 → d < get_or ls s 0
  pub miss : ((j : ℕ) → Reach heads ls w d s j → is_name_of text w (get_or ks j 0) (get_or ns j 0) ≡ false) → (j : ℕ) → Reach heads ls w 0 head j → is_name_of text w (get_or ks j 0) (get_or ns j 0) ≡ false
  pub path : (ls' : List ℕ) (j : ℕ) → Keeps ls ls' → Reach heads ls' w d s j → Reach heads ls' w 0 head j

module _ (heads : ℕ) (ls : List ℕ) (w : Bytes) (f : ℕ → Bool) where
  split : (d s i j : ℕ) → get_or ls s 0 ≡ suc i → f i ≡ false → ((j : ℕ) → Reach heads ls w (d + 1) (branch heads w d i) j → f j ≡ false) → Reach heads ls w d s j → f j ≡ false
  split d s i _ e p q (here _ _ k y) = let a : i ≡ k = omega arith in ap f (sym a) ∙ p
  split d s i _ e p q (there _ _ k m y r) = let a : k ≡ i = omega arith in q m (rw a at r)

  nowhere : (d s j : ℕ) → get_or ls s 0 ≡ 0 → Reach heads ls w d s j → f j ≡ false
  nowhere d s _ h (here _ _ k y) = absurd (omega arith)
  nowhere d s _ h (there _ _ i m y r) = absurd (omega arith)

module _ {text w : Bytes} {ks ns ls : List ℕ} {count heads head : ℕ} (rising : Rising ls heads count) where
  module _ {s d : ℕ} (on : On text w ks ns ls count heads head s d) where
    pub on-next : (i s' : ℕ) → get_or ls s 0 ≡ suc i → is_name_of text w (get_or ks i 0) (get_or ns i 0) ≡ false → s' ≡ branch heads w d i → On text w ks ns ls count heads head s' (d + 1)
    on-next i s' e f q =
        let a = on.low in
        let b = bit-low w d in
        record {
          low = rising.low s';
          within = omega arith;
          deep = λ p. (let u = rising.rises i (bit_of w d) b (rw q at p) in let t = on.deep (omega (arith, e)) in rw q (omega (arith, u, t, e)));
          miss = λ g. on.miss (λ j r. split heads ls w (λ k. is_name_of text w (get_or ks k 0) (get_or ns k 0)) d s i j e f (λ k x. g k (rw q x)) r);
          path = λ ls' j k r. on.path ls' j k (there d s i j (k s (λ o. absurd (omega (arith, o, e))) ∙ e) (rw q at r));
        }

    pub on-end : get_or ls s 0 ≡ 0 → Missed text w ks ns ls count heads head s
    on-end z = record {
      within = on.within;
      free = z;
      none = on.miss (λ j r. nowhere heads ls w (λ k. is_name_of text w (get_or ks k 0) (get_or ns k 0)) d s j z r);
      path = λ ls' j k q. on.path ls' j k (here d s j q);
    }

    pub on-found : (i : ℕ) → get_or ls s 0 ≡ suc i → is_name_of text w (get_or ks i 0) (get_or ns i 0) ≡ true → Met text w ks ns count (get_or ns i 0)
    on-found i e p = let l = on.low in record { token = i; before = omega arith; spells = p; same = refl }
