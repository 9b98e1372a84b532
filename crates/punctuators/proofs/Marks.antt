-- Laws of marks. Assumes nothing.
use mathlib.Core.Path.{◌≡◌, refl, ◌∙◌}
use mathlib.Core.Bool.{Bool, true, false, ◌&&◌}
use mathlib.Core.List.{[], ◌∷◌}
use Prim.Native.Nat.{ℕ, zero, suc, ◌+◌, ◌*◌, ◌≤◌, ◌<◌}
use native.Mathlib.Omega.{arith}
use borrow.Author.Tests.{eqb-true, eqb-false, leb-false, le-leb, ne_eqb}
use lib.Dec.{eqb, leb}
use lib.ListN.{get_or}
use lib.Seq.{get_or-drop}
use Rattle.definition.specs.Text.{Bytes, byte_at}
use Rattle.definition.specs.Scan.{from}
use Rattle.definition.specs.Mark.{pair, two_byte_marks, one_byte_marks, mark_among, short_mark, mark_of, mark_at}
use Rattle.definition_laws.proofs.LexerProgress.{first-from}
use Rattle.std.specs.Prelude.{Option, Some, None, MatchOption}
use Rattle.std.specs.Option.{option_map}
use Rattle.encoding.specs.Kinds.{kind_number}
use Rattle.encoding.specs.declared.token_kinds.TokenKind.{TokenKind}
use Rattle.punctuators.specs.declared.Found.{Found}
use Rattle.punctuators.specs.Found.{mark, kind_or_none, longer}
use Rattle.lemmas.proofs.Branch.{yes, nay, eq_yes, eq_no}
use Rattle.lemmas.proofs.Truth.{not_first, neither-first, neither-second}
use Rattle.scan.proofs.Going.{second_from}

pub byte_bound : (l : Bytes) → ((k : ℕ) → get_or l k 0 < 256) → (i : ℕ) → byte_at l i ≤ 256
byte_bound [] h i = omega arith
byte_bound (x ∷ l) h zero = let k = h zero in omega arith
byte_bound (x ∷ l) h (suc i) = byte_bound l (λ k. h (suc k)) i

no_pair : (p : ℕ) → (p ≡ 15420 → ⊥) → (p ≡ 15934 → ⊥) → (p ≡ 15421 → ⊥) → (p ≡ 15933 → ⊥) → (p ≡ 15677 → ⊥) → (p ≡ 8509 → ⊥) → (p ≡ 9766 → ⊥) → (p ≡ 31868 → ⊥)
    → mark_among two_byte_marks p ≡ 0
unfolding mark_among two_byte_marks
no_pair p a b c d e f g h =
    eq_no _ _ _ _ a ∙ (eq_no _ _ _ _ b ∙ (eq_no _ _ _ _ c ∙ (eq_no _ _ _ _ d ∙ (eq_no _ _ _ _ e ∙ (eq_no _ _ _ _ f ∙ (eq_no _ _ _ _ g ∙ eq_no _ _ _ _ h))))))

-- a byte with which no longer mark begins
and_second : (t u : Bool) → (t && u) ≡ false → t ≡ true → u ≡ false
and_second true u e q = e
and_second false u e q = let y : ◌≡◌ {A = ℕ} 0 1 = cc in absurd (omega arith)

record Alone (a : ℕ) : Type 0 where
  bang : a ≡ 33 → ⊥
  ampersand : a ≡ 38 → ⊥
  dot : a ≡ 46 → ⊥
  between : 60 ≤ a → 62 < a
  bar : a ≡ 124 → ⊥

alone : (a : ℕ) → longer a ≡ false → Alone a
alone a e =
    let f = neither-second (eqb a 33) _ e in
    let g = neither-second (eqb a 38) _ f in
    let h = neither-second (eqb a 46) _ g in
    record {
      bang = eqb-false a 33 (neither-first (eqb a 33) _ e);
      ampersand = eqb-false a 38 (neither-first (eqb a 38) _ f);
      dot = eqb-false a 46 (neither-first (eqb a 46) _ g);
      between = λ l. leb-false a 62 (and_second (leb 60 a) (leb a 62) (neither-first (leb 60 a && leb a 62) _ h) (le-leb 60 a l));
      bar = eqb-false a 124 (neither-second (leb 60 a && leb a 62) _ h);
    }

apart : (a b x y : ℕ) → b ≤ 256 → 0 < y → y < 256 → (a ≡ x → ⊥) → pair a b ≡ 256 * x + y → ⊥
apart a b x y h p q n e = n (omega (arith, e))

alone-pair : (a b : ℕ) → b ≤ 256 → Alone a → mark_among two_byte_marks (pair a b) ≡ 0
alone-pair a b h r =
    no_pair (pair a b) (less 60 60 (omega arith) (omega arith) (omega arith) (omega arith)) (less 62 62 (omega arith) (omega arith) (omega arith) (omega arith))
    (less 60 61 (omega arith) (omega arith) (omega arith) (omega arith)) (less 62 61 (omega arith) (omega arith) (omega arith) (omega arith))
    (less 61 61 (omega arith) (omega arith) (omega arith) (omega arith))
    (λ e. apart a b 33 61 h (omega arith) (omega arith) r.bang e) (λ e. apart a b 38 38 h (omega arith) (omega arith) r.ampersand e)
    (λ e. apart a b 124 124 h (omega arith) (omega arith) r.bar e)
  where
    less : (x y : ℕ) → 60 ≤ x → x ≤ 62 → 0 < y → y < 256 → pair a b ≡ 256 * x + y → ⊥
    less x y l m p q e = apart a b x y h p q (λ z. let k = r.between (omega (arith, z)) in omega (arith, k, z)) e

-- what a kind that was found, or none, says of the definition's kind
kind-some : (n k : ℕ) → Some k ≡ kind_or_none n → (n ≡ k) × (n ≡ 0 → ⊥)
kind-some n k = by (eqb n 0) refl
  where
    by : (t : Bool) → eqb n 0 ≡ t → Some k ≡ elim t as (λ z. Option ℕ) [ true ↦ None | false ↦ Some n ] → (n ≡ k) × (n ≡ 0 → ⊥)
    by true q e = cc
    by false q e = (cc, eqb-false n 0 q)

kind-none : (n : ℕ) → None ≡ kind_or_none n → n ≡ 0
kind-none n = by (eqb n 0) refl
  where
    by : (t : Bool) → eqb n 0 ≡ t → None ≡ elim t as (λ z. Option ℕ) [ true ↦ None | false ↦ Some n ] → n ≡ 0
    by true q e = eqb-true n 0 q
    by false q e = cc

pub one-short : (n : ℕ) (o : Option TokenKind) (r : Option Found) → option_map kind_number o ≡ kind_or_none n → MatchOption o (r ≡ None) (λ k. r ≡ Some (record { kind = k; size = 1 })) → mark r ≡ record { kind = n; size = 1 }
one-short n None r e f = rw (f, kind-none n e)
one-short n (Some k) r e f = rw (f, (kind-some n (kind_number k) e).0)

module _ (text : Bytes) (at : ℕ) where
  mark-is : mark_at (from text at) ≡ mark_of (byte_at text at) (byte_at text (at + 1)) (byte_at text (at + 2))
  unfolding mark_at
  mark-is = rw (first-from text at, second_from text at, get_or-drop at text 2 256)

  pub mark-three : (eqb (byte_at text at) 46 && (eqb (byte_at text (at + 1)) 46 && eqb (byte_at text (at + 2)) 46)) ≡ true → mark_at (from text at) ≡ record { kind = 53; size = 3 }
  unfolding mark_of
  mark-three e = mark-is ∙ yes _ _ _ e

  pub mark-alone : longer (byte_at text at) ≡ false → byte_at text (at + 1) ≤ 256 → mark_at (from text at) ≡ record { kind = mark_among one_byte_marks (byte_at text at); size = 1 }
  unfolding mark_of short_mark
  mark-alone e h =
      let r = alone (byte_at text at) e in mark-is ∙ (nay _ _ _ (not_first _ (ne_eqb _ _ r.dot)) ∙ eq_yes _ _ _ _ (alone-pair _ _ h r))

  module _ (e : (eqb (byte_at text at) 46 && (eqb (byte_at text (at + 1)) 46 && eqb (byte_at text (at + 2)) 46)) ≡ false) where
    pub mark-one : None ≡ kind_or_none (mark_among two_byte_marks (pair (byte_at text at) (byte_at text (at + 1)))) → mark_at (from text at) ≡ record { kind = mark_among one_byte_marks (byte_at text at); size = 1 }
    unfolding mark_of short_mark
    mark-one q = mark-is ∙ (nay _ _ _ e ∙ eq_yes _ _ _ _ (kind-none _ q))

    pub mark-two : (k : ℕ) → Some k ≡ kind_or_none (mark_among two_byte_marks (pair (byte_at text at) (byte_at text (at + 1)))) → mark_at (from text at) ≡ record { kind = k; size = 2 }
    unfolding mark_of
    mark-two k q = let z = kind-some _ k q in mark-is ∙ (nay _ _ _ e ∙ (eq_no _ _ _ _ z.1 ∙ rw z.0))
