-- Laws of the loop over a constant. Assumes nothing.
use mathlib.Core.Path.{◌≡◌, refl, sym, ap, ◌∙◌}
use Prim.Native.Nat.{ℕ, suc, ◌+◌, ◌-◌, ◌*◌, ◌≤◌, ◌<◌}
use native.Mathlib.Omega.{arith}
use lib.ListN.{length, get_or}
use Rattle.std.specs.Prelude.{Option, Some, None}
use Rattle.definition.specs.Answer.{Answer, got, refused, ◌>>=◌}
use Rattle.definition.specs.Text.{Bytes, byte_at}
use Rattle.definition.specs.Character.{Read, one_byte, closed_at, bytes_from, character_at}
use Rattle.lemmas.proofs.Branch.{eq_yes, eq_no, le_yes, le_no}
use Rattle.scan.proofs.Going.{inside}
use Rattle.literals.proofs.Capped.{digit_more, ranged-some, ranged-none}
use Rattle.literals.specs.Shown.{ranged, with_digit}

-- the loop over the bytes of a constant: what is left gives the whole
pub record Going (text : Bytes) (start i : ℕ) (v : Option ℕ) (whole : Answer Read) : Type 0 where
  pub exact : ℕ
  pub rounds : ℕ
  pub enough : length text - i < rounds
  pub caps : v ≡ ranged exact
  pub same : whole ≡ bytes_from rounds text start exact i

round : (text : Bytes) (start i n e : ℕ) → length text - i < n → bytes_from n text start e i ≡ bytes_from (suc (n - 1)) text start e i
round text start i n e h = let q : n ≡ suc (n - 1) = omega arith in ap (λ (k : ℕ). bytes_from k text start e i) q

module _ (text : Bytes) (start : ℕ) where
  pub character_empty : byte_at text (start + 1) ≡ 39 → refused 6 start ≡ character_at text start
  unfolding character_at
  character_empty e = sym (eq_yes _ _ _ _ e)

  pub going-starts : (byte_at text (start + 1) ≡ 39 → ⊥) → Going text start (start + 1) (Some 0) (character_at text start)
  unfolding character_at
  going-starts e = record { exact = 0; rounds = suc (length text); enough = omega arith; caps = refl; same = eq_no _ _ _ _ e }

  module _ (i : ℕ) (v : Option ℕ) {whole : Answer Read} (g : Going text start i v whole) where
    pub going-ends : length text ≤ i → refused 6 start ≡ whole
    unfolding bytes_from
    going-ends h = sym (g.same ∙ (round text start i g.rounds g.exact g.enough ∙ le_yes _ _ _ _ h))

    module _ (more : i < length text) where
      closes : get_or text i 0 ≡ 39 → whole ≡ closed_at start g.exact i
      unfolding bytes_from
      closes e = g.same ∙ (round text start i g.rounds g.exact g.enough ∙ (le_no _ _ _ _ more ∙ eq_yes _ _ _ _ (sym (inside text i more) ∙ e)))

      pub going-got : get_or text i 0 ≡ 39 → (w : ℕ) → v ≡ Some w → got (record { value = w; next = i + 1 }) ≡ whole
      unfolding ◌>>=◌
      going-got e w h = sym (rw (ranged-some start g.exact w (sym h ∙ g.caps)) at (closes e))

      pub going-past : get_or text i 0 ≡ 39 → v ≡ None → refused 8 start ≡ whole
      unfolding ◌>>=◌
      going-past e h = sym (rw (ranged-none start g.exact (sym h ∙ g.caps)) at (closes e))

      module _ (other : get_or text i 0 ≡ 39 → ⊥) where
        goes : whole ≡ (one_byte text start i >>= (λ r. bytes_from (g.rounds - 1) text start (g.exact * 256 + r.value) r.next))
        unfolding bytes_from
        goes = g.same ∙ (round text start i g.rounds g.exact g.enough ∙ (le_no _ _ _ _ more ∙ eq_no _ _ _ _ (λ e. other (inside text i more ∙ e))))

        pub going-stops : (n p : ℕ) → refused n p ≡ one_byte text start i → refused n p ≡ whole
        unfolding ◌>>=◌
        going-stops n p q = sym (rw (← q) at goes)

        pub going-on : (b next : ℕ) (v' : Option ℕ) → got (record { value = b; next = next }) ≡ one_byte text start i → i < next → v' ≡ with_digit v 256 b
            → Going text start next v' whole
        unfolding ◌>>=◌
        going-on b next v' q h a = record {
          exact = g.exact * 256 + b;
          rounds = g.rounds - 1;
          enough = (let k = g.enough in omega arith);
          caps = a ∙ (ap (λ (o : Option ℕ). with_digit o 256 b) g.caps ∙ digit_more g.exact 256 b (omega arith));
          same = rw (← q) at goes;
        }

-- what a step of the loop gives
pub ruleset constant = (character_empty, going-starts, going-on)
