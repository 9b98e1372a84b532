-- Laws of parentheses. Assumes nothing.
use mathlib.Core.Path.{◌≡◌, refl, sym, ap, ◌∙◌}
use mathlib.Core.Bool.{false}
use Prim.Native.Nat.{ℕ, zero, suc, ◌+◌, ◌-◌, ◌≤◌, ◌<◌}
use native.Mathlib.Omega.{arith}
use lib.ListN.{length, take, get_or}
use Rattle.definition.specs.Answer.{got, refused}
use Rattle.definition.specs.Text.{Bytes, byte_at}
use Rattle.definition.specs.Scan.{from, before}
use Rattle.definition.specs.Attribute.{not_blank, in_parens, changes_layout, parenthesized, attribute_at}
use Rattle.lemmas.proofs.Branch.{eq_yes, eq_no, le_yes, le_no}
use Rattle.lemmas.proofs.Lists.{drop-next}
use native.Mathlib.Numerals.{add-one}
use Rattle.scan.proofs.Going.{from_end}

module _ (text : Bytes) (i : ℕ) where
  pub parens-end : (deep : ℕ) → length text ≤ i → in_parens deep (from text i) ≡ 0
  unfolding in_parens
  parens-end deep h = rw (from_end text i h)

  -- a turn of the loop
  module _ (h : i < length text) where
    pub opens : (deep : ℕ) → get_or text i 0 ≡ 40 → in_parens deep (from text i) ≡ suc (in_parens (deep + 1) (from text (i + 1)))
    unfolding in_parens
    opens deep e = rw (drop-next text i 0 h, add-one deep) (eq_yes _ _ _ _ e)

    pub other : (deep : ℕ) → (get_or text i 0 ≡ 40 → ⊥) → (get_or text i 0 ≡ 41 → ⊥) → in_parens deep (from text i) ≡ suc (in_parens deep (from text (i + 1)))
    unfolding in_parens
    other deep e f = rw (drop-next text i 0 h) (eq_no _ _ _ _ e ∙ eq_no _ _ _ _ f)

    pub last_closes : (deep : ℕ) → get_or text i 0 ≡ 41 → deep ≡ 0 → in_parens deep (from text i) ≡ 0
    unfolding in_parens
    last_closes deep e z = rw (drop-next text i 0 h, e, z)

    pub closes : (deep : ℕ) → get_or text i 0 ≡ 41 → (deep ≡ 0 → ⊥) → in_parens deep (from text i) ≡ suc (in_parens (deep - 1) (from text (i + 1)))
    unfolding in_parens
    closes zero e n = absurd (n refl)
    closes (suc d) e n = let q : suc d - 1 ≡ d = omega arith in rw (drop-next text i 0 h, e, q)

module _ (text : Bytes) (word at end : ℕ) (e : end ≡ at + 1 + in_parens zero (from text (at + 1))) where
  pub not_closed_lem : length text ≤ end → parenthesized text word at ≡ refused 5 word
  unfolding parenthesized
  not_closed_lem h = le_yes (length text) (at + 1 + in_parens zero (from text (at + 1))) _ _ (omega arith)

  pub closed : end < length text → parenthesized text word at ≡ got (record { layout = changes_layout (take (end - (at + 1)) (from text (at + 1))); next = end + 1 })
  unfolding parenthesized
  closed h =
      let p : in_parens zero (from text (at + 1)) ≡ end - (at + 1) = omega arith in
      let q : at + 2 + in_parens zero (from text (at + 1)) ≡ end + 1 = omega arith in
      le_no (length text) (at + 1 + in_parens zero (from text (at + 1))) _ _ (omega arith) ∙ rw (q, p)

module _ (text : Bytes) (word at open' : ℕ) (e : open' ≡ at + before not_blank (from text at)) where
  pub no_parens : (byte_at text open' ≡ 40 → ⊥) → attribute_at text word at ≡ got (record { layout = false; next = at })
  unfolding attribute_at
  no_parens q = eq_no _ _ _ _ (rw e at q)

  pub parens : byte_at text open' ≡ 40 → attribute_at text word at ≡ parenthesized text word open'
  unfolding attribute_at
  parens q = eq_yes _ _ _ _ (rw e at q) ∙ ap (parenthesized text word) (sym e)
