-- Searches of the rows, from row i on. Assumes nothing.
use mathlib.Core.Path.{◌≡◌, refl, sym, ap, ◌∙◌}
use mathlib.Core.Bool.{Bool, true, false, ◌&&◌, ◌||◌, and-false, and-true}
use mathlib.Core.Option.{Option, none, some}
use mathlib.Core.List.{List, [], ◌∷◌}
use mathlib.Mathlib.Data.Bool.Basic.{or_inl}
use Prim.Native.Nat.{ℕ, zero, suc, ◌+◌, ◌-◌, ◌*◌, ◌≤◌, ◌<◌}
use native.Mathlib.Omega.{arith}
use native.Mathlib.Numerals.{add-one}
use lib.Dec.{eqb, ltb}
use lib.ListN.{length, get_or, drop, drop_of_length-le}
use lib.Seq.{drop-cons}
use borrow.Author.Tests.{eq-eqb, ne_eqb, eqb-true, ltb-true, ltb-false}
use Rattle.lemmas.proofs.Branch.{yes, nay}
use Rattle.definition.specs.Row.{Row, void, kind_of, target_of, row_name}
use Rattle.definition.specs.Table.{Table, row_at}
use Rattle.definition.specs.Types.{row_named, is_alias, resolve_within}
use Rattle.definition.specs.Limit.{max_rows}
use Rattle.definition.specs.Region.{words_length, members_at}
use Rattle.table.specs.Held.{InWords}
use Rattle.table.proofs.Columns.{row_read}
use Rattle.table.proofs.Regions.{words_long}

-- the first row that passes a test, the rows being numbered from n
unfoldable pub first_row : (ℕ → Row → Bool) → ℕ → List Row → Option ℕ
first_row test n [] = none
first_row test n (r ∷ rs) = elim (test n r) [ true ↦ some n | false ↦ first_row test (suc n) rs ]

module _ (test : ℕ → Row → Bool) (rows : List Row) (i : ℕ) where
  look : i < length rows → first_row test i (drop i rows) ≡ elim (test i (get_or rows i void)) [ true ↦ some i | false ↦ first_row test (suc i) (drop (suc i) rows) ]
  unfolding first_row
  look p = rw (drop-cons rows i void p)

  pub look-yes : i < length rows → test i (get_or rows i void) ≡ true → first_row test i (drop i rows) ≡ some i
  look-yes p e = look p ∙ rw e

  pub look_no : i < length rows → test i (get_or rows i void) ≡ false → first_row test i (drop i rows) ≡ first_row test (i + 1) (drop (i + 1) rows)
  look_no p e = rw add-one (look p ∙ rw e)

  pub look-end : length rows ≤ i → first_row test i (drop i rows) ≡ none
  unfolding first_row
  look-end e = rw (drop_of_length-le rows e)

-- rows that do not pass, and places after the last, are skipped
module _ (test : ℕ → Row → Bool) (rows : List Row) where
  pub look_skip : (r : ℕ) → ((i : ℕ) → i < length rows → i < r → test i (get_or rows i void) ≡ false) → first_row test 0 rows ≡ first_row test r (drop r rows)
  look_skip zero f = refl
  look_skip (suc r) f = look_skip r (λ i p q. f i p (omega arith)) ∙ go (ltb r (length rows)) refl
    where
      go : (z : Bool) → ltb r (length rows) ≡ z → first_row test r (drop r rows) ≡ first_row test (suc r) (drop (suc r) rows)
      go true e = let q : r < length rows = ltb-true _ _ e in look test rows r q ∙ rw (f r q (omega arith))
      go false e = let q : length rows ≤ r = ltb-false _ _ e in look-end test rows r q ∙ sym (look-end test rows (suc r) (omega arith))

-- a name is searched so
abbrev pub named_test : ℕ → ℕ → ℕ → Row → Bool
named_test kind name n r = eqb (kind_of r) kind && eqb (row_name r) name

pub named-is : (kind name n : ℕ) (rs : List Row) → row_named kind name n rs ≡ first_row (named_test kind name) n rs
unfolding row_named first_row
named-is kind name n [] = refl
named-is kind name n (r ∷ rs) = go (named_test kind name n r) (named-is kind name (suc n) rs)
  where
    go : (b : Bool) → row_named kind name (suc n) rs ≡ first_row (named_test kind name) (suc n) rs
        → ◌≡◌ {A = Option ℕ} (elim b as (λ z. Option ℕ) [ true ↦ some n | false ↦ row_named kind name (suc n) rs ]) (elim b as (λ z. Option ℕ) [ true ↦ some n | false ↦ first_row (named_test kind name) (suc n) rs ])
    go true e = refl
    go false e = e

-- what is looked through
module _ (t : Table) (k n : ℕ) where
  pub resolve-on : 0 < k → is_alias (row_at t n) ≡ true → resolve_within k t n ≡ resolve_within (k - 1) t (target_of (row_at t n))
  unfolding resolve_within
  resolve-on p e = let h : k ≡ suc (k - 1) = omega arith in ap (λ m. resolve_within m t n) h ∙ yes (is_alias (row_at t n)) _ _ e

  pub resolve-end : 0 < k → is_alias (row_at t n) ≡ false → resolve_within k t n ≡ n
  unfolding resolve_within
  resolve-end p e = let h : k ≡ suc (k - 1) = omega arith in ap (λ m. resolve_within m t n) h ∙ nay (is_alias (row_at t n)) _ _ e

  pub resolve-out : k ≤ 0 → resolve_within k t n ≡ n
  unfolding resolve_within
  resolve-out p = let h : k ≡ 0 = omega arith in ap (λ m. resolve_within m t n) h

-- tests of a row whose numbers were read
module _ (x : Row) (k : ℕ) (k-is : k ≡ kind_of x) where
  pub alias_first : k ≡ 10 → true ≡ is_alias x
  unfolding is_alias
  alias_first q = sym (or_inl _ (eqb (kind_of x) 11) (eq-eqb (kind_of x) 10 (sym k-is ∙ q)))

  pub alias_second : (k ≡ 10 → ⊥) → eqb k 11 ≡ is_alias x
  unfolding is_alias
  alias_second q = sym (ap (λ b. b || eqb (kind_of x) 11) (ne_eqb (kind_of x) 10 (λ e. q (k-is ∙ e))) ∙ ap (λ z. eqb z 11) (sym k-is))

-- a row that has not both
pub not_named : (kind name i : ℕ) (x : Row) → (kind_of x ≡ kind → row_name x ≡ name → ⊥) → named_test kind name i x ≡ false
not_named kind name i x q = go (eqb (kind_of x) kind) refl
  where
    go : (z : Bool) → eqb (kind_of x) kind ≡ z → (z && eqb (row_name x) name) ≡ false
    go true e = ne_eqb (row_name x) name (q (eqb-true (kind_of x) kind e))
    go false e = refl

-- a search that begins where no row before has both
module _ (kind name : ℕ) (rows : List Row) (first : ℕ) (below : (i : ℕ) → i < length rows → i < first → kind_of (get_or rows i void) ≡ kind → row_name (get_or rows i void) ≡ name → ⊥) where
  abbrev Missed : ℕ → Type 0
  Missed i = named_test kind name i (get_or rows i void) ≡ false

  missed : (to : ℕ) → ((i : ℕ) → first ≤ i → i < to → Missed i) → (i : ℕ) → i < length rows → i < to → Missed i
  missed to f i p q = go (ltb i first) refl
    where
      go : (z : Bool) → ltb i first ≡ z → Missed i
      go true e = not_named kind name i (get_or rows i void) (below i p (ltb-true _ _ e))
      go false e = f i (ltb-false _ _ e) q

  pub named-none : ((i : ℕ) → first ≤ i → i < length rows → Missed i) → none ≡ row_named kind name 0 rows
  named-none f = sym (named-is kind name 0 rows ∙ (look_skip (named_test kind name) rows (length rows) (missed (length rows) f) ∙ look-end (named_test kind name) rows (length rows) (omega arith)))

  pub named-some : (n : ℕ) → n < length rows → named_test kind name n (get_or rows n void) ≡ true → ((i : ℕ) → first ≤ i → i < n → Missed i) → some n ≡ row_named kind name 0 rows
  named-some n p e f = sym (named-is kind name 0 rows ∙ (look_skip (named_test kind name) rows n (missed n f) ∙ look-yes (named_test kind name) rows n p e))

-- a row's numbers as they stand in the slice
module _ {t : Table} {w : List ℕ} (h : InWords t w) (i : ℕ) (p : i < max_rows) where
  pub kind-is : get_or w (6 * i) 0 ≡ kind_of (row_at t i)
  kind-is = row_read {b = 6 * i} (record { is = refl }) h i 0 p (omega arith) (omega arith)

  pub target_is : get_or w (6 * i + 1) 0 ≡ target_of (row_at t i)
  target_is = row_read {b = 6 * i + 1} (record { is = refl }) h i 1 p (omega arith) refl

  pub name-is : get_or w (6 * i + 3) 0 ≡ row_name (row_at t i)
  name-is = row_read {b = 6 * i + 3} (record { is = refl }) h i 3 p (omega arith) refl

  module _ (kind name : ℕ) where
    pub other_name : (get_or w (6 * i + 3) 0 ≡ name → ⊥) → false ≡ named_test kind name i (row_at t i)
    other_name q = sym (and-false (eqb (kind_of (row_at t i)) kind)) ∙ sym (ap (λ b. eqb (kind_of (row_at t i)) kind && b) (ne_eqb (row_name (row_at t i)) name (λ e. q (name-is ∙ e))))

    pub same_name : get_or w (6 * i + 3) 0 ≡ name → eqb (get_or w (6 * i) 0) kind ≡ named_test kind name i (row_at t i)
    same_name q = ap (λ z. eqb z kind) kind-is ∙ (sym (and-true (eqb (kind_of (row_at t i)) kind)) ∙ sym (ap (λ b. eqb (kind_of (row_at t i)) kind && b) (eq-eqb (row_name (row_at t i)) name (sym name-is ∙ q))))

-- a slice that holds a table has its length
pub all_there : {t : Table} {w : List ℕ} → InWords t w → (length w ≡ words_length → ⊥) → ⊥
all_there {t} {w} h p = p (rw h.are (words_long t h.fits h.rest h.long))

-- and so all rows
pub all-rows : {t : Table} {w : List ℕ} → InWords t w → length w < members_at → ⊥
all-rows {t} {w} h p = all_there h (λ e. omega arith)
