-- The size and the alignment of a row from its numbers. Assumes nothing.
use mathlib.Core.Path.{◌≡◌, refl, ap, ◌∙◌}
use mathlib.Core.Bool.{Bool, true, false}
use mathlib.Core.Option.{Option, none, some}
use mathlib.Core.List.{List}
use Prim.Native.Nat.{ℕ, suc, ◌-◌, ◌<◌, ◌≤◌}
use native.Mathlib.Omega.{arith}
use lib.Dec.{eqb, ltb}
use lib.ListN.{get_or}
use Rattle.definition.specs.Model.{Model}
use Rattle.definition.specs.RowKind.{array_kind, struct_kind, union_kind, typedef_kind, qualified_kind}
use Rattle.definition.specs.Row.{Row, void, int, float, bool, pointer, array, composite, enumeration, function, typedef, qualified, kind_of, target_of, flags_of, extent_of, span_of}
use Rattle.definition.specs.Table.{Table, row_at}
use Rattle.definition.specs.Types.{members_of}
use Rattle.definition.specs.Size.{times, size_by, size_within, size_of}
use Rattle.definition.specs.Align.{or_one, largest, align_by, align_within}
use Rattle.definition_laws.proofs.Counted.{size-enough}
use Rattle.lemmas.proofs.Branch.{yes, nay, eq_yes, eq_no, lt_yes, lt_no}
use Rattle.table.specs.Held.{InWides}
use Rattle.table.specs.Reply.{WideIs}
use Rattle.size_align.specs.Measure.{Extents, among, own_size, own_align}

-- slices that hold a table hold its rows
pub extents : {t : Table} {d : List ℕ} → InWides t d → Extents t d
extents h = record { table = _; holds = h; rows = refl }

-- a number that was read is the row's
pub extent_of_lem : (n : ℕ) {t : Table} {d : List ℕ} {r : ℕ} → WideIs (λ s. extent_of (row_at s n)) d r → Extents t d → r ≡ extent_of (row_at t n)
extent_of_lem n p x = p.of x.table x.holds ∙ ap (λ rs. extent_of (get_or rs n void)) x.rows

-- an array goes by its element, an alias by what it stands for, any other row by itself
unfoldable by_numbers : Model → (ℕ → Option ℕ) → ℕ → ℕ → ℕ → ℕ → Option ℕ
by_numbers m f kind target flags extent =
    elim (among kind array_kind typedef_kind qualified_kind) [
      | true ↦ elim (eqb kind array_kind) [ true ↦ elim (eqb flags 0) [ true ↦ none | false ↦ times (f target) extent ] | false ↦ f target ]
      | false ↦ own_size m kind flags extent
    ]

by-numbers : (m : Model) (f : ℕ → Option ℕ) (x : Row) → size_by m f x ≡ by_numbers m f (kind_of x) (target_of x) (flags_of x) (extent_of x)
unfolding size_by by_numbers own_size among kind_of target_of flags_of extent_of
by-numbers m f void = refl
by-numbers m f (int s true) = refl
by-numbers m f (int s false) = refl
by-numbers m f (float s) = refl
by-numbers m f bool = refl
by-numbers m f (pointer r) = refl
by-numbers m f (array r none) = refl
by-numbers m f (array r (some b)) = refl
by-numbers m f (composite true w none e) = refl
by-numbers m f (composite true w (some s) e) = refl
by-numbers m f (composite false w none e) = refl
by-numbers m f (composite false w (some s) e) = refl
by-numbers m f (enumeration w s e) = refl
by-numbers m f (function r v e) = refl
by-numbers m f (typedef w r) = refl
by-numbers m f (qualified r q) = refl

-- only a lower row is asked
abbrev below : Model → Table → ℕ → ℕ → Option ℕ
below m t n r = elim (ltb r n) [ true ↦ size_within n m t r | false ↦ none ]

numbered : (m : Model) (f : ℕ → Option ℕ) (x : Row) (kind target flags extent : ℕ) → kind ≡ kind_of x → target ≡ target_of x → flags ≡ flags_of x → extent ≡ extent_of x
    → size_by m f x ≡ by_numbers m f kind target flags extent
numbered m f x kind target flags extent k g l e = rw (k, g, l, e) (by-numbers m f x)

none-under : {o : Option ℕ} (b : ℕ) (array unbounded : Bool) → o ≡ none
    → ◌≡◌ {A = Option ℕ} (elim array as (λ z. Option ℕ) [ true ↦ elim unbounded as (λ z. Option ℕ) [ true ↦ none | false ↦ times o b ] | false ↦ o ]) none
none-under b true true e = refl
none-under b true false e = rw e
none-under b false u e = e

-- the size of a row from numbers that were read
module _ (m : Model) (t : Table) (n : ℕ) {kind : ℕ} (k : kind ≡ kind_of (row_at t n)) where
  sized : {target flags extent : ℕ} → target ≡ target_of (row_at t n) → flags ≡ flags_of (row_at t n) → extent ≡ extent_of (row_at t n)
      → size_of m t n ≡ by_numbers m (below m t n) kind target flags extent
  unfolding size_within
  sized {target} {flags} {extent} g l e = numbered m (below m t n) (row_at t n) kind target flags extent k g l e

  pub own-sized : {flags extent : ℕ} → flags ≡ flags_of (row_at t n) → extent ≡ extent_of (row_at t n) → among kind array_kind typedef_kind qualified_kind ≡ false
      → size_of m t n ≡ own_size m kind flags extent
  unfolding by_numbers
  own-sized l e q = sized refl l e ∙ nay _ _ _ q

  module _ {target : ℕ} (g : target ≡ target_of (row_at t n)) (q : among kind array_kind typedef_kind qualified_kind ≡ true) where
    pub not_below : n ≤ target → size_of m t n ≡ none
    unfolding by_numbers
    not_below p = sized g refl refl ∙ (yes _ _ _ q ∙ none-under _ (eqb kind array_kind) (eqb (flags_of (row_at t n)) 0) (lt_no target n _ _ p))

    is_below : target < n → below m t n target ≡ size_of m t target
    is_below p = lt_yes target n _ _ p ∙ (size-enough m t target).same n p

    pub alias_sized : target < n → (kind ≡ array_kind → ⊥) → size_of m t n ≡ size_of m t target
    unfolding by_numbers
    alias_sized p a = sized g refl refl ∙ (yes _ _ _ q ∙ (eq_no _ _ _ _ a ∙ is_below p))

    pub unsized : {flags : ℕ} → flags ≡ flags_of (row_at t n) → kind ≡ array_kind → flags ≡ 0 → size_of m t n ≡ none
    unfolding by_numbers
    unsized l a z = sized g l refl ∙ (yes _ _ _ q ∙ (eq_yes _ _ _ _ a ∙ eq_yes _ _ _ _ z))

    pub array-sized : {flags extent : ℕ} → flags ≡ flags_of (row_at t n) → extent ≡ extent_of (row_at t n) → target < n → kind ≡ array_kind → (flags ≡ 0 → ⊥)
        → size_of m t n ≡ times (size_of m t target) extent
    unfolding by_numbers
    array-sized {extent = x} l e p a z = sized g l e ∙ (yes _ _ _ q ∙ (eq_yes _ _ _ _ a ∙ (eq_no _ _ _ _ z ∙ ap (λ o. times o x) (is_below p))))

-- the same of alignments
unfoldable align_numbers : Model → (ℕ → Option ℕ) → ℕ → ℕ → ℕ → Option ℕ → Option ℕ
align_numbers m f kind target extent best =
    elim (among kind struct_kind union_kind union_kind) [
      | true ↦ some (or_one best)
      | false ↦
          elim (among kind array_kind typedef_kind qualified_kind) [ true ↦ f target | false ↦ own_align m kind extent ]
    ]

align-numbers : (m : Model) (t : Table) (f : ℕ → Option ℕ) (n : ℕ) (x : Row) → align_by m t f n x ≡ align_numbers m f (kind_of x) (target_of x) (extent_of x) (largest f (members_of t n (span_of x)))
unfolding align_by align_numbers own_align among kind_of target_of extent_of span_of
align-numbers m t f n void = refl
align-numbers m t f n (int s g) = refl
align-numbers m t f n (float s) = refl
align-numbers m t f n bool = refl
align-numbers m t f n (pointer r) = refl
align-numbers m t f n (array r b) = refl
align-numbers m t f n (composite true w s e) = refl
align-numbers m t f n (composite false w s e) = refl
align-numbers m t f n (enumeration w s e) = refl
align-numbers m t f n (function r v e) = refl
align-numbers m t f n (typedef w r) = refl
align-numbers m t f n (qualified r q) = refl

pub no_levels : (m : Model) (t : Table) (n levels : ℕ) → levels ≡ 0 → align_within levels m t n ≡ none
unfolding align_within
no_levels m t n levels z = rw z

module _ (m : Model) (t : Table) (n levels : ℕ) (l : 0 < levels) {kind : ℕ} (k : kind ≡ kind_of (row_at t n)) where
  aligned : {target extent : ℕ} → target ≡ target_of (row_at t n) → extent ≡ extent_of (row_at t n)
      → align_within levels m t n ≡ align_numbers m (λ r. align_within (levels - 1) m t r) kind target extent (largest (λ r. align_within (levels - 1) m t r) (members_of t n (span_of (row_at t n))))
  unfolding align_within
  aligned {target} {extent} g e =
      let h : levels ≡ suc (levels - 1) = omega arith in
      ap (λ z. align_within z m t n) h ∙ rw (k, g, e) (align-numbers m t (λ r. align_within (levels - 1) m t r) n (row_at t n))

  pub composite-aligned : among kind struct_kind union_kind union_kind ≡ true
      → align_within levels m t n ≡ some (or_one (largest (λ r. align_within (levels - 1) m t r) (members_of t n (span_of (row_at t n)))))
  unfolding align_numbers
  composite-aligned q = aligned refl refl ∙ yes _ _ _ q

  module _ (p : among kind struct_kind union_kind union_kind ≡ false) where
    pub alias_aligned : {target : ℕ} → target ≡ target_of (row_at t n) → among kind array_kind typedef_kind qualified_kind ≡ true
        → align_within levels m t n ≡ align_within (levels - 1) m t target
    unfolding align_numbers
    alias_aligned g q = aligned g refl ∙ (nay _ _ _ p ∙ yes _ _ _ q)

    pub own-aligned : {extent : ℕ} → extent ≡ extent_of (row_at t n) → among kind array_kind typedef_kind qualified_kind ≡ false
        → align_within levels m t n ≡ own_align m kind extent
    unfolding align_numbers
    own-aligned e q = aligned refl e ∙ (nay _ _ _ p ∙ nay _ _ _ q)
