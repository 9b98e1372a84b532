-- What the code's sizes and alignments mean.
use Rattle.std.specs.Prelude.{◌≡◌, List, Bool, true, false, ◌||◌, ℕ, ◌^◌, max, eqb, ltb, length, Option as CodeOption, Some, None}
use Rattle.std.proofs.Math.Option.{Option, none, some}
use Rattle.definition.specs.Model.{Model as MeantModel}
use Rattle.definition.specs.RowKind.{int_kind, float_kind, bool_kind, pointer_kind, struct_kind, union_kind, enum_kind}
use Rattle.definition.specs.Row.{span_of, extent_of}
use Rattle.definition.specs.Table.{Table, row_at}
use Rattle.definition.specs.Types.{members_of}
use Rattle.definition.specs.Size.{times, size_of}
use Rattle.definition.specs.Align.{capped, largest, align_within}
use Rattle.table.specs.Held.{InWords, InWides}
use Rattle.model.specs.declared.Model.{Model}
use Rattle.model.specs.Meaning.{model}
use Rattle.size_align.specs.declared.Aligning.{Aligning}
use Rattle.size_align.specs.declared.Size.{Size}
use Rattle.size_align.specs.declared.Size.TheVariants.{Known, Big, Unknown}

-- an exact size as code tells it whose numbers stay below a limit
unfoldable pub told_below : ℕ → Option ℕ → Size
told_below limit none = Unknown
told_below limit (some s) = elim (ltb s limit) [ true ↦ Known s | false ↦ Big ]

-- and as this code tells it
abbrev pub told : Option ℕ → Size
told = told_below (2 ^ 64)

-- a kind is one of three
unfoldable pub among : ℕ → ℕ → ℕ → ℕ → Bool
among kind a b c = eqb kind a || (eqb kind b || eqb kind c)

-- the size of a row that goes by no other row, from its numbers
unfoldable pub own_size : MeantModel → ℕ → ℕ → ℕ → Option ℕ
own_size m kind flags extent =
    elim (among kind int_kind float_kind enum_kind) [
      | true ↦ some extent
      | false ↦
          elim (eqb kind bool_kind) [
            | true ↦ some 1
            | false ↦
                elim (eqb kind pointer_kind) [
                  | true ↦ some m.pointer
                  | false ↦
                      elim (among kind struct_kind union_kind union_kind) [ true ↦ elim (eqb flags 0) [ true ↦ none | false ↦ some extent ] | false ↦ none ]
                ]
          ]
    ]

pub record OwnIs (m : Model) (kind flags extent : ℕ) (r : Size) : Type 0 where
  pub is : r ≡ told (own_size (model m) kind flags extent)

pub record TimesIs (s : Size) (bound : ℕ) (r : Size) : Type 0 where
  pub of : (o : Option ℕ) → s ≡ told o → r ≡ told (times o bound)

-- d holds the rows of a table; its members may be elsewhere, as while they are laid out
pub record Extents (t : Table) (d : List ℕ) : Type 0 where
  pub table : Table
  pub holds : InWides table d
  pub rows : table.rows ≡ t.rows

-- The size of row n, of whatever table the slices hold.
pub record SizeIs (m : Model) (n : ℕ) (w d : List ℕ) (r : Size) : Type 0 where
  pub of : (t : Table) → InWords t w → Extents t d → r ≡ told (size_of (model m) t n)

-- an alignment of the code is the definition's
abbrev pub align : CodeOption ℕ → Option ℕ
align (Some a) = some a
align None = none

-- the alignment of a row that goes by no other and has no members, from its numbers
unfoldable pub own_align : MeantModel → ℕ → ℕ → Option ℕ
own_align m kind extent =
    elim (among kind int_kind float_kind enum_kind) [
      | true ↦ some (capped m extent)
      | false ↦
          elim (eqb kind bool_kind) [
            | true ↦ some 1
            | false ↦
                elim (eqb kind pointer_kind) [ true ↦ some (capped m m.pointer) | false ↦ none ]
          ]
    ]

-- What alignments are read from is a model's and a table's.
pub record Reads (x : Aligning) (m : MeantModel) (t : Table) : Type 0 where
  pub pointer : x.pointer ≡ capped m m.pointer
  pub most : x.most ≡ max m.max_align 1
  pub words : InWords t x.w.now
  pub wides : Extents t x.d.now
  pub members : x.members ≡ length t.members

pub record OwnAlignIs (x : Aligning) (kind n : ℕ) (r : CodeOption ℕ) : Type 0 where
  pub of : (m : MeantModel) (t : Table) → Reads x m t → align r ≡ own_align m kind (extent_of (row_at t n))

-- The alignment of row n as far as some levels deep, of whatever table is read.
pub record WithinIs (x : Aligning) (levels n : ℕ) (r : CodeOption ℕ) : Type 0 where
  pub of : (m : MeantModel) (t : Table) → Reads x m t → align r ≡ align_within levels m t n

-- The largest of its members.
pub record StrictestIs (x : Aligning) (levels n : ℕ) (r : CodeOption ℕ) : Type 0 where
  pub of : (m : MeantModel) (t : Table) → Reads x m t → align r ≡ largest (λ k. align_within levels m t k) (members_of t n (span_of (row_at t n)))

-- The alignment for a whole model.
pub record AlignIs (levels : ℕ) (m : Model) (members n : ℕ) (w d : List ℕ) (r : CodeOption ℕ) : Type 0 where
  pub of : (t : Table) → InWords t w → Extents t d → members ≡ length t.members → align r ≡ align_within levels (model m) t n
