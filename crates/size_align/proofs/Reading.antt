-- Slices that hold a table have their lengths, and so are read as arrays. Assumes nothing.
use mathlib.Core.Path.{◌≡◌, ap, ◌∙◌}
use mathlib.Core.List.{List}
use Prim.Native.Nat.{ℕ, min, max}
use lib.ListN.{length}
use Rattle.definition.specs.Model.{Model}
use Rattle.definition.specs.Region.{words_length, wides_length}
use Rattle.definition.specs.Table.{Table}
use Rattle.table.specs.Held.{InWords}
use Rattle.table.proofs.Regions.{words_long, wides-long}
use Rattle.size_align.specs.declared.Aligning.{Aligning}
use Rattle.size_align.specs.Measure.{Extents, Reads}

module _ {t : Table} where
  pub all_words : {w : List ℕ} → InWords t w → (length w ≡ words_length → ⊥) → ⊥
  all_words h p = p (ap length h.are ∙ words_long t h.fits h.rest h.long)

  pub all_wides : {d : List ℕ} → Extents t d → (length d ≡ wides_length → ⊥) → ⊥
  all_wides g p = p (ap length g.holds.are ∙ wides-long g.table g.holds.fits)

  pub reads : {x : Aligning} (m : Model) {w d : List ℕ} → InWords t w → Extents t d → x.w.now ≡ w → x.d.now ≡ d → x.most ≡ max m.max_align 1 → x.pointer ≡ min (max m.pointer 1) x.most
      → x.members ≡ length t.members → Reads x m t
  reads {x} m h g a b q p e = record {
    pointer = p ∙ ap (λ z. min (max m.pointer 1) z) q;
    most = q;
    words = rw a h;
    wides = rw b g;
    members = e;
  }
