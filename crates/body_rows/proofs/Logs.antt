-- The log stands in no slice; a body is defined wherever the reader stands. Assumes nothing.
use mathlib.Core.Path.{◌≡◌, refl}
use mathlib.Core.Bool.{Bool}
use mathlib.Core.List.{List}
use Prim.Native.Nat.{ℕ}
use lib.IntN.{ℤ}
use Rattle.definition.specs.Row.{Span}
use Rattle.definition.specs.Table.{Table, Event, logged}
use Rattle.definition.specs.Composite.{Body, define_body}
use Rattle.definition.specs.Enumeration.{define_enum}
use Rattle.definition.specs.Lent.{table_words, wides, signeds}
use Rattle.table.specs.Held.{state, reading_words, Fits, Encodes}
use Rattle.table.specs.declared.Cursor.{Cursor}
use Rattle.body_rows.specs.Bodies.{body_defined, enum_defined}

pub logged-on : {t : Table} {c : Cursor} {w d : List ℕ} {v : List ℤ} (e : Event) → Encodes t c w d v → Encodes (logged t e) c w d v
unfolding reading_words table_words wides signeds
logged-on {t} e h =
    let f : Fits (logged t e) = record { rows = h.words.fits.rows; members = h.words.fits.members; values = h.words.fits.values; parameters = h.words.fits.parameters; declarations = h.words.fits.declarations } in
    record {
      counts = record { rows = h.counts.rows; members = h.counts.members; values = h.counts.values; parameters = h.counts.parameters; declarations = h.counts.declarations };
      words = record { fits = f; rest = h.words.rest; long = h.words.long; are = h.words.are };
      index = h.index;
      marks = h.marks;
      wides = record { fits = f; are = h.wides.are };
      signeds = record { fits = f; are = h.signeds.are };
    }

module _ (c : Cursor) (t : Table) where
  pub body-state : (union : Bool) (name n : ℕ) (b : Body) → define_body union name n b (state c t) ≡ state c (body_defined union name n b t)
  unfolding define_body
  body-state union name n b = refl

  pub enum_state : (name n bytes : ℕ) (e : Span) → define_enum name n bytes e (state c t) ≡ state c (enum_defined name n bytes e t)
  unfolding define_enum
  enum_state name n bytes e = refl
