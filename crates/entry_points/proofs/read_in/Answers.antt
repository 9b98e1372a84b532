use mathlib.Core.Path.{refl}
use Rattle.encoding.proofs.KindColumns.{kinds_filled}
use Rattle.entry_points.proofs.Telling.{cleared_scratch}
use Rattle.entry_points.proofs.read_in.Goals as goal

pub read_columns-requires : goal.read_columns-requires
read_columns-requires g c = record { scratch = cleared_scratch _ c.args.heads c.args.text.now (λ h. c.requires.fits_if.run h) c.requires.head_count (kinds_filled g.row.LENGTH _ c.from-end.ensures) refl refl (rw c.requires.linked refl); encodes = c.requires.encodes }
