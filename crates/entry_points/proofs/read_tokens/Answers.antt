use mathlib.Core.Path.{refl}
use Rattle.table.proofs.Shown.{long}
use Rattle.entry_points.proofs.Parsing.{kept-words, read_done, read-refused}
use Rattle.entry_points.proofs.read_tokens.Goals as goal

pub fill_names-names-requires : goal.fill_names-names-requires
fill_names-names-requires c = record { columns = c.requires.columns; places_below = c.requires.places_below; held_words = kept-words c.in-Ok.ensures refl }

pub returns-in-Ok : goal.returns-in-Ok
returns-in-Ok c = read_done _ _ _ c.requires.columns c.in-Ok.ensures _ _ _ refl c.fill_names-names.ensures.writes c.counted.ensures

pub returns-in-Err : goal.returns-in-Err
returns-in-Err c = read-refused _ _ _ c.requires.columns c.in-Err.ensures _ _ refl (long c.requires.encodes) c.clear_left.ensures
