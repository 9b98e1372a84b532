use native.Mathlib.Omega.{arith}
use mathlib.Core.Path.{◌≡◌}
use borrow.Author.Tests.{le-ltb}
use lib.ListN.{length}
use Rattle.definition.specs.Region.{words_length}
use Rattle.table.proofs.Regions.{words_long}
use Rattle.same_entries.proofs.is_short.Goals as goal

pub returns : goal.returns
returns c = λ t h. let e : length c.args.w.now ≡ words_length = rw h.are (words_long t h.fits h.rest h.long) in le-ltb _ _ (omega arith)
