use Rattle.std.proofs.Common.{sym}
use lib.Seq.{length-take-le}
use Rattle.reports.proofs.Front.{words-there, wides-there, signeds-there, room, listed}
use Rattle.definition.specs.Region.{words_length, wides_length}
use Rattle.reports.proofs.put_table.Goals as goal

pub slice_bounds-put_listing-end : goal.slice_bounds-put_listing-end
slice_bounds-put_listing-end c = sym (length-take-le words_length c.args.w.now (words-there c.requires))

pub slice_bounds-put_listing-end-2 : goal.slice_bounds-put_listing-end-2
slice_bounds-put_listing-end-2 c = sym (length-take-le wides_length c.args.d.now (wides-there c.requires))

pub slice_bounds-put_listing-end-3 : goal.slice_bounds-put_listing-end-3
slice_bounds-put_listing-end-3 c = sym (length-take-le 4096 c.args.v.now (signeds-there c.requires))

pub put_listing-requires : goal.put_listing-requires
put_listing-requires c = rw c.cursor_of.ensures (room c.requires)

pub returns : goal.returns
returns c = listed _ c.cursor_of.ensures c.put_listing.ensures
