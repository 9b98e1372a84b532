use Rattle.definition.specs.Listing.{listing}
use Rattle.listing.proofs.Under.{both, held_by}
use Rattle.listing.proofs.put_listing.Goals as goal

pub returns : goal.returns
unfolding listing
returns c = both c.type_lines.ensures (held_by c.decl_lines.ensures (λ t h. (h.words, h.counts.declarations)))
