use Rattle.std.proofs.Common.{ap}
use Rattle.definition.specs.Listing.{decl_line}
use Rattle.printing.proofs.Writing.{as_is, keeps_written}
use Rattle.lines.proofs.decl_line.Goals as goal

pub returns : goal.returns
returns c = record { kept = keeps_written c.put_declaration.ensures; of = λ t h. as_is c.put_declaration.ensures (ap (decl_line _) (c.declaration_at.ensures.of t h)) }
