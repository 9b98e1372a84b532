use Rattle.std.proofs.Common.{drop}
use Rattle.definition.specs.Lent.{flat}
use Rattle.definition.specs.Listing.{decl_line}
use Rattle.listing.specs.Listed.{HoldDeclarations}
use Rattle.listing.proofs.Under.{GoingAs}
use Rattle.listing.proofs.decl_lines.Given as goal

abbrev pub invariant-loop-i : goal.invariant-loop-i
invariant-loop-i l = GoingAs (HoldDeclarations l.w l.declarations) (λ t. flat (decl_line l.text) t.declarations) l.initial.out (λ t. flat (decl_line l.text) (drop l.i t.declarations)) l.out
