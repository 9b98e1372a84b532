use Rattle.std.proofs.Common.{drop}
use Rattle.definition.specs.Listing.{type_lines}
use Rattle.model.specs.Meaning.{model}
use Rattle.table.specs.Held.{Stands}
use Rattle.listing.proofs.Under.{GoingAs}
use Rattle.listing.proofs.type_lines.Given as goal

abbrev pub invariant-loop-row : goal.invariant-loop-row
invariant-loop-row l = GoingAs (λ t. Stands t l.c l.w l.d l.v) (λ t. type_lines l.text (model l.m) t 0 t.rows) l.initial.out (λ t. type_lines l.text (model l.m) t l.row (drop l.row t.rows)) l.out
