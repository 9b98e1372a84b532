use Rattle.definition.specs.Table.{Table}
use Rattle.definition.specs.Declarator.{apply}
use Rattle.table.specs.Ends.{Ends}
use Rattle.table.specs.Held.{state, Encodes, Held}
use Rattle.declarator_steps.specs.Pending.{steps_from}
use Rattle.derived_types.proofs.Derived.{Applying}
use Rattle.derived_types.proofs.apply.Given as goal

abbrev pub invariant-loop-i : goal.invariant-loop-i
invariant-loop-i l = record {
  applied : (t : Table) → Encodes t l.initial.here l.initial.w l.initial.d l.initial.v → Ends (Applying l.s.kinds l.s.operands l.i l.here l.row l.w l.d l.v) (apply (steps_from l.s.kinds l.s.operands l.initial.i) l.initial.row (state l.initial.here t));
  held : Held l.here l.w l.d l.v;
}
