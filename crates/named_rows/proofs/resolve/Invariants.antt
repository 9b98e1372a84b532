use mathlib.Core.Path.{◌≡◌}
use Prim.Native.Nat.{◌-◌}
use Rattle.definition.specs.Table.{Table}
use Rattle.definition.specs.Types.{resolve_within}
use Rattle.table.specs.Held.{InWords}
use Rattle.named_rows.proofs.resolve.Given as goal

abbrev pub invariant-loop : goal.invariant-loop
invariant-loop l = (t : Table) → InWords t l.w → resolve_within 64 t l.n ≡ resolve_within (64 - l.counter) t l.row
