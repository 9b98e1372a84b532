use native.Mathlib.Omega.{arith}
use native.Mathlib.Numerals.{unary_clauses}
use Rattle.same_entries.proofs.Carried.{both_end, second-ends, differ, agree, none_left}
use Rattle.same_entries.proofs.same_lists.Goals as goal

pub loop-init : goal.loop-init
loop-init g c = λ r p. simp unary_clauses at p

pub returns-in_default : goal.returns-in_default
returns-in_default g c = c.loop.invariant _ (both_end (omega arith) c.in_default.ensures c.next_entry-in_default.result c.next_entry-in_default.ensures c.is_none.ensures)

pub returns-in_default-next_entry : goal.returns-in_default-next_entry
returns-in_default-next_entry g c = c.loop.invariant _ (second-ends (omega arith) c.in-Some.ensures c.in_default-next_entry.ensures)

pub returns-then-not-same : goal.returns-then-not-same
returns-then-not-same g c = c.loop.invariant _ (differ (omega arith) c.in-Some.ensures c.in-Some-next_entry.ensures c.if-not-same.ensures)

pub loop-preserved : goal.loop-preserved
loop-preserved g c = λ r p. c.loop.invariant r (agree (omega arith) c.in-Some.ensures c.in-Some-next_entry.ensures c.if-not-same.ensures (omega arith) p)

pub returns : goal.returns
returns g c = c.loop.invariant _ (none_left (omega arith))
