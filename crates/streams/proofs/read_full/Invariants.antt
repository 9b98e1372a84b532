use Rattle.std.proofs.Common.{◌≡◌, ◌≤◌, length}
use Rattle.streams.proofs.read_full.Given as goal

abbrev pub invariant-loop : goal.invariant-loop
invariant-loop g l = (l.filled ≤ l.size) × (length l.buf ≡ l.size)
