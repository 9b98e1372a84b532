use native.Mathlib.Omega.{arith}
use Rattle.definition.specs.Table.{mark_of}
use Rattle.open_lists.proofs.Changed.{ends}
use Rattle.open_lists.proofs.own.Goals as goal

pub returns-then-from-count : goal.returns-then-from-count
unfolding mark_of
returns-then-from-count g c = c.rerow.ensures

pub returns-else-from-count : goal.returns-else-from-count
returns-else-from-count g c = ends g.E.Entries.kind _ _ (omega (arith, c.count.ensures, c.if-from-count.false))

pub overflow_add-first : goal.overflow_add-first
overflow_add-first g c = let few = g.E.Entries.kind.few c.args.c c.requires.1 in omega (arith, c.count.ensures, c.if-from-count.true)
