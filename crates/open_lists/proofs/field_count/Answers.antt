use native.Mathlib.Omega.{arith}
use mathlib.Core.Path.{refl, sym, ap, ◌∙◌}
use borrow.Author.Tests.{tests}
use borrow.Author.Rules.{rules}
use Prim.Native.Nat.{◌+◌, ◌-◌}
use lib.Dec.{eqb}
use lib.ListN.{get_or}
use Rattle.std.proofs.lemmas.Iterator.{YieldsList-from_range}
use Rattle.std.proofs.lemmas.Iterator.Consumers.{count_from_yields_List, YieldsList-from_filter}
use Rattle.definition.specs.Table.{mark_of}
use Rattle.table.specs.Held.{no_member}
use Rattle.open_lists.proofs.Changed.{count-end, counted}
use Rattle.open_lists.proofs.field_count.Goals as goal

pub returns-then-c-from : goal.returns-then-c-from
returns-then-c-from c = record { of = λ t h k. sym (count-end _ t.members c.args.first (omega (arith, k.members))) }

pub returns : goal.returns
unfolding mark_of
returns c = record {
  of = λ t h k.
      count_from_yields_List c.filter.result c.count.result c.count.ensures.ran
      (YieldsList-from_filter _ (λ i. eqb (get_or t.members i no_member).row (1024 + c.args.first))
      (YieldsList-from_range c.args.first c.args.c.members (c.args.c.members - c.args.first) c.filter.ensures.source refl) c.filter.ensures.closure (λ x r q k. search (rules, tests)))
      ∙ counted (1024 + c.args.first) t.members _ c.args.first (ap (λ n. n - c.args.first) k.members);
}
