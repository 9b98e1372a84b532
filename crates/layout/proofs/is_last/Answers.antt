use mathlib.Core.Path.{◌≡◌, refl, ap}
use Prim.Native.Nat.{◌-◌}
use borrow.Author.Tests.{tests}
use borrow.Author.Rules.{rules}
use Rattle.std.proofs.lemmas.Iterator.{cases_from_all, YieldsList-from_range}
use Rattle.std.specs.List.{range_with_len}
use Rattle.table.specs.Held.{member_at}
use Rattle.layout.proofs.Laid.{tested}
use Rattle.layout.proofs.is_last.Goals as goal

pub returns : goal.returns
returns c = record {
  of = λ m t u h e. tested m t u c.args.mark t.members c.args.i (ap (λ n. range_with_len c.args.i (n - c.args.i)) e) c.all.result
      (cases_from_all _ _ _ (λ k. (member_at t k).row ≡ c.args.mark → ⊥) (λ k. (member_at t k).row ≡ c.args.mark)
      c.all.ensures.ran (YieldsList-from_range c.args.i c.args.members _ refl refl) (λ x q g. search (rules, tests)) (λ x q g. search (rules, tests)));
}
