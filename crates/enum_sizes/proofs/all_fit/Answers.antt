use mathlib.Core.Path.{◌≡◌, refl, ap}
use mathlib.Core.Bool.{true, false}
use Prim.Native.Nat.{◌-◌}
use borrow.Author.Tests.{tests}
use borrow.Author.Rules.{rules}
use Rattle.std.proofs.lemmas.Iterator.{cases_from_all, YieldsList-from_range}
use Rattle.std.specs.List.{range_with_len}
use Rattle.table.specs.Held.{value_at}
use Rattle.enum_sizes.specs.OfValues.{fits_four}
use Rattle.enum_sizes.proofs.Values.{tested}
use Rattle.enum_sizes.proofs.all_fit.Goals as goal

pub returns : goal.returns
returns c = record {
  of = λ t h k. tested t.values c.args.first (ap (λ n. range_with_len c.args.first (n - c.args.first)) k.values) c.all.result
      (cases_from_all _ _ _ (λ i. fits_four (value_at t i).value ≡ true) (λ i. fits_four (value_at t i).value ≡ false)
      c.all.ensures.ran (YieldsList-from_range c.args.first c.args.c.values _ refl refl) (λ x q g. search (rules, tests)) (λ x q g. search (rules, tests)));
}
