use mathlib.Core.Path.{sym, ◌∙◌}
use Rattle.std.proofs.Common.{rules, length, ◌<◌}
use borrow.Author.Tests.{tests}
use Rattle.std.proofs.lemmas.Iterator.Search.{any_from_yields_List}
use Rattle.std.specs.Cmp.Lexicographic.{pointwise}
use lib.Dec.{eqb}
use Rattle.scan.proofs.Windows.{YieldsList-from_windows}
use Rattle.attributes.proofs.Within.{empty_within, somewhere}
use Rattle.attributes.proofs.contains.Goals as goal

pub returns-then-is_empty : goal.returns-then-is_empty
returns-then-is_empty c = c.if-is_empty.true ∙ sym (empty_within _ _ (search (rules, tests)))

pub returns-else-is_empty : goal.returns-else-is_empty
returns-else-is_empty c =
    let some : 0 < length c.args.word.now = search (rules, tests) in
    let chain = YieldsList-from_windows {s = c.windows.result} (length c.args.word.now) c.args.body.now some (search rules) (search rules) in
    any_from_yields_List (pointwise eqb c.args.word.now) _ _ c.any.result c.any.ensures.ran chain (λ x b q k. search (rules, tests)) ∙ somewhere _ _ some
