use mathlib.Core.Path.{◌∙◌}
use Rattle.std.proofs.Math.Bool.{or-false}
use Rattle.std.proofs.Common.{rules}
use borrow.Author.Tests.{tests}
use Rattle.std.proofs.lemmas.Iterator.{YieldsList-from_slice}
use Rattle.std.proofs.lemmas.Iterator.Search.{any_from_yields_List}
use Rattle.definition.specs.Text.{bytes}
use Rattle.definition.specs.Scan.{contains}
use Rattle.definition.specs.Attribute.{changes_layout}
use Rattle.attributes.proofs.changes_layout.Goals as goal

pub returns : goal.returns
unfolding changes_layout bytes
returns c =
    let e = any_from_yields_List (λ w. contains w.now c.args.body.now) _ _ c.any.result c.any.ensures.ran (YieldsList-from_slice _ c.iter.ensures.rest) (λ x b q k. search (rules, tests)) in
    e ∙ rw or-false
