use borrow.Author.Rules.{rules}
use mathlib.Core.Path.{refl, ◌∙◌}
use Rattle.std.proofs.lemmas.Result.{err_from_is_err_and}
use Rattle.model.specs.Meaning.{model}
use Rattle.layout.proofs.Laid.{layout-refused, layout-answered, size-told}
use Rattle.layout.proofs.layout.Goals as goal

pub returns-in_err-l : goal.returns-in_err-l
returns-in_err-l c =
    let p = err_from_is_err_and c.from_residual.result c.from_residual.ensures.1 in
    rw (p.1, p.2) (record { of = λ t v h. layout-refused _ t _ _ _ (c.in_err-l.ensures.of t v h) refl })

pub returns : goal.returns
returns c = record { of = λ t v h. layout-answered _ t _ _ _ (c.in_ok-l.ensures.of t v h) _ refl (size-told _ c.args.at _ (search rules) ∙ c.record_size.ensures (model c.args.m) t c.args.at) }
