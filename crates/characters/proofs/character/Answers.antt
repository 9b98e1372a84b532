use mathlib.Core.Path.{◌≡◌, ap, ◌∙◌}
use Rattle.std.proofs.lemmas.Result.{err_from_is_err_and}
use Rattle.std.specs.Result.{result_ok}
use Rattle.encoding.specs.declared.refusals.Reason.TheVariants.{OutOfRange}
use Rattle.characters.proofs.Constant.{going-ends, going-got, going-past, going-stops}
use Rattle.characters.proofs.Refused.{refused_with}
use Rattle.characters.proofs.character.Goals as goal

pub returns-in_err-value-clause-value : goal.returns-in_err-value-clause-value
returns-in_err-value-clause-value c =
    let n = c.ok_or.ensures.ok_part ∙ ap result_ok c.in_err-value.was in
    let p = err_from_is_err_and c.from_residual.result c.from_residual.ensures.1 in
    let f : record { reason = OutOfRange; at = c.args.start } ≡ c.in_err-value.field-0.0 = refused_with c.ok_or.ensures.value c.in_err-value.was n in
    rw (p.1, p.2, ← f) (going-past _ _ _ _ c.loop-i.invariant.going c.loop-i-test.true c.if-text-i-eq39.true n)

pub returns-then-text-i-eq39-clause-value : goal.returns-then-text-i-eq39-clause-value
returns-then-text-i-eq39-clause-value c = going-got _ _ _ _ c.loop-i.invariant.going c.loop-i-test.true c.if-text-i-eq39.true _ (c.ok_or.ensures.ok_part ∙ ap result_ok c.in_ok-value.was)

pub returns-in_err-b-clause-value : goal.returns-in_err-b-clause-value
returns-in_err-b-clause-value c =
    let p = err_from_is_err_and c.from_residual-in_err-b.result c.from_residual-in_err-b.ensures.1 in
    rw (p.1, p.2) (going-stops _ _ _ _ c.loop-i.invariant.going c.loop-i-test.true c.if-text-i-eq39.false _ _ c.in_err-b.ensures.value)

pub returns-clause-value : goal.returns-clause-value
returns-clause-value c = going-ends _ _ _ _ c.loop-i.invariant.going c.loop-i-test.false
