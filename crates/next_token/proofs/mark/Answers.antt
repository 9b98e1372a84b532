use mathlib.Core.Path.{◌≡◌, ap, ◌∙◌}
use native.Mathlib.Omega.{arith}
use Rattle.std.specs.Prelude.{Some}
use Rattle.std.specs.Result.{result_ok}
use Rattle.next_token.proofs.Steps.{mark_size, mark_plain}
use Rattle.next_token.proofs.mark.Goals as goal

pub returns-clause-goes : goal.returns-clause-goes
returns-clause-goes c =
    let e : c.mark_at.result ≡ Some c.in_ok-m.m = c.ok_or.ensures.ok_part ∙ ap result_ok c.in_ok-m.was in
    let m = rw e at c.mark_at.ensures.same in
    let s = mark_size _ _ m in (omega (arith, s), mark_plain _ _ m (rw e at c.mark_at.ensures.is_mark))
