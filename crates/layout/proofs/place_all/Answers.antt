use native.Mathlib.Omega.{arith}
use mathlib.Core.Path.{refl, ap, ◌∙◌}
use Prim.Native.Nat.{◌<◌}
use lib.ListN.{length}
use Rattle.definition.specs.Table.{mark_of}
use Rattle.table.proofs.Shown.{left}
use Rattle.std.proofs.lemmas.Result.{err_from_is_err_and}
use Rattle.layout.specs.Lays.{stop}
use Rattle.layout.proofs.Laid.{starts, finished, untouched, passes, stopped, puts}
use Rattle.layout.proofs.place_all.Goals as goal

pub loop-i-init : goal.loop-i-init
loop-i-init c = (λ t v h. starts _ c.empty-l.ensures.means h, refl)

pub overflow_add-i : goal.overflow_add-i
overflow_add-i c = omega (arith, c.loop-i-test.true, c.requires.1.members)

pub loop-i-preserved-then-member_row-mark : goal.loop-i-preserved-then-member_row-mark
unfolding mark_of
loop-i-preserved-then-member_row-mark c = (λ t v h. passes (c.loop-i.invariant.0 t v h) (omega (arith, c.loop-i-test.true, h.counts.members)) (c.member_row.ensures.of t h.words) c.if-member_row-mark.true, c.loop-i.invariant.1)

pub returns-in_err-p : goal.returns-in_err-p
unfolding mark_of
returns-in_err-p c =
    let p = err_from_is_err_and c.from_residual.result c.from_residual.ensures.1 in
    rw (p.1, p.2) (record {
      of = λ t v h. let g = c.loop-i.invariant.0 t v h in
          let i : c.loop-i.i < length t.members = omega (arith, c.loop-i-test.true, h.counts.members) in
          stop _ _ (stopped g i (c.member_row.ensures.of t h.words) c.if-member_row-mark.false (c.is_last-last.ensures.of _ t _ h.words h.counts.members) (c.in_err-p.ensures.of t h.words (record { table = _; holds = g.holds.wides; rows = refl }) h.counts.members (ap (λ e. e.offset) (untouched g i)))) refl (left g.holds);
    })

pub set_member_place-requires : goal.set_member_place-requires
set_member_place-requires c = (c.loop-i.invariant.1 ∙ c.requires.0, c.requires.1)

pub loop-i-preserved : goal.loop-i-preserved
unfolding mark_of
loop-i-preserved c = (
  λ t v h. let g = c.loop-i.invariant.0 t v h in
      let i : c.loop-i.i < length t.members = omega (arith, c.loop-i-test.true, h.counts.members) in
      puts g i (c.member_row.ensures.of t h.words) c.if-member_row-mark.false (c.is_last-last.ensures.of _ t _ h.words h.counts.members) (c.in_ok-p.ensures.of t h.words (record { table = _; holds = g.holds.wides; rows = refl }) h.counts.members (ap (λ e. e.offset) (untouched g i))) c.set_member_place.ensures,
  c.set_member_place.auto.d ∙ c.loop-i.invariant.1,
)

pub returns : goal.returns
returns c = record { of = λ t v h. finished (c.loop-i.invariant.0 t v h) (omega (arith, c.loop-i-test.false, h.counts.members)) }
