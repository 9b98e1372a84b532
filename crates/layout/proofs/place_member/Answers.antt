use mathlib.Core.Path.{refl, ap, ◌∙◌}
use Rattle.std.proofs.lemmas.Result.{err_from_is_err_and}
use Rattle.definition.specs.Align.{or_one}
use Rattle.table.specs.Held.{member_at}
use Rattle.layout.proofs.Laid.{member-refused, in_union_lem, in_struct_lem, placed-told}
use Rattle.layout.proofs.place_member.Goals as goal

pub returns-then-union : goal.returns-then-union
returns-then-union c = record {
  of = λ t h x e o. let f = c.member_offset-at.ensures.of x.table x.holds ∙ o in
      in_union_lem _ t _ _ (member_at t c.args.i) _ (c.member_type-ty.ensures.of t h) (rw f at (c.in_ok-size.ensures.of t h x)) refl
      (c.or_one-align.ensures ∙ ap or_one (c.align_of.ensures.of t h x e)) c.if-union.true (c.in_union.ensures (member_at t c.args.i) (c.member_width-width.ensures.of t h));
}

pub returns-in_err-size : goal.returns-in_err-size
returns-in_err-size c =
    let p = err_from_is_err_and c.from_residual.result c.from_residual.ensures.1 in
    rw (p.1, p.2) (record {
      of = λ t h x e o. let f = c.member_offset-at.ensures.of x.table x.holds ∙ o in
          member-refused _ t _ _ (member_at t c.args.i) _ (c.member_type-ty.ensures.of t h) (rw f at (c.in_err-size.ensures.of t h x)) refl;
    })

pub returns : goal.returns
returns c = record {
  of = λ t h x e o. let f = c.member_offset-at.ensures.of x.table x.holds ∙ o in
      in_struct_lem _ t _ _ (member_at t c.args.i) _ (c.member_type-ty.ensures.of t h) (rw f at (c.in_ok-size.ensures.of t h x)) refl
      (c.or_one-align.ensures ∙ ap or_one (c.align_of.ensures.of t h x e)) c.if-union.false (placed-told _ _ (member_at t c.args.i) f c.ok_or.ensures.value ∙ c.in_struct.ensures (member_at t c.args.i) (c.member_width-width.ensures.of t h));
}
