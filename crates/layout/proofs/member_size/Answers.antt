use mathlib.Core.Path.{sym, ◌∙◌}
use mathlib.Core.Bool.{◌&&◌}
use mathlib.Mathlib.Data.Bool.Basic.{and_intro}
use Rattle.definition.specs.Table.{row_at}
use Rattle.definition.specs.Types.{resolve}
use Rattle.definition.specs.Layout.{is_unsized}
use Rattle.lemmas.proofs.Truth.{not_first, not_second}
use Rattle.size_align.proofs.Told.{seen}
use Rattle.layout.proofs.Laid.{known-size, big-size, no_size, open_size}
use Rattle.layout.proofs.member_size.Goals as goal
use Rattle.layout.proofs.member_size.Goals.{else-last-via-then-last+else-is_unsized, else-last-via-else-last}

pub returns-in-Known : goal.returns-in-Known
returns-in-Known c = record { of = λ t h x. known-size _ c.args.at (seen _ (c.size_of.ensures.of t h x)) c.in-Known.is }

pub returns-in-Big : goal.returns-in-Big
returns-in-Big c = record { of = λ t h x. big-size _ c.args.at (seen _ (c.size_of.ensures.of t h x)) c.in-Big.is }

pub returns-then-is_unsized : goal.returns-then-is_unsized
returns-then-is_unsized c = record { of = λ t h x. open_size (c.args.last && is_unsized (row_at t (resolve t c.args.ty))) c.args.at (seen _ (c.size_of.ensures.of t h x)) c.in-Unknown.is (and_intro {a = c.args.last} c.if-last.true (sym (c.is_unsized.ensures.of t h) ∙ c.if-is_unsized.true)) }

pub returns-else-last : goal.returns-else-last
returns-else-last c = record {
  of = λ t h x. no_size (c.args.last && is_unsized (row_at t (resolve t c.args.ty))) c.args.at (seen _ (c.size_of.ensures.of t h x)) c.in-Unknown.is (elim c.else-last.branch [
    | else-last-via-then-last+else-is_unsized w ↦ not_second c.args.last (sym (w.is_unsized.ensures.of t h) ∙ w.if-is_unsized.false)
    | else-last-via-else-last w ↦ not_first {a = c.args.last} (is_unsized (row_at t (resolve t c.args.ty))) w.if-last.false
  ]);
}
