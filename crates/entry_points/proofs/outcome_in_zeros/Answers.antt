use borrow.Author.Rules.{rules}
use mathlib.Core.Path.{sym, ap, ◌∙◌}
use lib.Seq.{length-take-le}
use Rattle.definition.specs.Region.{words_length, wides_length, signeds_length}
use Rattle.model.specs.Meaning.{model_found}
use Rattle.entry_points.proofs.Telling.{answer_zeros, enough, front-fresh, tells_too_short, tells_concluded, concludes, answer-known, answer-unknown}
use Rattle.entry_points.proofs.Walked.{walkable}
use Rattle.entry_points.proofs.outcome_in_zeros.Goals as goal

pub slice_bounds-read_text-end : goal.slice_bounds-read_text-end
slice_bounds-read_text-end c = (enough c.args.w.now c.args.d.now c.args.v.now (sym c.if-not-long_enough.ensures)).words

pub slice_bounds-read_text-end-2 : goal.slice_bounds-read_text-end-2
slice_bounds-read_text-end-2 c = sym (length-take-le words_length c.args.w.now (enough c.args.w.now c.args.d.now c.args.v.now (sym c.if-not-long_enough.ensures)).words)

pub slice_bounds-read_text-end-3 : goal.slice_bounds-read_text-end-3
slice_bounds-read_text-end-3 c = (enough c.args.w.now c.args.d.now c.args.v.now (sym c.if-not-long_enough.ensures)).wides

pub slice_bounds-read_text-end-4 : goal.slice_bounds-read_text-end-4
slice_bounds-read_text-end-4 c = sym (length-take-le wides_length c.args.d.now (enough c.args.w.now c.args.d.now c.args.v.now (sym c.if-not-long_enough.ensures)).wides)

pub slice_bounds-read_text-end-5 : goal.slice_bounds-read_text-end-5
slice_bounds-read_text-end-5 c = (enough c.args.w.now c.args.d.now c.args.v.now (sym c.if-not-long_enough.ensures)).signeds

pub slice_bounds-read_text-end-6 : goal.slice_bounds-read_text-end-6
slice_bounds-read_text-end-6 c = sym (length-take-le signeds_length c.args.v.now (enough c.args.w.now c.args.d.now c.args.v.now (sym c.if-not-long_enough.ensures)).signeds)

pub read_text-r-requires : goal.read_text-r-requires
read_text-r-requires c = front-fresh _ _ _ c.requires (enough c.args.w.now c.args.d.now c.args.v.now (sym c.if-not-long_enough.ensures))

pub returns : goal.returns
returns c = let a = answer-known _ _ _ _ _ _ _ _ c.in-Some.ensures (tells_concluded _ _ _ _ _ _ (enough _ _ _ (sym c.if-not-long_enough.ensures)) c.read_text-r.ensures _ (concludes _ _ _ c.map_err.ensures.cases (λ e z k. search rules))) in record { answers = a; v_after = answer_zeros _ _ _ _ _ _ _ c.requires a; walkable = walkable _ _ _ _ }

pub returns-then-not-long_enough : goal.returns-then-not-long_enough
returns-then-not-long_enough c = let a = answer-known _ _ _ _ _ _ _ _ c.in-Some.ensures (tells_too_short _ _ _ _ _ _ _ (sym c.if-not-long_enough.ensures) c.reject-then-not-long_enough.ensures) in record { answers = a; v_after = answer_zeros _ _ _ _ _ _ _ c.requires a; walkable = walkable _ _ _ _ }

pub returns-in_default : goal.returns-in_default
returns-in_default c = let a = answer-unknown _ _ _ _ _ _ _ (ap model_found (sym c.in_default.is) ∙ c.numbered.ensures) c.reject.ensures in record { answers = a; v_after = answer_zeros _ _ _ _ _ _ _ c.requires a; walkable = walkable _ _ _ _ }
