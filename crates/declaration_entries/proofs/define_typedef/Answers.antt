use mathlib.Core.Path.{refl, sym, ◌∙◌}
use Rattle.definition.specs.Row.{typedef, kind_of, target_of, flags_of, row_name, span_of, extent_of}
use Rattle.definition.specs.Types.{typedef_row}
use Rattle.definition.specs.Reader.{define_typedef}
use Rattle.table.proofs.Branch.{some!, none!, eq+, eq-}
use Rattle.table.proofs.Shown.{got!, no! }
use Rattle.declaration_entries.proofs.define_typedef.Goals as goal

pub returns-then-row_target-ty : goal.returns-then-row_target-ty
unfolding define_typedef
returns-then-row_target-ty c = record {
  run = λ t h. some! (typedef_row t c.args.name) _ _ (sym (c.in-Some.ensures.of t h.words h.index h.counts))
      (eq+ _ _ _ _ (sym (c.row_target.ensures.of t h.words) ∙ c.if-row_target-ty.true) (got! h));
}

pub returns-in-Some : goal.returns-in-Some
unfolding define_typedef
returns-in-Some c = record {
  run = λ t h. some! (typedef_row t c.args.name) _ _ (sym (c.in-Some.ensures.of t h.words h.index h.counts))
      (eq- _ _ _ _ (λ e. c.if-row_target-ty.false (c.row_target.ensures.of t h.words ∙ e)) (no! h refl));
}

pub returns : goal.returns
unfolding define_typedef kind_of target_of flags_of row_name span_of extent_of
returns c = record {
  run = λ t h. none! (typedef_row t c.args.name) _ _ (sym (c.in_default.ensures.of t h.words h.index h.counts))
      ((c.push_row.ensures.of (typedef c.args.name c.args.ty) refl).run t h);
}
