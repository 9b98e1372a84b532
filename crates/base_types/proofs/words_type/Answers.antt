use mathlib.Core.Path.{sym, ap, ◌∙◌}
use Rattle.definition.specs.Specifiers.{words_type}
use Rattle.table.proofs.Branch.{some!, none! }
use Rattle.table.proofs.Shown.{got!, no! }
use Rattle.words.specs.Meaning.{base}
use Rattle.words.proofs.Uses.{combine-plain}
use Rattle.base_types.proofs.Named.{added, none-added, refused-as}
use Rattle.base_types.proofs.words_type.Goals as goal

pub returns-in-Some : goal.returns-in-Some
unfolding words_type
returns-in-Some c = record { run = λ t h. some! _ _ _ (ap base c.in-Some.is) (got! h) }

pub returns-in_err-b : goal.returns-in_err-b
unfolding words_type
returns-in_err-b c = record {
  run = λ t h. none! _ _ _ (ap base c.in_default.is)
      (none-added _ _ _ (sym c.in_err-b.ensures.ok_part ∙ c.combine.ensures) (no! h (refused-as c.combine.result c.from_residual.result _ c.in_err-b.ensures.value c.in_err-b.ensures.ok_part c.from_residual.ensures.1)));
}

pub returns : goal.returns
unfolding words_type
returns c = record { run = λ t h. none! _ _ _ (ap base c.in_default.is) (added _ _ (combine-plain _ _) (sym c.in_ok-b.ensures.ok_part ∙ c.combine.ensures) c.add_base.ensures h) }
