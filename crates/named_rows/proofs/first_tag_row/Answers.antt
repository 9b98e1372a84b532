use mathlib.Core.Path.{sym, ap, ◌∙◌}
use Rattle.definition.specs.Row.{kind_of, row_name}
use Rattle.definition.specs.Types.{row_named}
use Rattle.table.specs.declared.Numbers.{Numbers}
use Rattle.table.proofs.Branch.{some!, none! }
use Rattle.table.proofs.Shown.{got! }
use Rattle.named_rows.proofs.first_tag_row.Goals as goal

pub returns-in-Some : goal.returns-in-Some
returns-in-Some c = record {
  of = λ x e. record {
    run = λ t h. some! (row_named (kind_of x) (row_name x) 0 t.rows) _ _
        (ap (λ (y : Numbers). row_named y.kind y.name 0 t.rows) (sym e) ∙ sym (c.in-Some.ensures.of t h.words h.index h.counts)) (got! h);
  };
}

pub returns-in-None : goal.returns-in-None
returns-in-None c = record {
  of = λ x e. record {
    run = λ t h. none! (row_named (kind_of x) (row_name x) 0 t.rows) _ _
        (ap (λ (y : Numbers). row_named y.kind y.name 0 t.rows) (sym e) ∙ sym (c.in-None.ensures.of t h.words h.index h.counts)) ((c.push_row.ensures.of x e).run t h);
  };
}
