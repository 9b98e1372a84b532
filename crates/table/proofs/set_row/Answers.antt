use Rattle.table.proofs.Index.{topped, topped-here, noted, noted_here}
use Rattle.table.proofs.Leaves.{row_put, row-past}
use Rattle.table.proofs.set_row.Goals as goal

pub returns-then-i-c : goal.returns-then-i-c
returns-then-i-c c = record {
  of = λ x e. record {
    run = λ t h.
        let p = c.put_row.ensures in
        let h₁ = topped h p.notes_top in
        let q = topped-here h p.notes_top in
        rw (p.words, p.wides) (row_put (noted h₁ q p.notes_row) _ x _ e c.if-i-c.true (noted_here h₁ q p.notes_row));
  };
}

pub returns-else-i-c : goal.returns-else-i-c
returns-else-i-c c = record { of = λ x e. record { run = λ t h. row-past h _ x c.if-i-c.false } }
