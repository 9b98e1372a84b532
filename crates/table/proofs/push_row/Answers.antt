use native.Mathlib.Omega.{arith}
use mathlib.Core.Path.{◌≡◌, refl, ap}
use mathlib.Core.List.{◌∷◌, [], ◌++◌}
use Prim.Native.Nat.{◌+◌, ◌*◌}
use lib.ListN.{length, set}
use Rattle.std.specs.Prelude.{Err}
use Rattle.definition.specs.Region.{names_at}
use Rattle.table.specs.Held.{last_row_at}
use Rattle.table.specs.Reply.{reply, done}
use Rattle.table.specs.Store.{stored, number_list}
use Rattle.table.proofs.Branch.{le+, le-}
use Rattle.table.proofs.Flat.{stored-set}
use Rattle.table.proofs.Shown.{passed}
use Rattle.table.proofs.Index.{topped, topped-here, noted, noted_here}
use Rattle.table.proofs.Leaves.{row-added}
use Rattle.definition.specs.Table.{push_row, with_rows}
use Rattle.table.proofs.push_row.Goals as goal

pub returns-in_err-one_more : goal.returns-in_err-one_more
unfolding push_row
returns-in_err-one_more c = record { of = λ x e. record { run = λ t h. le+ 1024 (length t.rows) _ _ (omega (arith, h.counts.rows, c.in_err-one_more.ensures.0)) (passed reply h c.from_residual.ensures.1 (ap (λ y. reply (Err y)) c.in_err-one_more.ensures.1)) } }

pub returns : goal.returns
unfolding push_row
returns c = record {
  of = λ x e. record {
    run = λ t h. le- 1024 (length t.rows) _ _ (omega (arith, h.counts.rows, c.in_ok-one_more.ensures)) (let p = c.put_row.ensures in let h₁ = topped h p.notes_top in let q = topped-here h p.notes_top in
        let u : set (stored c.put_row.ensures.noted (6 * c.args.c.rows) (number_list c.args.row)) (names_at + last_row_at) c.args.c.rows ≡ stored (set c.put_row.ensures.noted (names_at + last_row_at) c.args.c.rows) (6 * c.args.c.rows) (number_list c.args.row) = stored-set c.put_row.ensures.noted (6 * c.args.c.rows) (names_at + last_row_at) c.args.c.rows (number_list c.args.row) (omega (arith, c.in_ok-one_more.ensures)) in
        record { ends = done (with_rows t (t.rows ++ x ∷ [])) _ _ (rw (← h.counts.rows)) refl (rw (p.words, p.wides, u) (row-added (noted h₁ q p.notes_row) x _ e c.in_ok-one_more.ensures (noted_here h₁ q p.notes_row))) });
  };
}
