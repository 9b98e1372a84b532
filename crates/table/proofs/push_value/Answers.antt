use native.Mathlib.Omega.{arith}
use mathlib.Core.Path.{◌≡◌, refl, ap}
use mathlib.Core.List.{◌∷◌, [], ◌++◌}
use Prim.Native.Nat.{◌+◌, ◌*◌}
use lib.ListN.{length, set}
use Rattle.std.specs.Prelude.{Err}
use Rattle.definition.specs.Region.{names_at, values_at}
use Rattle.table.specs.Held.{value_slot, last_value_at}
use Rattle.table.specs.Reply.{reply, done}
use Rattle.table.specs.Store.{stored}
use Rattle.table.proofs.Branch.{le+, le-}
use Rattle.table.proofs.Flat.{stored-set}
use Rattle.table.proofs.Shown.{passed}
use Rattle.table.proofs.Index.{topped, topped-here}
use mir.Facts.{to_z-of_z}
use Rattle.table.proofs.Leaves.{value-added}
use Rattle.definition.specs.Table.{push_value, with_values}
use Rattle.table.proofs.push_value.Goals as goal

pub returns-in_err-one_more : goal.returns-in_err-one_more
unfolding push_value
returns-in_err-one_more c = record { run = λ t h. le+ 4096 (length t.values) _ _ (omega (arith, h.counts.values, c.in_err-one_more.ensures.0)) (passed reply h c.from_residual.ensures.1 (ap (λ y. reply (Err y)) c.in_err-one_more.ensures.1)) }

pub returns : goal.returns
unfolding push_value
returns c = record {
  run = λ t h. le- 4096 (length t.values) _ _ (omega (arith, h.counts.values, c.in_ok-one_more.ensures)) (
      let u : set (stored (set c.note_top.new.w (names_at + value_slot c.args.name) (c.args.c.values + 1)) (values_at + 2 * c.args.c.values) (c.args.row ∷ c.args.name ∷ [])) (names_at + last_value_at) c.args.c.values ≡ stored (set (set c.note_top.new.w (names_at + value_slot c.args.name) (c.args.c.values + 1)) (names_at + last_value_at) c.args.c.values) (values_at + 2 * c.args.c.values) (c.args.row ∷ c.args.name ∷ []) = stored-set (set c.note_top.new.w (names_at + value_slot c.args.name) (c.args.c.values + 1)) (values_at + 2 * c.args.c.values) (names_at + last_value_at) c.args.c.values (c.args.row ∷ c.args.name ∷ []) (omega (arith, c.in_ok-one_more.ensures)) in
      record { ends = done (with_values t (t.values ++ (record { row = c.args.row; name = c.args.name; value = c.args.value }) ∷ [])) _ _ (rw (← h.counts.values)) refl (rw (c.put.ensures, c.note_value.ensures, to_z-of_z c.ranges.value, u) (value-added (topped h c.note_top.ensures) (record { row = c.args.row; name = c.args.name; value = c.args.value }) _ refl c.in_ok-one_more.ensures (topped-here h c.note_top.ensures))) });
}
