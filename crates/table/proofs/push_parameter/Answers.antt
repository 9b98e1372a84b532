use native.Mathlib.Omega.{arith}
use mathlib.Core.Path.{◌≡◌, refl, ap}
use mathlib.Core.List.{◌∷◌, [], ◌++◌}
use Prim.Native.Nat.{◌+◌, ◌*◌}
use lib.ListN.{length, set}
use Rattle.std.specs.Prelude.{Err}
use Rattle.definition.specs.Region.{names_at, parameters_at}
use Rattle.table.specs.Held.{last_parameter_at}
use Rattle.table.specs.Reply.{reply, done}
use Rattle.table.specs.Store.{stored}
use Rattle.table.proofs.Branch.{le+, le-}
use Rattle.table.proofs.Flat.{stored-set}
use Rattle.table.proofs.Shown.{passed}
use Rattle.table.proofs.Leaves.{parameter-added}
use Rattle.definition.specs.Table.{push_parameter, with_parameters}
use Rattle.table.proofs.push_parameter.Goals as goal

pub returns-in_err-one_more : goal.returns-in_err-one_more
unfolding push_parameter
returns-in_err-one_more c = record { run = λ t h. le+ 4096 (length t.parameters) _ _ (omega (arith, h.counts.parameters, c.in_err-one_more.ensures.0)) (passed reply h c.from_residual.ensures.1 (ap (λ y. reply (Err y)) c.in_err-one_more.ensures.1)) }

pub returns : goal.returns
unfolding push_parameter
returns c = record {
  run = λ t h. le- 4096 (length t.parameters) _ _ (omega (arith, h.counts.parameters, c.in_ok-one_more.ensures)) (
      let u : set (stored c.args.w.now (parameters_at + 3 * c.args.c.parameters) (c.args.row ∷ c.args.ty ∷ c.args.name ∷ [])) (names_at + last_parameter_at) c.args.c.parameters ≡ stored (set c.args.w.now (names_at + last_parameter_at) c.args.c.parameters) (parameters_at + 3 * c.args.c.parameters) (c.args.row ∷ c.args.ty ∷ c.args.name ∷ []) = stored-set c.args.w.now (parameters_at + 3 * c.args.c.parameters) (names_at + last_parameter_at) c.args.c.parameters (c.args.row ∷ c.args.ty ∷ c.args.name ∷ []) (omega (arith, c.in_ok-one_more.ensures)) in
      record { ends = done (with_parameters t (t.parameters ++ (record { row = c.args.row; type = c.args.ty; name = c.args.name }) ∷ [])) _ _ (rw (← h.counts.parameters)) refl (rw (c.put.ensures, u) (parameter-added h (record { row = c.args.row; type = c.args.ty; name = c.args.name }) c.in_ok-one_more.ensures)) });
}
