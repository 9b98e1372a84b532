use native.Mathlib.Omega.{arith}
use mathlib.Core.Path.{◌≡◌, refl, ap}
use mathlib.Core.List.{◌∷◌, [], ◌++◌}
use Prim.Native.Nat.{◌+◌, ◌*◌}
use lib.ListN.{length, set}
use Rattle.std.specs.Prelude.{Err}
use Rattle.definition.specs.Region.{names_at, declarations_at}
use Rattle.table.specs.Held.{last_declaration_at}
use Rattle.table.specs.Reply.{reply, done, declaration}
use Rattle.table.specs.Store.{stored}
use Rattle.table.proofs.Branch.{le+, le-}
use Rattle.table.proofs.Flat.{stored-set}
use Rattle.table.proofs.Shown.{passed}
use Rattle.table.proofs.Leaves.{declaration-added}
use Rattle.definition.specs.Table.{push_declaration, with_declarations}
use Rattle.table.proofs.push_declared.Goals as goal

pub returns-in_err-one_more : goal.returns-in_err-one_more
unfolding push_declaration
returns-in_err-one_more c = record { run = λ t h. le+ 1024 (length t.declarations) _ _ (omega (arith, h.counts.declarations, c.in_err-one_more.ensures.0)) (passed reply h c.from_residual.ensures.1 (ap (λ y. reply (Err y)) c.in_err-one_more.ensures.1)) }

pub returns : goal.returns
unfolding push_declaration
returns c = record {
  run = λ t h. le- 1024 (length t.declarations) _ _ (omega (arith, h.counts.declarations, c.in_ok-one_more.ensures)) (
      let u : set (stored c.args.w.now (declarations_at + 3 * c.args.c.declarations) (c.from.result ∷ c.args.x.ty ∷ c.args.x.name ∷ [])) (names_at + last_declaration_at) c.args.c.declarations ≡ stored (set c.args.w.now (names_at + last_declaration_at) c.args.c.declarations) (declarations_at + 3 * c.args.c.declarations) (c.from.result ∷ c.args.x.ty ∷ c.args.x.name ∷ []) = stored-set c.args.w.now (declarations_at + 3 * c.args.c.declarations) (names_at + last_declaration_at) c.args.c.declarations (c.from.result ∷ c.args.x.ty ∷ c.args.x.name ∷ []) (omega (arith, c.in_ok-one_more.ensures)) in
      record { ends = done (with_declarations t (t.declarations ++ declaration c.args.x ∷ [])) _ _ (rw (← h.counts.declarations)) refl (rw (c.put.ensures, u) (declaration-added h (declaration c.args.x) _ c.from.ensures c.in_ok-one_more.ensures)) });
}
