use native.Mathlib.Omega.{arith}
use mathlib.Core.Path.{◌≡◌, refl, ap}
use mathlib.Core.List.{◌∷◌, [], ◌++◌}
use Prim.Native.Nat.{◌+◌, ◌*◌}
use lib.ListN.{length, set}
use Rattle.std.specs.Prelude.{Err}
use Rattle.definition.specs.Region.{names_at, members_at}
use Rattle.lemmas.specs.Options.{option}
use Rattle.table.specs.Held.{last_member_at}
use Rattle.table.specs.Reply.{reply, done}
use Rattle.table.specs.Store.{stored}
use Rattle.table.proofs.Branch.{le+, le-}
use Rattle.table.proofs.Flat.{stored-set}
use Rattle.table.proofs.Shown.{passed}
use Rattle.table.proofs.Leaves.{member-added}
use Rattle.definition.specs.Table.{push_member, with_members}
use Rattle.table.proofs.push_member.Goals as goal

pub returns-in_err-one_more : goal.returns-in_err-one_more
unfolding push_member
returns-in_err-one_more c = λ q. record { run = λ t h. le+ 4096 (length t.members) _ _ (omega (arith, h.counts.members, c.in_err-one_more.ensures.0)) (passed reply h c.from_residual.ensures.1 (ap (λ y. reply (Err y)) c.in_err-one_more.ensures.1)) }

pub returns : goal.returns
unfolding push_member
returns c = λ q. record {
  run = λ t h. le- 4096 (length t.members) _ _ (omega (arith, h.counts.members, c.in_ok-one_more.ensures)) (
      let u : set (stored c.args.w.now (members_at + 4 * c.args.c.members) (c.args.row ∷ c.args.ty ∷ c.args.name ∷ c.width_number.result ∷ [])) (names_at + last_member_at) c.args.c.members ≡ stored (set c.args.w.now (names_at + last_member_at) c.args.c.members) (members_at + 4 * c.args.c.members) (c.args.row ∷ c.args.ty ∷ c.args.name ∷ c.width_number.result ∷ []) = stored-set c.args.w.now (members_at + 4 * c.args.c.members) (names_at + last_member_at) c.args.c.members (c.args.row ∷ c.args.ty ∷ c.args.name ∷ c.width_number.result ∷ []) (omega (arith, c.in_ok-one_more.ensures)) in
      record { ends = done (with_members t (t.members ++ (record { row = c.args.row; type = c.args.ty; name = c.args.name; width = option c.args.width; offset = c.args.offset; first_bit = 0 }) ∷ [])) _ _ (rw (← h.counts.members)) refl (rw (c.put.ensures, c.put-2.ensures, u) (member-added h (record { row = c.args.row; type = c.args.ty; name = c.args.name; width = option c.args.width; offset = c.args.offset; first_bit = 0 }) _ (c.width_number.ensures q) c.in_ok-one_more.ensures)) });
}
