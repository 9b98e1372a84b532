use borrow.Author.Rules.{rules}
use mir.Facts.{to_z-of_z}
use mir.Syntax.{w64}
use mir.Val.{SFits}
use Rattle.definition.specs.Enumeration.{enumerator_value}
use Rattle.std.proofs.lemmas.Result.{err_from_is_err_and}
use Rattle.table.proofs.Shown.{got!, step-on, room_at}
use Rattle.table.proofs.Steps.{is+, is-}
use Rattle.encoding.proofs.TokenKinds.{is_kind!, no_kind! }
use Rattle.encoding.specs.declared.token_kinds.TokenKind.TheVariants.{Equals}
use Rattle.enumerator_values.proofs.enumerator_value.Goals as goal

pub returns-then-ne : goal.returns-then-ne
unfolding enumerator_value
returns-then-ne c = record { with = λ m d. record { run = λ t h. is- _ _ c.kind_at.ensures (no_kind! c.kind_at.result Equals c.ne.ensures c.if-ne.true) (got! h) } }

pub constant_here-requires : goal.constant_here-requires
constant_here-requires c = room_at c.moved.ensures c.requires

pub returns : goal.returns
unfolding enumerator_value
returns c = let f : SFits w64 c.in_ok-e.z = search rules in rw (to_z-of_z f) (record { with = λ m d. record { run = λ t h. is+ _ _ c.kind_at.ensures (is_kind! c.kind_at.result Equals c.ne.ensures c.if-ne.false) (step-on c.moved.ensures (c.in_ok-e.ensures.with m d) h) } })

pub returns-in_err-e : goal.returns-in_err-e
unfolding enumerator_value
returns-in_err-e c = let p = err_from_is_err_and c.from_residual.result c.from_residual.ensures.1 in
    rw (p.1, p.2) (record { with = λ m d. record { run = λ t h. is+ _ _ c.kind_at.ensures (is_kind! c.kind_at.result Equals c.ne.ensures c.if-ne.false) (step-on c.moved.ensures (c.in_err-e.ensures.with m d) h) } })
