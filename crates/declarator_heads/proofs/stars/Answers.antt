use Rattle.encoding.specs.declared.token_kinds.TokenKind.TheVariants.{Star}
use Rattle.encoding.proofs.TokenKinds.{is_kind!, no_kind! }
use Rattle.declarator_heads.proofs.Rounds.{ended, stopped, less, again}
use Rattle.declarator_heads.proofs.stars.Goals as goal

pub returns-then-ne : goal.returns-then-ne
returns-then-ne c = ended c.loop-here.invariant c.kind_at.ensures (no_kind! c.kind_at.result Star c.ne.ensures c.if-ne.true)

pub returns-then-is_full : goal.returns-then-is_full
returns-then-is_full c = stopped c.loop-here.invariant c.kind_at.ensures (is_kind! c.kind_at.result Star c.ne.ensures c.if-ne.false) c.is_full.ensures c.if-is_full.true

pub loop-here-smaller : goal.loop-here-smaller
loop-here-smaller c = less c.loop-here.invariant c.kind_at.ensures (is_kind! c.kind_at.result Star c.ne.ensures c.if-ne.false) c.is_full.ensures c.if-is_full.false c.qualifiers_here-next.ensures c.moved-here.ensures

pub loop-here-preserved : goal.loop-here-preserved
loop-here-preserved c = again c.loop-here.invariant c.kind_at.ensures (is_kind! c.kind_at.result Star c.ne.ensures c.if-ne.false) c.is_full.ensures c.if-is_full.false c.qualifiers_here-next.ensures c.moved-here.ensures c.hold_star.ensures
