use borrow.Author.Rules.{rules}
use native.Mathlib.Omega.{arith}
use mathlib.Core.Path.{refl, sym, ap, ◌∙◌}
use mir.Syntax.{w64}
use mir.Val.{SFits}
use Rattle.arithmetic.proofs.Told.{back}
use Rattle.table.proofs.Branch.{by, via, halt, yes!, nay!, eq+, eq-, lt+, lt-}
use Rattle.std.proofs.lemmas.List.{length-map}
use Rattle.encoding.specs.Kinds.{kind_number}
use Rattle.table.proofs.Steps.{inside}
use Rattle.encoding.proofs.TokenKinds.{is_kind, no_kind, is_kind!, no_kind! }
use Rattle.encoding.specs.declared.token_kinds.TokenKind.TheVariants.{Question, OpenParen}
use Rattle.constants.proofs.Steps.{here, shown, exit, done, prefix-there, operator-there, third, second, no_operand, an_operand, no_chain, a-chain, no_condition, a-condition, past}
use Rattle.constants.proofs.Rounds.{starts_as, turn}
use Rattle.definition.specs.Arithmetic.{is_prefix}
use Rattle.definition.specs.Range.{exact}
use Rattle.definition.specs.Constant.{operand₁, operators_from, chain₁, condition₁}
use Rattle.arithmetic.proofs.Bitwise.{is-zero, not_zero}
use Rattle.constants.proofs.+binary_conditional_unary.Goals as goal

pub binary-returns-then-room-eq0 : goal.binary-returns-then-room-eq0
binary-returns-then-room-eq0 t c = (by (no_chain _ _ _ _ c.if-room-eq0.true) here).ends

pub binary-returns-in_err-t : goal.binary-returns-in_err-t
unfolding chain₁
binary-returns-in_err-t t c = (by (a-chain _ _ _ _ c.if-room-eq0.false) (halt _ (sym (c.in_err-t.ensures ∙ an_operand _ _ _ c.if-room-eq0.false)) (exit _ _ c.from_residual.ensures.1))).ends

pub binary-returns-then-p-low : goal.binary-returns-then-p-low
unfolding chain₁ operators_from
binary-returns-then-p-low t c =
    let f : SFits w64 c.in_ok-t.left = search rules in
    (by (a-chain _ _ _ _ c.if-room-eq0.false) (via _ (sym (c.in_ok-t.ensures ∙ an_operand _ _ _ c.if-room-eq0.false))
    (turn (rw (back f) at c.loop-k.invariant) (λ n h.
    lt- _ _ _ _ (rw (c.precedence_of-p.ensures, c.kind-k.ensures.is) at c.if-p-low.true) here)))).ends

pub binary-next-requires : goal.binary-next-requires
binary-next-requires t c = omega (arith, c.well_formed, inside c.args.s.now.kinds.now c.kind-k.ensures (operator-there (rw c.precedence_of-p.ensures at c.if-p-low.false)))

pub binary-returns-in_err-u : goal.binary-returns-in_err-u
unfolding chain₁ operators_from
binary-returns-in_err-u t c =
    let f : SFits w64 c.in_ok-t.left = search rules in
    (by (a-chain _ _ _ _ c.if-room-eq0.false) (via _ (sym (c.in_ok-t.ensures ∙ an_operand _ _ _ c.if-room-eq0.false))
    (turn (rw (back f) at c.loop-k.invariant) (λ n h.
    lt+ _ _ _ _ (rw (c.precedence_of-p.ensures, c.kind-k.ensures.is) at c.if-p-low.false)
    (halt _ (sym (rw (c.next.ensures, c.precedence_of-p.ensures, c.kind-k.ensures.is) at c.in_err-u.ensures)) (exit _ _ c.from_residual-in_err-u.ensures.1)))))).ends

pub binary-returns-in_err-left : goal.binary-returns-in_err-left
unfolding chain₁ operators_from
binary-returns-in_err-left t c =
    let f : SFits w64 c.in_ok-t.left = search rules in
    let g : SFits w64 c.in_ok-u.y = search rules in
    (by (a-chain _ _ _ _ c.if-room-eq0.false) (via _ (sym (c.in_ok-t.ensures ∙ an_operand _ _ _ c.if-room-eq0.false))
    (turn (rw (back f) at c.loop-k.invariant) (λ n h.
    lt+ _ _ _ _ (rw (c.precedence_of-p.ensures, c.kind-k.ensures.is) at c.if-p-low.false)
    (via _ (sym (rw (c.next.ensures, c.precedence_of-p.ensures, c.kind-k.ensures.is) at c.in_ok-u.ensures))
    (halt _ (sym (c.in_err-left.ensures ∙ ap (λ g. g c.loop-k.t.at) (rw (back g, c.kind-k.ensures.is) at c.operate.ensures))) (exit _ _ c.from_residual-in_err-left.ensures.1))))))).ends

pub binary-loop-k-smaller : goal.binary-loop-k-smaller
binary-loop-k-smaller t c =
    let a = past _ _ _ _ _ c.in_ok-u.ensures in
    let d = inside c.args.s.now.kinds.now c.kind-k.ensures (operator-there (rw c.precedence_of-p.ensures at c.if-p-low.false)) in
    let f = c.next.ensures in
    omega arith

pub binary-loop-k-preserved : goal.binary-loop-k-preserved
unfolding operators_from
binary-loop-k-preserved t c =
    let a = past _ _ _ _ _ c.in_ok-u.ensures in
    let d = inside c.args.s.now.kinds.now c.kind-k.ensures (operator-there (rw c.precedence_of-p.ensures at c.if-p-low.false)) in
    let e = c.next.ensures in
    let f : SFits w64 c.in_ok-left.left = search rules in
    let g : SFits w64 c.in_ok-u.y = search rules in
    turn c.loop-k.invariant (λ n h.
    lt+ _ _ _ _ (rw (c.precedence_of-p.ensures, c.kind-k.ensures.is) at c.if-p-low.false)
    (via _ (sym (rw (c.next.ensures, c.precedence_of-p.ensures, c.kind-k.ensures.is) at c.in_ok-u.ensures))
    (via _ (sym (c.in_ok-left.ensures ∙ ap (λ g. g c.loop-k.t.at) (rw (back g, c.kind-k.ensures.is) at c.operate.ensures)))
    (starts_as n (back f) refl (omega (arith, length-map c.args.s.now.kinds.now kind_number))))))

pub conditional-returns-then-room-eq0 : goal.conditional-returns-then-room-eq0
conditional-returns-then-room-eq0 t c = (by (no_condition _ _ _ c.if-room-eq0.true) here).ends

pub conditional-returns-in_err-t : goal.conditional-returns-in_err-t
unfolding condition₁
conditional-returns-in_err-t t c = (by (a-condition _ _ _ c.if-room-eq0.false) (halt _ (sym (c.in_err-t.ensures ∙ a-chain _ _ _ _ c.if-room-eq0.false)) (exit _ _ c.from_residual.ensures.1))).ends

pub conditional-returns-then-ne : goal.conditional-returns-then-ne
unfolding condition₁
conditional-returns-then-ne t c =
    let f : SFits w64 c.in_ok-t.x = search rules in
    (by (a-condition _ _ _ c.if-room-eq0.false) (via _ (sym (c.in_ok-t.ensures ∙ a-chain _ _ _ _ c.if-room-eq0.false))
    (eq- _ _ _ _ (λ z. no_kind! c.kind.result Question c.ne.ensures c.if-ne.true (c.kind.ensures.is ∙ z)) (done (back f) refl)))).ends

pub conditional-next-requires : goal.conditional-next-requires
conditional-next-requires t c = omega (arith, c.well_formed, inside c.args.s.now.kinds.now c.kind.ensures (omega (arith, is_kind! c.kind.result Question c.ne.ensures c.if-ne.false)))

pub conditional-returns-in_err-colon : goal.conditional-returns-in_err-colon
unfolding condition₁
conditional-returns-in_err-colon t c = (by (a-condition _ _ _ c.if-room-eq0.false) (via _ (sym (c.in_ok-t.ensures ∙ a-chain _ _ _ _ c.if-room-eq0.false))
    (eq+ _ _ _ _ (sym c.kind.ensures.is ∙ is_kind! c.kind.result Question c.ne.ensures c.if-ne.false) (halt _ (sym (rw c.next.ensures at c.in_err-colon.ensures)) (exit _ _ c.from_residual-in_err-colon.ensures.1))))).ends

pub conditional-returns-in_err-last : goal.conditional-returns-in_err-last
unfolding condition₁
conditional-returns-in_err-last t c = (by (a-condition _ _ _ c.if-room-eq0.false) (via _ (sym (c.in_ok-t.ensures ∙ a-chain _ _ _ _ c.if-room-eq0.false))
    (eq+ _ _ _ _ (sym c.kind.ensures.is ∙ is_kind! c.kind.result Question c.ne.ensures c.if-ne.false) (via _ (sym (rw c.next.ensures at c.in_ok-colon.ensures))
    (halt _ (sym (c.in_err-last.ensures c.args.s.now.numbers.now)) (exit _ _ c.from_residual-in_err-last.ensures.1)))))).ends

pub conditional-returns-in_err-e : goal.conditional-returns-in_err-e
unfolding condition₁
conditional-returns-in_err-e t c = (by (a-condition _ _ _ c.if-room-eq0.false) (via _ (sym (c.in_ok-t.ensures ∙ a-chain _ _ _ _ c.if-room-eq0.false))
    (eq+ _ _ _ _ (sym c.kind.ensures.is ∙ is_kind! c.kind.result Question c.ne.ensures c.if-ne.false) (via _ (sym (rw c.next.ensures at c.in_ok-colon.ensures))
    (via _ (sym (c.in_ok-last.ensures c.args.s.now.numbers.now)) (halt _ (sym (rw c.in_err-e.was at c.conditional-third.ensures)) (exit _ _ c.from_residual-in_err-e.ensures.1))))))).ends

pub conditional-returns-then-x-eq0 : goal.conditional-returns-then-x-eq0
unfolding condition₁
conditional-returns-then-x-eq0 t c =
    let f : SFits w64 c.in_ok-t.x = search rules in
    let g : SFits w64 c.in_ok-e.z = search rules in
    (by (a-condition _ _ _ c.if-room-eq0.false) (via _ (sym (c.in_ok-t.ensures ∙ a-chain _ _ _ _ c.if-room-eq0.false))
    (eq+ _ _ _ _ (sym c.kind.ensures.is ∙ is_kind! c.kind.result Question c.ne.ensures c.if-ne.false) (via _ (sym (rw c.next.ensures at c.in_ok-colon.ensures))
    (via _ (sym (c.in_ok-last.ensures c.args.s.now.numbers.now)) (via _ (sym (rw c.in_ok-e.was at c.conditional-third.ensures))
    (done (back g ∙ sym (third _ _ _ (is-zero f c.if-x-eq0.true))) refl))))))).ends

pub conditional-returns : goal.conditional-returns
unfolding condition₁
conditional-returns t c =
    let f : SFits w64 c.in_ok-t.x = search rules in
    let g : SFits w64 c.in_ok-colon.y = search rules in
    (by (a-condition _ _ _ c.if-room-eq0.false) (via _ (sym (c.in_ok-t.ensures ∙ a-chain _ _ _ _ c.if-room-eq0.false))
    (eq+ _ _ _ _ (sym c.kind.ensures.is ∙ is_kind! c.kind.result Question c.ne.ensures c.if-ne.false) (via _ (sym (rw c.next.ensures at c.in_ok-colon.ensures))
    (via _ (sym (c.in_ok-last.ensures c.args.s.now.numbers.now)) (via _ (sym (rw c.in_ok-e.was at c.conditional-third.ensures))
    (done (back g ∙ sym (second _ _ _ (not_zero f c.if-x-eq0.false))) refl))))))).ends

pub unary-returns-then-room-eq0 : goal.unary-returns-then-room-eq0
unfolding operand₁
unary-returns-then-room-eq0 t c = (by (no_operand _ _ _ c.if-room-eq0.true) here).ends

pub unary-next-requires : goal.unary-next-requires
unary-next-requires t c = omega (arith, c.well_formed, inside c.args.s.now.kinds.now c.kind-k.ensures (prefix-there (sym c.is_prefix.ensures ∙ c.if-is_prefix.true)))

pub unary-returns-in_err-t : goal.unary-returns-in_err-t
unfolding operand₁
unary-returns-in_err-t t c = (by (an_operand _ _ _ c.if-room-eq0.false)
    (yes! _ _ _ (ap is_prefix (sym c.kind-k.ensures.is) ∙ sym c.is_prefix.ensures ∙ c.if-is_prefix.true)
    (halt _ (sym (rw c.next.ensures at c.in_err-t.ensures)) (exit _ _ c.from_residual.ensures.1)))).ends

pub unary-returns-in_err-value : goal.unary-returns-in_err-value
unfolding operand₁ exact
unary-returns-in_err-value t c =
    let f : SFits w64 c.in_ok-t.x = search rules in
    (by (an_operand _ _ _ c.if-room-eq0.false)
    (yes! _ _ _ (ap is_prefix (sym c.kind-k.ensures.is) ∙ sym c.is_prefix.ensures ∙ c.if-is_prefix.true)
    (via _ (sym (rw c.next.ensures at c.in_ok-t.ensures))
    (halt _ (sym (c.in_err-value.ensures ∙ ap (λ g. g c.args.c.at) (rw (back f, c.kind-k.ensures.is) at c.prefix.ensures))) (exit _ _ c.from_residual-in_err-value.ensures.1))))).ends

pub unary-returns-then-is_prefix : goal.unary-returns-then-is_prefix
unfolding operand₁ exact
unary-returns-then-is_prefix t c =
    let f : SFits w64 c.in_ok-t.x = search rules in
    let g : SFits w64 c.in_ok-value.value = search rules in
    (by (an_operand _ _ _ c.if-room-eq0.false)
    (yes! _ _ _ (ap is_prefix (sym c.kind-k.ensures.is) ∙ sym c.is_prefix.ensures ∙ c.if-is_prefix.true)
    (via _ (sym (rw c.next.ensures at c.in_ok-t.ensures))
    (via _ (sym (c.in_ok-value.ensures ∙ ap (λ g. g c.args.c.at) (rw (back f, c.kind-k.ensures.is) at c.prefix.ensures))) (done (back g) refl))))).ends

pub unary-next-requires-then-eq : goal.unary-next-requires-then-eq
unary-next-requires-then-eq t c = omega (arith, c.well_formed, inside c.args.s.now.kinds.now c.kind-k.ensures (omega (arith, is_kind c.kind-k.result OpenParen c.eq.ensures c.if-eq.true)))

pub unary-returns-in_err-close : goal.unary-returns-in_err-close
unfolding operand₁
unary-returns-in_err-close t c = (by (an_operand _ _ _ c.if-room-eq0.false)
    (nay! _ _ _ (ap is_prefix (sym c.kind-k.ensures.is) ∙ sym c.is_prefix.ensures ∙ c.if-is_prefix.false)
    (eq+ _ _ _ _ (sym c.kind-k.ensures.is ∙ is_kind c.kind-k.result OpenParen c.eq.ensures c.if-eq.true)
    (halt _ (sym (rw c.next-then-eq.ensures at c.in_err-close.ensures)) (exit _ _ c.from_residual-in_err-close.ensures.1))))).ends

pub unary-returns-in_err-e : goal.unary-returns-in_err-e
unfolding operand₁
unary-returns-in_err-e t c = (by (an_operand _ _ _ c.if-room-eq0.false)
    (nay! _ _ _ (ap is_prefix (sym c.kind-k.ensures.is) ∙ sym c.is_prefix.ensures ∙ c.if-is_prefix.false)
    (eq+ _ _ _ _ (sym c.kind-k.ensures.is ∙ is_kind c.kind-k.result OpenParen c.eq.ensures c.if-eq.true)
    (via _ (sym (rw c.next-then-eq.ensures at c.in_ok-close.ensures))
    (halt _ (sym (c.in_err-e.ensures c.args.s.now.numbers.now)) (exit _ _ c.from_residual-in_err-e.ensures.1)))))).ends

pub unary-returns-then-eq : goal.unary-returns-then-eq
unfolding operand₁
unary-returns-then-eq t c =
    let f : SFits w64 c.in_ok-close.x = search rules in
    (by (an_operand _ _ _ c.if-room-eq0.false)
    (nay! _ _ _ (ap is_prefix (sym c.kind-k.ensures.is) ∙ sym c.is_prefix.ensures ∙ c.if-is_prefix.false)
    (eq+ _ _ _ _ (sym c.kind-k.ensures.is ∙ is_kind c.kind-k.result OpenParen c.eq.ensures c.if-eq.true)
    (via _ (sym (rw c.next-then-eq.ensures at c.in_ok-close.ensures))
    (via _ (sym (c.in_ok-e.ensures c.args.s.now.numbers.now)) (done (back f) refl)))))).ends

pub unary-returns : goal.unary-returns
unfolding operand₁
unary-returns t c = shown _ _ (by (an_operand _ _ _ c.if-room-eq0.false)
    (nay! _ _ _ (ap is_prefix (sym c.kind-k.ensures.is) ∙ sym c.is_prefix.ensures ∙ c.if-is_prefix.false)
    (eq- _ _ _ _ (λ z. no_kind c.kind-k.result OpenParen c.eq.ensures c.if-eq.false (c.kind-k.ensures.is ∙ z)) (record { ends = c.primary_value.ensures.is _ }))))
