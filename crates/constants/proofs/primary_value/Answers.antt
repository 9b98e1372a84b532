use borrow.Author.Rules.{rules}
use native.Mathlib.Omega.{arith}
use mathlib.Core.Path.{sym, ap, ◌∙◌}
use mir.Syntax.{w64}
use mir.Val.{SFits}
use Rattle.arithmetic.proofs.Told.{back}
use Rattle.constants.specs.Lookup.{found}
use Prim.Native.Nat.{◌<◌}
use Rattle.encoding.specs.Kinds.{kind_number}
use Rattle.encoding.proofs.TokenKinds.{is_kind, no_kind}
use Rattle.encoding.specs.declared.token_kinds.TokenKind.TheVariants.{Number}
use Rattle.table.proofs.Branch.{via, halt, yes!, nay!, eq+, eq-, some!, none! }
use Rattle.table.proofs.Steps.{inside}
use Rattle.constants.proofs.Steps.{here, exit, lacks, done, name-there}
use Rattle.definition.specs.Kind.{is_name}
use Rattle.definition.specs.Range.{exact}
use Rattle.definition.specs.Constant.{primary}
use Rattle.constants.proofs.primary_value.Goals as goal
use Rattle.constants.proofs.primary_value.Goals.{then-eq+in_ok-value, else-eq+then-is_name+in_ok-value-2}

pub returns-in_err-value : goal.returns-in_err-value
unfolding primary exact
returns-in_err-value c = record {
  is = λ next. (eq+ _ _ _ _ (sym c.kind-k.ensures.is ∙ is_kind c.kind-k.result Number c.eq.ensures c.if-eq.true)
      (halt _ (sym (c.in_err-value.ensures ∙ ap (λ g. g c.args.c.at) (rw c.number.ensures.is at c.literal.ensures))) (exit _ _ c.from_residual.ensures.1))).ends;
}

pub returns-in_err-value-2 : goal.returns-in_err-value-2
unfolding primary found
returns-in_err-value-2 c = record {
  is = λ next. rw (lacks c.from_residual-in_err-value-2.result _ _ _ c.from_residual-in_err-value-2.ensures.1 c.in_err-value-2.ensures.value)
      (eq- _ _ _ _ (λ z. no_kind c.kind-k.result Number c.eq.ensures c.if-eq.false (c.kind-k.ensures.is ∙ z))
      (yes! _ _ _ (ap is_name (sym c.kind-k.ensures.is) ∙ sym c.is_name.ensures ∙ c.if-is_name.true)
      (none! _ _ _ (sym (rw c.number-then-is_name.ensures.is at c.value_of.ensures) ∙ ap found c.in_err-value-2.ensures.ok_part) here))).ends;
}

pub returns-else-is_name : goal.returns-else-is_name
unfolding primary
returns-else-is_name c = record {
  is = λ next. (eq- _ _ _ _ (λ z. no_kind c.kind-k.result Number c.eq.ensures c.if-eq.false (c.kind-k.ensures.is ∙ z))
      (nay! _ _ _ (ap is_name (sym c.kind-k.ensures.is) ∙ sym c.is_name.ensures ∙ c.if-is_name.false) here)).ends;
}

pub next-requires : goal.next-requires
next-requires c =
    let p : 0 < kind_number c.kind-k.result = elim c.if-eq.branch [
      | then-eq+in_ok-value w ↦ omega (arith, is_kind c.kind-k.result Number c.eq.ensures w.if-eq.true)
      | else-eq+then-is_name+in_ok-value-2 w ↦ name-there (sym w.is_name.ensures ∙ w.if-is_name.true)
    ] in
    omega (arith, c.well_formed, inside c.args.s.now.kinds.now c.kind-k.ensures p)

pub returns : goal.returns
unfolding primary found exact
returns c = record {
  is = λ next. elim c.if-eq.branch [
    | then-eq+in_ok-value w ↦
        let f : SFits w64 w.in_ok-value.value = search rules in
        (eq+ _ _ _ _ (sym c.kind-k.ensures.is ∙ is_kind c.kind-k.result Number c.eq.ensures w.if-eq.true)
        (via _ (sym (w.in_ok-value.ensures ∙ ap (λ g. g c.args.c.at) (rw w.number.ensures.is at w.literal.ensures))) (done (w.value-is ∙ back f) c.next.ensures))).ends
    | else-eq+then-is_name+in_ok-value-2 w ↦
        let f : SFits w64 w.in_ok-value-2.value = search rules in
        (eq- _ _ _ _ (λ z. no_kind c.kind-k.result Number c.eq.ensures w.if-eq.false (c.kind-k.ensures.is ∙ z))
        (yes! _ _ _ (ap is_name (sym c.kind-k.ensures.is) ∙ sym w.is_name.ensures ∙ w.if-is_name.true)
        (some! _ _ _ (sym (rw w.number-then-is_name.ensures.is at w.value_of.ensures) ∙ ap found w.in_ok-value-2.ensures.ok_part) (done (w.value-is ∙ back f) c.next.ensures)))).ends
  ];
}
