use mathlib.Core.Path.{refl}
use Rattle.encoding.proofs.TokenKinds.{is_kind, no_kind}
use Rattle.encoding.specs.declared.token_kinds.TokenKind.TheVariants.{CloseBracket, Star}
use Rattle.lemmas.specs.Options.{option}
use Rattle.table.specs.Reply.{reply_by}
use Rattle.table.proofs.Shown.{got-at, no!, next, exit, step-on}
use Rattle.table.proofs.Steps.{is+, is-}
use Rattle.bounds_widths.proofs.Words.{past_words}
use Rattle.bounds_widths.proofs.array_bound.Goals as goal

pub returns-then-eq : goal.returns-then-eq
returns-then-eq c = record { with = λ m d. record { run = λ t h. past_words _ m _ _ _ (c.bound_words-i.ensures _ t) (is+ _ _ c.kind_at-kind.ensures (is_kind c.kind_at-kind.result CloseBracket c.eq.ensures c.if-eq.true) (got-at c.moved.ensures h)) } }

pub returns-in_err-past : goal.returns-in_err-past
returns-in_err-past c = record {
  with = λ m d. record {
    run = λ t h. past_words _ m _ _ _ (c.bound_words-i.ensures _ t) (is- _ _ c.kind_at-kind.ensures (no_kind c.kind_at-kind.result CloseBracket c.eq.ensures c.if-eq.false)
        (is+ _ _ c.kind_at-kind.ensures (is_kind c.kind_at-kind.result Star c.eq-2.ensures c.if-eq-2.true)
        (exit (reply_by option) _ (step-on c.moved-then-eq-2.ensures (c.in_err-past.ensures.with _ _ _ _) h) c.from_residual.ensures.1 refl)));
  };
}

pub returns-then-eq-2 : goal.returns-then-eq-2
returns-then-eq-2 c = record {
  with = λ m d. record {
    run = λ t h. past_words _ m _ _ _ (c.bound_words-i.ensures _ t) (is- _ _ c.kind_at-kind.ensures (no_kind c.kind_at-kind.result CloseBracket c.eq.ensures c.if-eq.false)
        (is+ _ _ c.kind_at-kind.ensures (is_kind c.kind_at-kind.result Star c.eq-2.ensures c.if-eq-2.true)
        (next _ (step-on c.moved-then-eq-2.ensures (c.in_ok-past.ensures.with _ _ _ _) h) (λ t₁ h₁. no! h₁ refl))));
  };
}

pub returns : goal.returns
returns c = record {
  with = λ m d. record {
    run = λ t h. past_words _ m _ _ _ (c.bound_words-i.ensures _ t) (is- _ _ c.kind_at-kind.ensures (no_kind c.kind_at-kind.result CloseBracket c.eq.ensures c.if-eq.false)
        (is- _ _ c.kind_at-kind.ensures (no_kind c.kind_at-kind.result Star c.eq-2.ensures c.if-eq-2.false)
        (step-on c.moved-2.ensures (c.constant_bound.ensures.with m d) h)));
  };
}
