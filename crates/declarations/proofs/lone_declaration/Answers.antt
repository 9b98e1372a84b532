use mathlib.Core.Path.{refl}
use Rattle.parser.specs.Parsing.{tokens_of, model_of}
use Rattle.table.specs.Reply.{reply_alone}
use Rattle.table.proofs.Shown.{call, next, exit}
use Rattle.definition.specs.Reader.{nothing_more}
use Rattle.model.specs.Meaning.{model}
use Rattle.declarations.proofs.Made.{then-on}
use Rattle.declarations.proofs.lone_declaration.Goals as goal

pub returns-in_err-e : goal.returns-in_err-e
returns-in_err-e c = record { run = λ t h. exit reply_alone _ (c.in_err-e.ensures.run t h) c.from_residual.ensures.1 refl }

pub returns : goal.returns
returns c = record {
  run = λ t h. next _ (c.in_ok-e.ensures.run t h) (λ t₁ h₁. then-on _ (nothing_more (tokens_of c.args.parser.now) (model_of c.args.parser.now)) (call _ ((c.optional_semicolon.ensures.with c.args.parser.now.tokens.numbers.now (model_of c.args.parser.now) _ _ _).run t₁ h₁) refl
      (λ t₂ h₂. (c.nothing_more.ensures.with c.args.parser.now.tokens.numbers.now (model_of c.args.parser.now) _ _ _).run t₂ h₂)));
}
