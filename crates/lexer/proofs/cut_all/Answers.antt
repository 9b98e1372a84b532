use borrow.Author.Rules.{rules}
use mathlib.Core.Path.{refl}
use Rattle.std.proofs.lemmas.Result.{err_from_is_err_and}
use Rattle.lexer.proofs.Rounds.{go-done, link_start, link_refused, link_skip, link_token, link_name}
use Rattle.lexer.proofs.Pushing.{keeps_on}
use Rattle.lexer.proofs.cut_all.Goals as goal

pub loop-at-init : goal.loop-at-init
loop-at-init c = record {
  keeps = record { kinds = refl; places = refl; numbers = refl };
  linked = link_start _ _ _ _ _ _ c.requires.room c.requires.zero c.requires.head_count c.requires.text_in_bounds c.requires.links_value;
}

pub returns-in_err-to : goal.returns-in_err-to
returns-in_err-to c =
    let p = err_from_is_err_and c.from_residual.result c.from_residual.ensures.1 in
    rw (p.1, p.2) (link_refused c.loop-at.invariant.linked c.loop-at-test.true _ c.in_err-to.ensures.value)

pub loop-at-preserved-in-Skip : goal.loop-at-preserved-in-Skip
loop-at-preserved-in-Skip c = record {
  keeps = c.loop-at.invariant.keeps;
  linked = link_skip c.loop-at.invariant.linked c.loop-at-test.true _ _ (rw c.in-Skip.is at c.in_ok-to.ensures.value) (rw c.in-Skip.is at c.in_ok-to.ensures.goes);
}

pub loop-at-preserved-in-Token : goal.loop-at-preserved-in-Token
loop-at-preserved-in-Token c =
    let p = c.push.ensures in
    record {
      keeps = keeps_on c.loop-at.invariant.keeps p.keeps;
      linked = rw p.count (link_token c.loop-at.invariant.linked c.loop-at-test.true c.in-Token.kind _ _ (rw c.in-Token.is at c.in_ok-to.ensures.value) (rw c.in-Token.is at c.in_ok-to.ensures.goes) p.kinds p.places p.numbers);
    }

pub loop-at-preserved : goal.loop-at-preserved
loop-at-preserved c =
    let p = c.push_name.ensures in
    record {
      keeps = keeps_on c.loop-at.invariant.keeps p.keeps;
      linked = rw p.count (link_name c.loop-at.invariant.linked c.loop-at-test.true c.in-Name.kind _ (rw c.in-Name.is at c.in_ok-to.ensures.value) (rw c.in-Name.is at c.in_ok-to.ensures.goes) p.stores c.push_name.auto.links);
    }

pub returns : goal.returns
returns c = let k = go-done _ _ _ _ _ _ _ c.loop-at.invariant.linked.going c.loop-at-test.false in let h = c.loop-at.invariant.keeps in search rules
