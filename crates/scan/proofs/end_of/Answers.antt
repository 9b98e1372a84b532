use mathlib.Core.Bool.{true, false}
use Rattle.std.proofs.Common.{rules}
use Rattle.std.proofs.lemmas.Iterator.{IsFirst-from_position, YieldsList-from_slice}
use Rattle.scan.proofs.Going.{first_or_all}
use Rattle.scan.proofs.end_of.Goals as goal

pub returns : goal.returns
returns g c = λ stop h.
    let p = IsFirst-from_position _ _ c.position.result (λ b. g.F.Fn.post c.args.stops (b, tt) true) (λ b. g.F.Fn.post c.args.stops (b, tt) false) c.position.ensures.ran (YieldsList-from_slice c.from-rest.result.now (search rules)) (λ x q k. search rules) (λ x q k. search rules) in
    let e = first_or_all _ stop h c.from-rest.result.now c.position.result p in
    cc
