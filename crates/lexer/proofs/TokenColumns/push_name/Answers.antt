use mathlib.Core.Path.{refl, ap}
use Prim.Native.Nat.{ℕ}
use lib.ListN.{set}
use Rattle.lexer.proofs.Stored.{stored-known, stored-new}
use Rattle.lexer.proofs.TokenColumns.push_name.Goals as goal

pub returns-in-Known : goal.returns-in-Known
returns-in-Known c =
    let p = c.push.ensures in
    record { keeps = p.keeps; stores = stored-known _ _ _ _ _ _ _ _ _ c.requires _ refl _ _ p.kinds p.places p.numbers c.in-Known.ensures refl; count = p.count }

pub returns-in-Free : goal.returns-in-Free
returns-in-Free c =
    let p = c.push-in-Free.ensures in
    record {
      keeps = p.keeps;
      stores = stored-new _ _ _ _ _ _ _ _ _ c.requires _ refl _ _ p.kinds p.places p.numbers _ c.in-Free.ensures c.number.ensures (ap (λ (n : ℕ). set c.args.links.now c.in-Free.spot n) p.count);
      count = p.count;
    }
