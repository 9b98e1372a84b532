use native.Mathlib.Omega.{arith}
use Prim.Native.Nat.{◌+◌, ◌-◌, ◌*◌}
use Rattle.table.proofs.Flat.{put-over}
use Rattle.table.proofs.Region.put.Goals as goal

pub returns : goal.returns
returns g c =
    let b = c.args.self.start + c.args.self.columns * c.args.i in
    rw c.copy_from_slice.ensures.after (put-over c.args.xs.now b (b + g.row.N - b) c.args.numbers (omega arith) (omega arith))
