use Prim.Native.Nat.{◌+◌}
use native.Mathlib.Omega.{arith}
use Rattle.parse.proofs.Fitting.{rising}
use Rattle.parse.proofs.sets.sets_fit.Goals as goal

pub set_fits-requires : goal.set_fits-requires
set_fits-requires c =
    let given = c.args in
    let required = c.requires in
    let k = c.loop-k.k in
    let starts = given.starts.now in
    let up = required.1.1.each k (omega arith) in
    let last = rising starts given.e required.1.1 (given.e + 1) (k + 1) (omega arith) (omega arith) in
    ((required.0.0, up), omega (arith, last, required.1.0))
