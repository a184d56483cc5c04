use Rattle.std.proofs.Common.{arith}
use Rattle.plain.proofs.Lengths.{filling_at, length-ends}
use Rattle.plain.proofs.fill.fill_length.Goals as goal

pub returns : goal.returns
returns c =
    let required = c.requires in
    let looped = c.loop-i in
    (looped.invariant.0, filling_at looped.invariant.1 (length-ends _ _ _ required.1 required.2 (omega arith) c.loop-i-test.false))
