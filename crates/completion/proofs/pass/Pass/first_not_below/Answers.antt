use Rattle.std.proofs.Common.{arith}
use Rattle.completion.proofs.Searching.{passed_on}
use Rattle.completion.proofs.pass.Pass.first_not_below.Goals as goal

pub loop-low-preserved : goal.loop-low-preserved
loop-low-preserved c =
    let required = c.requires in
    let looped = c.loop-low in
    let Going-on = c.loop-low-test in
    passed_on _ _ _ _ _ required.1 _ (omega (arith, looped.invariant.from_on)) (omega (arith, Going-on.true)) (omega (arith, c.if-second_at-x.false, c.second_at.ensures))
