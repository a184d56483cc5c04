use Rattle.std.proofs.Common.{arith}
use Rattle.completion.proofs.Searching.{halving_up, halving_down}
use Rattle.completion.proofs.pass.Pass.by_halves.Goals as goal

pub loop-low-preserved-then-second_at-x : goal.loop-low-preserved-then-second_at-x
loop-low-preserved-then-second_at-x c =
    let required = c.requires in
    let looped = c.loop-low in
    let Going-on = c.loop-low-test in
    halving_up _ _ _ _ _ required.1 _ _ _ looped.invariant (omega arith) (omega (arith, Going-on.true)) (omega (arith, c.if-second_at-x.true, c.second_at.ensures))

pub loop-low-preserved : goal.loop-low-preserved
loop-low-preserved c =
    let required = c.requires in
    let looped = c.loop-low in
    let Going-on = c.loop-low-test in
    halving_down _ _ _ _ _ required.1 _ _ _ looped.invariant (omega arith) (omega (arith, Going-on.true)) (omega (arith, c.if-second_at-x.false, c.second_at.ensures))
