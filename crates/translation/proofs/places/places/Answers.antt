use Rattle.translation.proofs.Placing.{placing_gone, placing-kept, placing-ends}
use Rattle.std.proofs.Common.{arith, length-take}
use Rattle.translation.proofs.places.places.Goals as goal

pub loop-x-preserved-then-keep-x : goal.loop-x-preserved-then-keep-x
loop-x-preserved-then-keep-x c = placing-kept _ _ _ c.loop-x.invariant c.in-Some.ensures.steps c.if-keep-x.true (omega arith)

pub loop-x-preserved : goal.loop-x-preserved
loop-x-preserved c = placing_gone _ _ _ c.loop-x.invariant c.in-Some.ensures.steps c.if-keep-x.false

pub returns : goal.returns
returns c = (
  placing-ends _ _ _ c.loop-x.invariant c.in-None.ensures.steps.0,
  omega (arith, c.loop-x.invariant.few, length-take c.loop-x.k c.loop-x.room),
)
