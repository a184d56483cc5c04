use Rattle.translation.proofs.Reaching.{reach_begins, reach_on, reach_less, reach_exact}
use Rattle.translation.proofs.reach.reachable.Goals as goal

pub loop-init : goal.loop-init
loop-init c = reach_begins _ c.start.result c.start.ensures.0 c.start.ensures.1

pub loop-smaller : goal.loop-smaller
loop-smaller c = reach_less _ c.loop.marks _ _ c.reach_once.ensures.low c.loop.invariant c.reach_once.ensures.walked c.loop-test.true

pub loop-preserved : goal.loop-preserved
loop-preserved c = reach_on _ c.loop.marks _ _ c.reach_once.ensures.low c.loop.invariant c.reach_once.ensures.walked

pub returns : goal.returns
returns c = reach_exact _ c.loop.marks _ _ c.loop.invariant c.reach_once.ensures.walked c.loop-test.false
