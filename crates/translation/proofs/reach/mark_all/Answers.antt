use Rattle.translation.proofs.Reaching.{marks-there, marks-new, marks-end}
use Rattle.translation.proofs.reach.mark_all.Goals as goal

pub loop-x-preserved-then-not-marks-x : goal.loop-x-preserved-then-not-marks-x
loop-x-preserved-then-not-marks-x c = marks-new _ c.loop-x.invariant c.in-Some.ensures.steps c.if-not-marks-x.true

pub loop-x-preserved : goal.loop-x-preserved
loop-x-preserved c = marks-there _ c.loop-x.invariant c.in-Some.ensures.steps c.if-not-marks-x.false

pub returns : goal.returns
returns c = marks-end _ c.loop-x.invariant c.in-None.ensures.steps.0
