use Rattle.translation.proofs.Placing.{counted_on, counted-ends}
use Rattle.std.proofs.Common.{arith}
use Rattle.translation.proofs.places.count_new.Goals as goal

pub loop-rule-preserved : goal.loop-rule-preserved
loop-rule-preserved c = counted_on _ _ _ c.loop-rule.invariant c.in-Some.ensures.steps c.places.ensures.0 c.places.ensures.1 c.saturating_sub-total.ensures

pub returns : goal.returns
returns c = (counted-ends _ _ c.loop-rule.invariant c.in-None.ensures.steps.0, omega (arith, c.loop-rule.invariant.low))
