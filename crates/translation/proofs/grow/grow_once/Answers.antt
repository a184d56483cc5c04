use Rattle.translation.proofs.Growing.{step_rests, step_fires}
use Rattle.translation.proofs.Walking.{come_on, come_ends}
use Rattle.translation.proofs.grow.grow_once.Goals as goal

pub loop-rule-preserved-then-fires : goal.loop-rule-preserved-then-fires
loop-rule-preserved-then-fires g c =
    come_on _ _ _ _ c.loop-rule.invariant c.in-Some.ensures.steps (step_fires _ _ _ c.left.ensures c.fires.ensures c.if-fires.true)

pub loop-rule-preserved : goal.loop-rule-preserved
loop-rule-preserved g c = come_on _ _ _ _ c.loop-rule.invariant c.in-Some.ensures.steps (step_rests _ _ _ c.fires.ensures c.if-fires.false)

pub returns-clause-walked : goal.returns-clause-walked
returns-clause-walked g c = come_ends _ _ _ c.loop-rule.invariant c.in-None.ensures.steps.0
