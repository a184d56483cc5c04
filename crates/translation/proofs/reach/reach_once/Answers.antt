use Rattle.translation.proofs.Reaching.{step_rests, step_marks}
use Rattle.translation.proofs.Walking.{come_on, come_ends}
use Rattle.translation.proofs.reach.reach_once.Goals as goal

pub loop-rule-preserved-then-marks-left : goal.loop-rule-preserved-then-marks-left
loop-rule-preserved-then-marks-left c =
    come_on _ _ _ _ c.loop-rule.invariant c.in-Some.ensures.steps (step_marks _ _ _ c.left.ensures c.if-marks-left.true c.mark_all-more.ensures)

pub loop-rule-preserved : goal.loop-rule-preserved
loop-rule-preserved c = come_on _ _ _ _ c.loop-rule.invariant c.in-Some.ensures.steps (step_rests _ _ c.left.ensures c.if-marks-left.false)

pub returns-clause-walked : goal.returns-clause-walked
returns-clause-walked c = come_ends _ _ _ c.loop-rule.invariant c.in-None.ensures.steps.0
