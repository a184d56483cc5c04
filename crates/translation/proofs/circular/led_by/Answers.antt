use Rattle.std.proofs.Common.{refl, ◌∙◌}
use Rattle.translation.proofs.Circling.{step_rests, step_leads}
use Rattle.translation.proofs.Walking.{come_begins, come_on, come_ends}
use Rattle.translation.proofs.circular.led_by.Goals as goal

pub loop-rule-init : goal.loop-rule-init
loop-rule-init c = come_begins _ _ _ (c.into_iter-rule-iterator.ensures.into_iter_gives ∙ c.rules-rule-items.ensures.rules) refl

pub loop-rule-preserved-then-held-left : goal.loop-rule-preserved-then-held-left
loop-rule-preserved-then-held-left c =
    come_on _ _ _ _ c.loop-rule.invariant c.in-Some.ensures.steps (step_leads _ _ _ _ _ c.left.ensures c.if-held-left.true c.filled.ensures c.mark_led.ensures)

pub loop-rule-preserved : goal.loop-rule-preserved
loop-rule-preserved c = come_on _ _ _ _ c.loop-rule.invariant c.in-Some.ensures.steps (step_rests _ _ _ _ c.left.ensures c.if-held-left.false)

pub returns-clause-walked : goal.returns-clause-walked
returns-clause-walked c = come_ends _ _ _ c.loop-rule.invariant c.in-None.ensures.steps.0
