use Rattle.std.proofs.Common.{sym, ◌∙◌}
use Rattle.translation.proofs.Circling.{picks, picks_not, picks_end}
use Rattle.translation.proofs.circular.mark_led.Goals as goal

pub loop-x-preserved-then-leads : goal.loop-x-preserved-then-leads
loop-x-preserved-then-leads c = picks _ c.loop-x.invariant c.in-Some.ensures.steps (sym c.leads.ensures ∙ c.if-leads.true)

pub loop-x-preserved : goal.loop-x-preserved
loop-x-preserved c = picks_not _ c.loop-x.invariant c.in-Some.ensures.steps (sym c.leads.ensures ∙ c.if-leads.false)

pub returns : goal.returns
returns c = picks_end _ c.loop-x.invariant c.in-None.ensures.steps.0
