use Rattle.std.proofs.Common.{ap, ◌∙◌}
use Rattle.std.proofs.lemmas.Result.{err_from_is_err_and}
use Rattle.written.specs.Translation.{number}
use Rattle.translation.proofs.Joining.{parting_on, parting_stops, parting-ends}
use Rattle.translation.proofs.split.list.Goals as goal

pub returns-in_err-split : goal.returns-in_err-split
returns-in_err-split c =
    let p = err_from_is_err_and c.from_residual.result c.from_residual.ensures.1 in
    rw (p.1)
    (parting_stops _ _ _ _ _ c.loop-rule.invariant c.in-Some.ensures.steps c.places-held.ensures.0 (c.number-a.ensures.0 ∙ ap (number _) c.left.ensures) c.in_err-split.ensures)

pub loop-rule-preserved : goal.loop-rule-preserved
loop-rule-preserved c =
    parting_on _ _ _ _ _ c.loop-rule.invariant c.in-Some.ensures.steps c.places-held.ensures.0 (c.number-a.ensures.0 ∙ ap (number _) c.left.ensures)
    c.saturating_sub-fresh.ensures c.in_ok-split.ensures

pub returns : goal.returns
returns c = parting-ends _ _ _ _ _ c.loop-rule.invariant c.in-None.ensures.steps.0
