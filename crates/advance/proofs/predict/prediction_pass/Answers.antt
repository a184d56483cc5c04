use Rattle.advance.proofs.Predicting.{predicting_start, predicting_next}
use Rattle.advance.proofs.predict.prediction_pass.Goals as goal

pub loop-p-init : goal.loop-p-init
loop-p-init c = predicting_start _ _ _ _ _ _ _ _ c.requires

pub loop-p-preserved : goal.loop-p-preserved
loop-p-preserved c =
    let required = c.requires in
    let looped = c.loop-p in
    let entered = c.loop-p-test in
    let rule-read = c.rule in
    predicting_next _ _ _ _ _ _ _ _ required _ _ looped.invariant entered.true _ _
    rule-read.ensures
    c.second-symbol.ensures.0 c.join_at.ensures
