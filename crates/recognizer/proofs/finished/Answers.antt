-- `recognizer::finished` meets its contract.
use Rattle.std.proofs.lemmas.Result.{err_from_is_err_and}
use Rattle.parse.specs.Words.{seen}
use Rattle.demands.specs.Calls.{Finishes}
use Rattle.demands.proofs.Telling.{finished_means}
use Rattle.recognizer.proofs.Readying.{readied_fault, readied_formed, finishes_no, finishes-yes}
use Rattle.recognizer.proofs.Cutting.{latest_there}
use Rattle.recognizer.proofs.finished.Goals as goal

pub returns-in_err-ready-clause-calls : goal.returns-in_err-ready-clause-calls
returns-in_err-ready-clause-calls c =
    let p = err_from_is_err_and c.from_residual.result c.from_residual.ensures.1 in
    rw (p.1, p.2) (Finishes.refused (readied_fault _ _ _ _ c.ready.ensures c.in_err-ready.was))

pub returns-in_err-ready-clause-sentences : goal.returns-in_err-ready-clause-sentences
returns-in_err-ready-clause-sentences c =
    let p = err_from_is_err_and c.from_residual.result c.from_residual.ensures.1 in
    rw (p.1, p.2) (finished_means (Finishes.refused (readied_fault _ _ _ _ c.ready.ensures c.in_err-ready.was))).1

pub last_wraps-requires : goal.last_wraps-requires
last_wraps-requires c =
    let formed = readied_formed _ _ _ _ c.ready.ensures c.in_ok-ready.was in
    latest_there _ _ c.args.state (seen c.args.view.now) formed.well_formed

pub returns-then-not-last_wraps-clause-calls : goal.returns-then-not-last_wraps-clause-calls
returns-then-not-last_wraps-clause-calls c =
    let formed = readied_formed _ _ _ _ c.ready.ensures c.in_ok-ready.was in
    finishes_no _ c.args.state (seen c.args.view.now) formed _ c.last_wraps.ensures c.if-not-last_wraps.true

pub returns-then-not-last_wraps-clause-sentences : goal.returns-then-not-last_wraps-clause-sentences
returns-then-not-last_wraps-clause-sentences c =
    let formed = readied_formed _ _ _ _ c.ready.ensures c.in_ok-ready.was in
    (finished_means (finishes_no _ c.args.state (seen c.args.view.now) formed _ c.last_wraps.ensures c.if-not-last_wraps.true)).1

pub returns-clause-calls : goal.returns-clause-calls
returns-clause-calls c =
    let formed = readied_formed _ _ _ _ c.ready.ensures c.in_ok-ready.was in
    finishes-yes _ c.args.state (seen c.args.view.now) formed _ c.last_wraps.ensures c.if-not-last_wraps.false _ c.handle.ensures

pub returns-clause-sentences : goal.returns-clause-sentences
returns-clause-sentences c =
    let formed = readied_formed _ _ _ _ c.ready.ensures c.in_ok-ready.was in
    (finished_means (finishes-yes _ c.args.state (seen c.args.view.now) formed _ c.last_wraps.ensures c.if-not-last_wraps.false _ c.handle.ensures)).1
