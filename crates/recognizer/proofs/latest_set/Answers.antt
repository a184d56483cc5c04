-- `recognizer::latest_set` meets its contract.
use Rattle.std.proofs.lemmas.Result.{err_from_is_err_and}
use Rattle.parse.specs.Words.{seen}
use Rattle.demands.specs.Calls.{Reports}
use Rattle.recognizer.proofs.Readying.{readied_fault, readied_formed, reports_with}
use Rattle.recognizer.proofs.Cutting.{latest_there}
use Rattle.recognizer.proofs.latest_set.Goals as goal

pub returns-in_err-ready : goal.returns-in_err-ready
returns-in_err-ready c =
    let p = err_from_is_err_and c.from_residual.result c.from_residual.ensures.1 in
    record { calls = rw (p.1, p.2) (Reports.refused (readied_fault _ _ _ _ c.ready.ensures c.in_err-ready.was)) }

pub latest_part-requires : goal.latest_part-requires
latest_part-requires c =
    let formed = readied_formed _ _ _ _ c.ready.ensures c.in_ok-ready.was in
    latest_there _ _ c.args.state (seen c.args.view.now) formed.well_formed

pub returns : goal.returns
returns c =
    let formed = readied_formed _ _ _ _ c.ready.ensures c.in_ok-ready.was in
    record { calls = reports_with _ c.args.state (seen c.args.view.now) formed _ c.latest_part.ensures }
