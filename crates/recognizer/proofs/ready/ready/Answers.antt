-- `recognizer::ready::ready` meets its contract.
use Rattle.std.proofs.lemmas.Result.{err_from_is_err_and}
use Rattle.demands.specs.Calls.{CallFault}
use Rattle.recognizer.proofs.Readying.{file_refused, file_opened, told_ill_formed, told_ready}
use Rattle.recognizer.proofs.ready.ready.Goals as goal

pub returns-in_err-read : goal.returns-in_err-read
returns-in_err-read c =
    let p = err_from_is_err_and c.from_residual.result c.from_residual.ensures.1 in
    rw p.1 (CallFault.file_fault (file_refused c.read.ensures.verdict c.in_err-read.was p.2))

pub well_formed-requires : goal.well_formed-requires
well_formed-requires c = (file_opened c.read.ensures.verdict c.read.ensures.decoded c.in_ok-read.was).few

pub returns-then-not-well_formed : goal.returns-then-not-well_formed
returns-then-not-well_formed c =
    told_ill_formed (file_opened c.read.ensures.verdict c.read.ensures.decoded c.in_ok-read.was) c.well_formed-2.ensures c.if-not-well_formed.true

pub returns : goal.returns
returns c = told_ready (file_opened c.read.ensures.verdict c.read.ensures.decoded c.in_ok-read.was) c.well_formed-2.ensures c.if-not-well_formed.false
