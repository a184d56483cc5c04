-- `recognizer::start` meets its contract.
use mathlib.Core.Path.{sym, ap, ◌∙◌}
use native.Mathlib.Omega.{arith}
use Rattle.std.proofs.lemmas.Result.{err_from_is_err_and}
use Rattle.prediction.proofs.Reaching.{accepted-within}
use Rattle.demands.specs.Calls.{Starts, StartFault}
use Rattle.parse.specs.Words.{set_room, words_in}
use Rattle.recognizer.proofs.Beginning.{wrapper-row, starts_done}
use Rattle.recognizer.proofs.Readying.{file_refused, file_opened}
use Rattle.recognizer.proofs.start.Goals as goal

pub returns-in_err-read-clause-calls : goal.returns-in_err-read-clause-calls
returns-in_err-read-clause-calls c =
    let p = err_from_is_err_and c.from_residual.result c.from_residual.ensures.1 in
    rw p.1 (Starts.refused (StartFault.file_fault (file_refused c.read.ensures.verdict c.in_err-read.was p.2)))

pub returns-then-set_room-eq0-clause-calls : goal.returns-then-set_room-eq0-clause-calls
returns-then-set_room-eq0-clause-calls c =
    let opened = file_opened c.read.ensures.verdict c.read.ensures.decoded c.in_ok-read.was in
    Starts.refused (StartFault.no_sets opened.checked (sym (ap set_room c.view-view.ensures) ∙ sym c.set_room.ensures ∙ c.if-set_room-eq0.true))

pub table-table-requires : goal.table-table-requires
table-table-requires c =
    let opened = file_opened c.read.ensures.verdict c.read.ensures.decoded c.in_ok-read.was in
    (opened.few, accepted-within _ _ _ _ opened.checked.accepted)

pub begin-requires : goal.begin-requires
begin-requires c =
    let opened = file_opened c.read.ensures.verdict c.read.ensures.decoded c.in_ok-read.was in
    (omega (arith, ap set_room c.view-view.ensures, c.set_room.ensures, c.if-set_room-eq0.false), wrapper-row _ _ opened.checked.accepted (c.table-table.ensures _))

pub returns-clause-calls : goal.returns-clause-calls
returns-clause-calls c =
    let opened = file_opened c.read.ensures.verdict c.read.ensures.decoded c.in_ok-read.was in
    starts_done _ _ (words_in c.args.words.now) _ _ _ (record { checked = opened.checked; predicts = c.table-table.ensures _ })
    (omega (arith, ap set_room c.view-view.ensures, c.set_room.ensures, c.if-set_room-eq0.false)) c.begin.ensures.begun
