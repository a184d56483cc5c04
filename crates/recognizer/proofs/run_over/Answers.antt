-- `recognizer::run_over` meets its contract.
use mathlib.Core.Path.{refl, subst}
use Rattle.parse.specs.Words.{Words}
use Rattle.recognizer.specs.inner.Opening.{Readies}
use Rattle.prediction.proofs.Reaching.{accepted-within}
use Rattle.demands.specs.Calls.{Runs}
use Rattle.demands.proofs.Telling.{run_means}
use Rattle.recognizer.proofs.Readying.{readied_fault, readied_for, readied_formed}
use Rattle.recognizer.proofs.Given.{can_step, runs}
use Rattle.recognizer.proofs.run_over.Goals as goal

pub returns-in-Err-clause-calls : goal.returns-in-Err-clause-calls
returns-in-Err-clause-calls g c =
    let told = subst (λ (w : Words). Readies c.args.file.now c.args.state w c.ready.new.grammar c.ready.result) c.view.ensures c.ready.ensures in
    Runs.refused (readied_fault _ _ _ _ told c.in-Err.is)

pub returns-in-Err-clause-sentences : goal.returns-in-Err-clause-sentences
returns-in-Err-clause-sentences g c =
    let told = subst (λ (w : Words). Readies c.args.file.now c.args.state w c.ready.new.grammar c.ready.result) c.view.ensures c.ready.ensures in
    (run_means (Runs.refused (readied_fault _ _ _ _ told c.in-Err.is))).1

pub table-table-requires : goal.table-table-requires
table-table-requires g c =
    let told = subst (λ (w : Words). Readies c.args.file.now c.args.state w c.ready.new.grammar c.ready.result) c.view.ensures c.ready.ensures in
    let opened = (readied_for _ _ _ _ told c.in_default.is).opened in
    (opened.few, accepted-within _ _ _ _ opened.checked.accepted)

pub run_within-requires : goal.run_within-requires
run_within-requires g c =
    let told = subst (λ (w : Words). Readies c.args.file.now c.args.state w c.ready.new.grammar c.ready.result) c.view.ensures c.ready.ensures in
    let formed = readied_formed _ _ _ _ told c.in_default.is in
    λ k. ((refl, record {}), (can_step formed (c.table-table.ensures _), c.table-table.ensures _, (readied_for _ _ _ _ told c.in_default.is).opened.chained, c.requires))

pub returns-clause-calls : goal.returns-clause-calls
returns-clause-calls g c =
    let told = subst (λ (w : Words). Readies c.args.file.now c.args.state w c.ready.new.grammar c.ready.result) c.view.ensures c.ready.ensures in
    runs (readied_formed _ _ _ _ told c.in_default.is) (c.table-table.ensures _) (g.P.Positions.left c.args.positions) c.run_within.ensures.runs

pub returns-clause-sentences : goal.returns-clause-sentences
returns-clause-sentences g c =
    let told = subst (λ (w : Words). Readies c.args.file.now c.args.state w c.ready.new.grammar c.ready.result) c.view.ensures c.ready.ensures in
    (run_means (runs (readied_formed _ _ _ _ told c.in_default.is) (c.table-table.ensures _) (g.P.Positions.left c.args.positions) c.run_within.ensures.runs)).1
