-- `recognizer::kinds` meets its contract.
use mathlib.Core.Path.{subst}
use Rattle.parse.specs.Words.{Words}
use Rattle.recognizer.specs.inner.Opening.{Readies}
use Rattle.std.proofs.lemmas.Result.{err_from_is_err_and}
use Rattle.prediction.proofs.Reaching.{accepted-within}
use Rattle.demands.specs.Calls.{Takes}
use Rattle.demands.proofs.Telling.{position_means}
use Rattle.recognizer.proofs.Readying.{readied_fault, readied_for, readied_formed}
use Rattle.recognizer.proofs.Given.{can_step, takes}
use Rattle.recognizer.proofs.kinds.Goals as goal

pub returns-in_err-ready-clause-calls : goal.returns-in_err-ready-clause-calls
returns-in_err-ready-clause-calls c =
    let told = subst (λ (w : Words). Readies c.args.file.now c.args.state w c.ready.new.grammar c.ready.result) c.view.ensures c.ready.ensures in
    let p = err_from_is_err_and c.from_residual.result c.from_residual.ensures.1 in
    rw (p.1, p.2) (Takes.refused (readied_fault _ _ _ _ told c.in_err-ready.was))

pub returns-in_err-ready-clause-sentences : goal.returns-in_err-ready-clause-sentences
returns-in_err-ready-clause-sentences c =
    let told = subst (λ (w : Words). Readies c.args.file.now c.args.state w c.ready.new.grammar c.ready.result) c.view.ensures c.ready.ensures in
    let p = err_from_is_err_and c.from_residual.result c.from_residual.ensures.1 in
    rw (p.1, p.2) (position_means (Takes.refused (readied_fault _ _ _ _ told c.in_err-ready.was))).1

pub table-table-requires : goal.table-table-requires
table-table-requires c =
    let told = subst (λ (w : Words). Readies c.args.file.now c.args.state w c.ready.new.grammar c.ready.result) c.view.ensures c.ready.ensures in
    let opened = (readied_for _ _ _ _ told c.in_ok-ready.was).opened in
    (opened.few, accepted-within _ _ _ _ opened.checked.accepted)

pub step_within-requires : goal.step_within-requires
step_within-requires c =
    let told = subst (λ (w : Words). Readies c.args.file.now c.args.state w c.ready.new.grammar c.ready.result) c.view.ensures c.ready.ensures in
    (can_step (readied_formed _ _ _ _ told c.in_ok-ready.was) (c.table-table.ensures _), (readied_for _ _ _ _ told c.in_ok-ready.was).opened.chained)

pub returns-clause-calls : goal.returns-clause-calls
returns-clause-calls c =
    let told = subst (λ (w : Words). Readies c.args.file.now c.args.state w c.ready.new.grammar c.ready.result) c.view.ensures c.ready.ensures in
    takes (readied_formed _ _ _ _ told c.in_ok-ready.was) (c.table-table.ensures _) c.args.kinds.now c.step_within.ensures.steps

pub returns-clause-sentences : goal.returns-clause-sentences
returns-clause-sentences c =
    let told = subst (λ (w : Words). Readies c.args.file.now c.args.state w c.ready.new.grammar c.ready.result) c.view.ensures c.ready.ensures in
    (position_means (takes (readied_formed _ _ _ _ told c.in_ok-ready.was) (c.table-table.ensures _) c.args.kinds.now c.step_within.ensures.steps)).1
