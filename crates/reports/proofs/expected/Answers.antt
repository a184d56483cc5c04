-- `reports::expected` meets its contract.
use mathlib.Core.Path.{ap}
use mathlib.Core.List.{List}
use Prim.Native.Nat.{ℕ}
use Rattle.std.proofs.lemmas.Result.{err_from_is_err_and}
use Rattle.laws.specs.Fills.{Fills}
use Rattle.parse.specs.Words.{seen}
use Rattle.recognizer.proofs.Readying.{readied_fault, readied_formed}
use Rattle.reports.specs.Lists.{held_below}
use Rattle.reports.proofs.Latest.{row_same}
use Rattle.reports.proofs.Telling.{puts_list, expected_means}
use Rattle.reports.proofs.expected.Goals as goal

pub returns-in_err-ready-clause-calls : goal.returns-in_err-ready-clause-calls
returns-in_err-ready-clause-calls c =
    let p = err_from_is_err_and c.from_residual.result c.from_residual.ensures.1 in
    rw (p.1, p.2) (Fills.refused (readied_fault _ _ _ _ c.ready.ensures c.in_err-ready.was))

pub returns-in_err-ready-clause-sentences : goal.returns-in_err-ready-clause-sentences
returns-in_err-ready-clause-sentences c =
    let p = err_from_is_err_and c.from_residual.result c.from_residual.ensures.1 in
    rw (p.1, p.2) (expected_means {place = c.args.tokens.now} (Fills.refused (readied_fault _ _ _ _ c.ready.ensures c.in_err-ready.was))).1

pub returns-clause-calls : goal.returns-clause-calls
returns-clause-calls c =
    let formed = readied_formed _ _ _ _ c.ready.ensures c.in_ok-ready.was in
    let row = row_same _ _ c.args.state (seen c.args.view.now) formed.well_formed in
    puts_list formed (ap (λ (r : List ℕ). held_below r c.ready.new.grammar.tokens) row) c.list_tokens.ensures

pub returns-clause-sentences : goal.returns-clause-sentences
returns-clause-sentences c =
    let formed = readied_formed _ _ _ _ c.ready.ensures c.in_ok-ready.was in
    let row = row_same _ _ c.args.state (seen c.args.view.now) formed.well_formed in
    (expected_means (puts_list formed (ap (λ (r : List ℕ). held_below r c.ready.new.grammar.tokens) row) c.list_tokens.ensures)).1
