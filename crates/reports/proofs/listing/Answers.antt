-- `reports::listing` meets its contract.
use mathlib.Core.Path.{refl}
use Rattle.std.proofs.lemmas.Result.{err_from_is_err_and}
use Rattle.laws.specs.Fills.{Fills}
use Rattle.parse.specs.Words.{seen}
use Rattle.recognizer.proofs.Readying.{readied_fault, readied_for, readied_formed}
use Rattle.reports.specs.Lists.{line}
use Rattle.reports.proofs.Latest.{rules_listable}
use Rattle.reports.proofs.Telling.{puts_items}
use Rattle.reports.proofs.listing.Goals as goal

pub returns-in_err-ready : goal.returns-in_err-ready
returns-in_err-ready c =
    let p = err_from_is_err_and c.from_residual.result c.from_residual.ensures.1 in
    record { calls = rw (p.1, p.2) (Fills.refused (readied_fault _ _ _ _ c.ready.ensures c.in_err-ready.was)) }

pub list_text-requires : goal.list_text-requires
list_text-requires c = rules_listable c.args.state (seen c.args.view.now) (readied_for _ _ _ _ c.ready.ensures c.in_ok-ready.was) refl

pub returns : goal.returns
returns c = record { calls = puts_items line (readied_formed _ _ _ _ c.ready.ensures c.in_ok-ready.was) refl c.list_text.ensures }
