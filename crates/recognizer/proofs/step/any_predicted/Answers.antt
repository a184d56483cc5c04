-- `recognizer::step::any_predicted` meets its contract.
use Rattle.std.proofs.Common.{◌∙◌, ◌<◌, rules, tests, of_calls, arith}
use Rattle.std.proofs.lemmas.Grind.{get_or_default_zero}
use Rattle.std.proofs.lemmas.Iterator.{YieldsList-from_slice}
use Rattle.std.proofs.lemmas.Iterator.Adapters.{serves_from_places}
use Rattle.std.proofs.lemmas.Iterator.Search.{any_from_yields_List}
use Rattle.completion.specs.Complete.{predicted}
use Rattle.recognizer.proofs.Looking.{any_listed}
use Rattle.recognizer.proofs.step.any_predicted.Goals as goal

pub any-requires-clause-callable : goal.any-requires-clause-callable
any-requires-clause-callable c =
    let row = c.requires.0.row in
    serves_from_places (YieldsList-from_slice c.args.kinds.now cc) (λ x q k. search (rules, of_calls))
    (λ x k low is.
    let fits : x.now < 512 = omega (arith, is, get_or_default_zero c.args.kinds.now k x.now low, c.requires.1.each k low) in
    search (rules, of_calls, arith))

pub returns : goal.returns
returns c =
    any_from_yields_List (predicted c.args.rows.now c.args.e) _ _ _ c.any.ensures.ran (YieldsList-from_slice c.args.kinds.now cc) (λ x b q k. search (rules, tests))
    ∙ any_listed c.args.rows.now c.args.e c.args.kinds.now
