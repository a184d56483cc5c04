-- `reading::fillers` meets its contract, by the library's word for it.
use Rattle.std.proofs.Common.{sym, ◌∙◌, rules, tests, eqb}
use Rattle.std.proofs.lemmas.Iterator.{YieldsList-from_slice}
use Rattle.std.proofs.lemmas.Iterator.Search.{YieldsList-from_take_while}
use Rattle.std.proofs.lemmas.Iterator.Consumers.{count_from_yields_List}
use Rattle.std.proofs.lemmas.List.Folds.{length-prefix_len}
use Rattle.node.specs.Reading.{filler}
use Rattle.node.proofs.Fillers.{fillers_are}
use Rattle.node.proofs.reading.fillers.Goals as goal

pub returns : goal.returns
returns c =
    count_from_yields_List c.take_while.result _ c.count.ensures.ran
    (YieldsList-from_take_while _ (λ u. eqb u filler) (YieldsList-from_slice c.args.units.now cc) c.take_while.ensures.closure
    c.take_while.ensures.done (λ x b q k. search (rules, tests)))
    ∙ length-prefix_len (λ u. eqb u filler) c.args.units.now ∙ sym (fillers_are c.args.units.now)
