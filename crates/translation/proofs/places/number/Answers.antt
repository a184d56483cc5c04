-- `translation::places::number` meets its contract.
use Rattle.std.proofs.Common.{Bool, ◌∙◌, take, rules, tests, arith}
use Rattle.std.proofs.lemmas.Iterator.{YieldsList-from_slice}
use Rattle.std.proofs.lemmas.Iterator.Consumers.{YieldsList-from_filter, count_from_yields_List}
use Rattle.translation.proofs.Placing.{kept-count}
use Rattle.written.proofs.Numbers.{number-few}
use Rattle.translation.specs.inner.Marks.{marked}
use Rattle.translation.proofs.places.number.Goals as goal

pub returns : goal.returns
returns c =
    let count = count_from_yields_List c.filter.result _ c.count.ensures.ran (YieldsList-from_filter _ (λ (b : Bool). b) (YieldsList-from_slice (take c.args.x c.args.keep.now) cc) c.filter.ensures.closure (λ x r q k. search (rules, tests))) in
    let kept = kept-count c.args.keep.now c.args.x (omega arith) in
    (count ∙ kept, let few = number-few (marked c.args.keep.now) c.args.x in omega arith)
