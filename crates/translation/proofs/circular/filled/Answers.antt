-- `translation::circular::filled` meets its contract.
use Rattle.std.proofs.Common.{ℕ, ◌∙◌, rules, tests, not}
use Rattle.std.proofs.lemmas.Iterator.Consumers.{YieldsList-from_first, YieldsList-from_filter, count_from_yields_List}
use Rattle.translation.specs.inner.Marks.{marked}
use Rattle.translation.proofs.Circling.{filled-count}
use Rattle.translation.proofs.circular.filled.Goals as goal

pub returns : goal.returns
returns c =
    count_from_yields_List c.filter.result _ c.count.ensures.ran
    (YieldsList-from_filter _ (λ (x : ℕ). not (marked c.args.empty.now x)) (YieldsList-from_first (λ x. x) (λ s. s) c.args.rule.now.right (c.filter.ensures.source ∙ c.right.ensures.0)) c.filter.ensures.closure (λ x r q k. search (rules, tests)))
    ∙ filled-count (marked c.args.empty.now) c.args.rule.now.right
