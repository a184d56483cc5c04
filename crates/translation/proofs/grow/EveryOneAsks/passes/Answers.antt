-- `translation::grow::EveryOneAsks::passes` meets its contract.
use Rattle.std.proofs.Common.{refl, rules, tests}
use Rattle.std.proofs.lemmas.Iterator.Consumers.{YieldsList-from_first}
use Rattle.std.proofs.lemmas.Iterator.Search.{all_from_yields_List}
use Rattle.translation.specs.inner.Marks.{marked, asked}
use Rattle.translation.proofs.grow.EveryOneAsks.passes.Goals as goal

pub returns : goal.returns
unfolding asked
returns c = all_from_yields_List (marked c.args.marks.now) _ _ _ c.all.ensures.ran (YieldsList-from_first (λ x. x) (λ s. s) _ refl) (λ x b q k. search (rules, tests))
