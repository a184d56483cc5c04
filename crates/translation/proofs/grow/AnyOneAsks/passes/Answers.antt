-- `translation::grow::AnyOneAsks::passes` meets its contract.
use Rattle.std.proofs.Common.{refl, rules, tests}
use Rattle.std.proofs.lemmas.Iterator.Consumers.{YieldsList-from_first}
use Rattle.std.proofs.lemmas.Iterator.Search.{any_from_yields_List}
use Rattle.translation.specs.inner.Marks.{marked, asked}
use Rattle.translation.proofs.grow.AnyOneAsks.passes.Goals as goal

pub returns : goal.returns
unfolding asked
returns c = any_from_yields_List (marked c.args.marks.now) _ _ _ c.any.ensures.ran (YieldsList-from_first (λ x. x) (λ s. s) _ refl) (λ x b q k. search (rules, tests))
