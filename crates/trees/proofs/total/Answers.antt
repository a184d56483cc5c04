-- `total` meets its contract: the entry at the handle tells the answer.
use Rattle.std.proofs.Common.{◌≡◌, sym, subst, ◌∙◌, arith, Some}
use Rattle.trees.specs.Answers.{Counts, counted}
use Rattle.trees.specs.inner.Weights.{entry_at}
use Rattle.trees.proofs.Counting.{weight_counts, sum_told}
use Rattle.trees.proofs.total.Goals as goal

pub returns-in-Some : goal.returns-in-Some
returns-in-Some c =
    let a = c.args in
    let here = c.requires in
    let told : entry_at a.store.now a.handle ≡ Some _ =
    sym (c.fill.ensures.tells a.handle (omega arith)) ∙ sym c.entry.ensures ∙ c.in-Some.is in
    subst (λ r. Counts a.store.now a.handle (counted r)) (sym c.answer.ensures)
    (weight_counts a.store.now a.handle here.products _ here.is told)

pub returns-in-None : goal.returns-in-None
returns-in-None c =
    let a = c.args in
    let here = c.requires in
    absurd (sum_told a.store.now a.handle here.products here.is
    (sym (c.fill.ensures.tells a.handle (omega arith)) ∙ sym c.entry.ensures ∙ c.in-None.is))
