-- `count` meets its contract: a handle at no Sum is the fault itself.
use Rattle.std.proofs.Common.{sym, ap, ◌∙◌, Some}
use Rattle.trees.proofs.Heads.{head-sum, sums, no_sum}
use Rattle.trees.proofs.Counting.{no_sum-counts}
use Rattle.trees.proofs.count.Goals as goal

pub total-requires : goal.total-requires
total-requires c =
    let found = c.in-Some-SumOf in head-sum _ _ _ _ (ap Some (sym found.field-0-is) ∙ sym found.is ∙ c.head.ensures)

pub returns-in-Some-Leaf : goal.returns-in-Some-Leaf
returns-in-Some-Leaf c =
    let found = c.in-Some-Leaf in
    no_sum-counts _ _ (λ ps. no_sum _ _ ps (ap sums (sym c.head.ensures ∙ found.is ∙ ap Some found.field-0-is)))

pub returns-in-None : goal.returns-in-None
returns-in-None c = no_sum-counts _ _ (λ ps. no_sum _ _ ps (ap sums (sym c.head.ensures ∙ c.in-None.is)))
