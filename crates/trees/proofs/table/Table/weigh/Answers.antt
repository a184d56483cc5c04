-- `table::Table::weigh` meets its contract: what is found at a position is weighed.
use Rattle.std.proofs.Common.{sym, ap, ◌∙◌, Some, None}
use Rattle.trees.specs.declared.Head.TheVariants.{SumOf, Leaf}
use Rattle.trees.proofs.Heads.{head_weighs}
use Rattle.trees.proofs.table.Table.weigh.Goals as goal

pub returns-in-Some-SumOf : goal.returns-in-Some-SumOf
returns-in-Some-SumOf c =
    let found = c.in-Some-SumOf in
    ap Some c.sum.ensures ∙ head_weighs _ _ _ (Some (SumOf _ _)) (ap Some (sym found.field-0-is) ∙ sym found.is ∙ c.head.ensures)

pub returns-in-Some-Leaf : goal.returns-in-Some-Leaf
returns-in-Some-Leaf c =
    let found = c.in-Some-Leaf in
    head_weighs _ _ _ (Some (Leaf _)) (ap Some (sym found.field-0-is) ∙ sym found.is ∙ c.head.ensures)

pub returns-in-None : goal.returns-in-None
returns-in-None c = head_weighs _ _ _ None (sym c.in-None.is ∙ c.head.ensures)
