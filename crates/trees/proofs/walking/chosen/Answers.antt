-- `walking::chosen` meets its contract: at a Sum a Product is chosen, at a leaf its symbol.
use Rattle.std.proofs.Common.{sym, ap, ◌∙◌, Some}
use Rattle.trees.proofs.Choices.{choosing_sum, leaf_picks, neither_walks}
use Rattle.trees.proofs.walking.chosen.Goals as goal

pub choose-requires : goal.choose-requires
choose-requires c =
    let found = c.in-Some-SumOf in choosing_sum c.requires (ap Some (sym found.field-0-is) ∙ sym found.is ∙ c.head.ensures)

pub returns-in-Some-Leaf : goal.returns-in-Some-Leaf
returns-in-Some-Leaf c =
    let found = c.in-Some-Leaf in leaf_picks (ap Some (sym found.field-0-is) ∙ sym found.is ∙ c.head.ensures)

pub returns-in-None : goal.returns-in-None
returns-in-None c = absurd (neither_walks c.requires (sym c.in-None.is ∙ c.head.ensures))
