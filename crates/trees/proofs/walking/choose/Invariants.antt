-- `walking::choose` meets its contract: the Products that do not have the tree are passed over.
use Rattle.std.proofs.Common.{◌-◌}
use Rattle.node.specs.Writing.{usable}
use Rattle.forest.specs.Stores.{products_at}
use Rattle.trees.proofs.Choices.{Passing}
use Rattle.trees.proofs.walking.choose.Given as goal

abbrev pub invariant-loop-turn : goal.invariant-loop-turn
invariant-loop-turn l =
    Passing l.store l.s l.k l.rest (products_at l.count (usable l.store) l.from) (products_at (l.count - l.turn) (usable l.store) l.at)
