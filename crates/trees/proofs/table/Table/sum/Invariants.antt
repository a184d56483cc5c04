-- `table::Table::sum` meets its contract: what is weighed so far and what is left give what the whole gives.
use Rattle.std.proofs.Common.{◌-◌, ◌≡◌}
use Rattle.node.specs.Writing.{usable}
use Rattle.trees.specs.inner.Tables.{tabled}
use Rattle.trees.specs.declared.Weight.TheVariants.{Number}
use Rattle.trees.proofs.Tabled.{rest}
use Rattle.trees.proofs.table.Table.sum.Given as goal

abbrev pub invariant-loop-turn : goal.invariant-loop-turn
invariant-loop-turn l =
    rest (tabled l.self) l.s (usable l.store) l.weight (l.count - l.turn) l.at
    ≡ rest (tabled l.self) l.s (usable l.store) (Number 0) l.count l.from
