-- `table::Table::fill` meets its contract: the table tells the entries so far.
use Rattle.trees.specs.inner.Tables.{Filled}
use Rattle.trees.proofs.table.Table.fill.Given as goal

abbrev pub invariant-loop-p : goal.invariant-loop-p
invariant-loop-p l = Filled l.store l.p l.self
