-- `table::Table::product` meets its contract: one factor, or both.
use Rattle.trees.proofs.Tabled.{alone_weighs, paired_weighs}
use Rattle.trees.proofs.table.Table.product.Goals as goal

pub returns-in-None : goal.returns-in-None
returns-in-None c = alone_weighs _ _ _ _ _ c.in-None.is c.factor-first.ensures

pub returns-in-Some : goal.returns-in-Some
returns-in-Some c = paired_weighs _ _ _ _ _ _ _ _ c.in-Some.is c.factor-first.ensures c.factor.ensures c.times.ensures
