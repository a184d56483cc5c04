use Rattle.trees.proofs.Tabled.{filled-more}
use Rattle.trees.proofs.table.Table.fill.Goals as goal

pub loop-p-preserved : goal.loop-p-preserved
loop-p-preserved c = filled-more _ c.loop-p.invariant c.weigh-entry.ensures c.put.ensures.made c.put.ensures.others
