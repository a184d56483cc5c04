use Rattle.reports.proofs.Latest.{writing_starts, writing_next}
use Rattle.reports.proofs.words.write_items.Goals as goal

pub loop-p-init : goal.loop-p-init
loop-p-init c = writing_starts _ _ _ _ _ c.requires.0.stored.runs

pub loop-p-preserved : goal.loop-p-preserved
loop-p-preserved c =
    let looped = c.loop-p in
    writing_next _ _ _ _ _ _ _ _ c.loop-p-test.true looped.invariant c.put_item.ensures
