use Rattle.translation.proofs.Dropping.{holding_begins, holding_on, decides_circular}
use Rattle.translation.proofs.Marked.{some-decided}
use Rattle.translation.proofs.circular.circular.Goals as goal

pub loop-init : goal.loop-init
loop-init c = λ low. holding_begins _ low

pub loop-preserved : goal.loop-preserved
loop-preserved c =
    λ low. holding_on _ low _ c.requires.right c.loop.held _ _ _ c.drop_once.ensures.walked c.drop_once.ensures.dropped (c.loop.invariant low)

pub returns : goal.returns
returns c =
    let low = c.drop_once.ensures.low in
    decides_circular _ low _ c.requires.right c.loop.held _ _ _ _ c.drop_once.ensures.walked c.drop_once.ensures.dropped
    c.loop-test.false (c.loop.invariant low) (some-decided _ _ c.contains.ensures.cases)
