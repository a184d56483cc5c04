use Rattle.translation.proofs.Growing.{growth_begins, growth_on, growth_less, grown}
use Rattle.written.proofs.Lists.{each_in}
use Rattle.translation.proofs.grow.grow.Goals as goal

pub loop-init : goal.loop-init
loop-init g c = growth_begins _ _ _ c.told-marks

pub loop-smaller : goal.loop-smaller
loop-smaller g c =
    growth_less _ _ _ c.loop.marks _ _ (λ r i. (each_in c.grow_once.ensures.low i).left) c.loop.invariant c.grow_once.ensures.walked c.loop-test.true

pub loop-preserved : goal.loop-preserved
loop-preserved g c = growth_on _ _ _ c.loop.marks _ _ (λ r i. (each_in c.grow_once.ensures.low i).left) c.loop.invariant c.grow_once.ensures.walked

pub returns : goal.returns
returns g c = grown _ _ _ c.loop.marks _ _ c.loop.invariant c.grow_once.ensures.walked c.loop-test.false
