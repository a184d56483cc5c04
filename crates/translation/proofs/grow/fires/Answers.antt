-- `translation::grow::fires` meets its contract.
use Rattle.std.proofs.Common.{ap, ◌∙◌}
use Rattle.translation.specs.inner.Marks.{marked, asked}
use Rattle.translation.proofs.Growing.{firing_not, firing-passes}
use Rattle.translation.proofs.grow.fires.Goals as goal

pub returns-then-not-marks-left : goal.returns-then-not-marks-left
returns-then-not-marks-left g c =
    firing-passes g.A.Asks.all _ _ c.left.ensures c.if-not-marks-left.true (c.passes.ensures ∙ ap (asked g.A.Asks.all (marked c.args.marks.now)) c.right.ensures.0)

pub returns-else-not-marks-left : goal.returns-else-not-marks-left
returns-else-not-marks-left g c = firing_not g.A.Asks.all _ _ c.left.ensures c.if-not-marks-left.false
