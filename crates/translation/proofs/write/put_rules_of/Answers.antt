use Rattle.std.proofs.Common.{arith}
use Rattle.translation.proofs.Siding.{side_other, side_room, side_on, side_ends}
use Rattle.translation.proofs.Putting.{puts_rule}
use Rattle.translation.proofs.write.put_rules_of.Goals as goal
use Rattle.translation.proofs.write.put_rules_of.Goals.{then-left-a, else-left-a}

pub put_rule-requires : goal.put_rule-requires
put_rule-requires c = (
  side_room _ _ _ _ _ _ c.loop-r.here c.loop-r.r c.left.result c.first.result c.second.result c.loop-r.invariant c.loop-r-test.true c.left.ensures.0 c.if-left-a.true c.first.ensures.0 c.second.ensures.0,
  omega (arith, c.left.ensures.1, c.if-left-a.true),
  c.first.ensures.1,
  c.second.ensures.1,
)

pub loop-r-preserved : goal.loop-r-preserved
loop-r-preserved c =
    let looped = c.loop-r in
    elim c.if-left-a.branch [
      | then-left-a w ↦ rw (w.file-is, w.here-is)
          (side_on _ _ _ _ _ _ looped.here looped.r c.left.result w.first.result w.second.result looped.invariant c.loop-r-test.true c.left.ensures.0 w.if-left-a.true w.first.ensures.0 w.second.ensures.0
          (puts_rule _ _ _ _ _ _ w.put_rule.ensures))
      | else-left-a w ↦ rw (w.file-is, w.here-is) (side_other _ _ _ _ _ _ looped.here looped.r c.left.result looped.invariant c.loop-r-test.true c.left.ensures.0 w.if-left-a.false)
    ]

pub returns : goal.returns
returns c = side_ends _ _ _ _ _ _ c.loop-r.here c.loop-r.r c.loop-r.invariant c.loop-r-test.false
