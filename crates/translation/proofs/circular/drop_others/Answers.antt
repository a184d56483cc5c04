use Rattle.std.proofs.Common.{arith}
use Rattle.translation.proofs.Dropping.{pass_led, pass_unheld, drops}
use Rattle.translation.proofs.circular.drop_others.Goals as goal
use Rattle.translation.proofs.circular.drop_others.Goals.{then-held-a+then-not-led-a, else-held-a, else-held-a-via-then-held-a+else-not-led-a, else-held-a-via-else-held-a}

pub loop-a-preserved : goal.loop-a-preserved
loop-a-preserved c =
    elim c.if-held-a.branch [
      | then-held-a+then-not-led-a w ↦ rw (w.held-is, w.some-is) (drops _ _ _ _ _ c.loop-a.invariant (omega arith) w.if-not-led-a.true w.if-held-a.true)
      | else-held-a w ↦ rw (w.held-is, w.some-is)
          (elim w.else-held-a.branch [
            | else-held-a-via-then-held-a+else-not-led-a v ↦ pass_led _ _ _ _ _ c.loop-a.invariant (omega arith) v.if-not-led-a.false
            | else-held-a-via-else-held-a v ↦ pass_unheld _ _ _ _ _ c.loop-a.invariant (omega arith) v.if-held-a.false
          ])
    ]
