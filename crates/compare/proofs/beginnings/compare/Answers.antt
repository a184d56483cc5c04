use Rattle.std.proofs.Common.{arith}
use Rattle.compare.specs.Compares.{Compares}
use Rattle.compare.proofs.Comparing.{so_far_more, on_all, parts_next}
use Rattle.compare.proofs.beginnings.compare.Goals as goal
use Rattle.compare.proofs.beginnings.compare.Goals.{else-loop-agreed-test, then-loop-agreed-test+else-no_room+else-main-plain_says+else-agreed-agreed-end}

pub returns-then-no_room : goal.returns-then-no_room
returns-then-no_room c = Compares.no_room c.loop-agreed.invariant.below c.loop-agreed-test.true c.main_says-main.ensures (c.no_room.ensures.if_yes c.if-no_room.true)

pub returns-then-main-plain_says : goal.returns-then-main-plain_says
returns-then-main-plain_says c =
    parts_next c.loop-agreed.invariant c.loop-agreed-test.true c.main_says-main.ensures (c.no_room.ensures.if_no c.if-no_room.false) c.plain_says.ensures
    c.if-main-plain_says.true c.part.ensures

pub loop-agreed-preserved : goal.loop-agreed-preserved
loop-agreed-preserved c =
    so_far_more c.loop-agreed.invariant c.loop-agreed-test.true c.main_says-main.ensures (c.no_room.ensures.if_no c.if-no_room.false) c.plain_says.ensures
    c.if-main-plain_says.false

pub returns : goal.returns
returns c =
    elim c.loop-agreed-test.branch [
      | else-loop-agreed-test w ↦ absurd (omega arith)
      | then-loop-agreed-test+else-no_room+else-main-plain_says+else-agreed-agreed-end w ↦
          rw w.stopped-is (on_all (so_far_more c.loop-agreed.invariant w.loop-agreed-test.true w.main_says-main.ensures (w.no_room.ensures.if_no w.if-no_room.false) w.plain_says.ensures w.if-main-plain_says.false) (omega arith))
    ]
