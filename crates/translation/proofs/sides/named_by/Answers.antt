use Rattle.translation.proofs.Siding.{naming_begins, naming_two, naming_gone, naming_marks, naming_ends}
use Rattle.translation.proofs.sides.named_by.Goals as goal
use Rattle.translation.proofs.sides.named_by.Goals.{then-second-eq-NONE+then-is_marked, else-second-eq-NONE, else-second-eq-NONE-via-then-second-eq-NONE+else-is_marked, else-second-eq-NONE-via-else-second-eq-NONE}

pub loop-r-init : goal.loop-r-init
loop-r-init c = naming_begins _ _ _

pub loop-r-preserved : goal.loop-r-preserved
loop-r-preserved c =
    let looped = c.loop-r in
    elim c.if-second-eq-NONE.branch [
      | then-second-eq-NONE+then-is_marked w ↦ rw w.named-is
          (naming_marks _ _ _ _ looped.r looped.invariant c.loop-r-test.true c.second.result w.left.result w.first.result c.second.ensures.0 w.if-second-eq-NONE.true
          w.left.ensures.0 w.is_marked.ensures w.if-is_marked.true w.first.ensures.0 w.mark.ensures)
      | else-second-eq-NONE w ↦ rw w.named-is
          (elim w.else-second-eq-NONE.branch [
            | else-second-eq-NONE-via-then-second-eq-NONE+else-is_marked v ↦
                naming_gone _ _ _ _ looped.r looped.invariant c.loop-r-test.true v.left.result v.left.ensures.0 v.is_marked.ensures v.if-is_marked.false
            | else-second-eq-NONE-via-else-second-eq-NONE v ↦
                naming_two _ _ _ _ looped.r looped.invariant c.loop-r-test.true c.second.result c.second.ensures.0 v.if-second-eq-NONE.false
          ])
    ]

pub returns : goal.returns
returns c = naming_ends _ _ _ _ c.loop-r.r c.loop-r.invariant c.loop-r-test.false
