use Rattle.translation.proofs.Siding.{level_gone, level_named, level_room, level_on, level_ends}
use Rattle.translation.proofs.write.put_level.Goals as goal
use Rattle.translation.proofs.write.put_level.Goals.{then-is_marked+then-not-is_marked, else-is_marked, else-is_marked-via-then-is_marked+else-not-is_marked, else-is_marked-via-else-is_marked}

pub put_rules_of-here-requires : goal.put_rules_of-here-requires
put_rules_of-here-requires c = (
  c.requires.0,
  level_room _ _ _ _ _ _ _ _ c.loop-a.here c.loop-a.a c.loop-a.invariant c.loop-a-test.true c.is_marked.ensures c.if-is_marked.true c.is_marked-then-is_marked.ensures c.if-not-is_marked.true,
)

pub loop-a-preserved : goal.loop-a-preserved
loop-a-preserved c =
    let looped = c.loop-a in
    elim c.if-is_marked.branch [
      | then-is_marked+then-not-is_marked w ↦ rw (w.file-is, w.here-is)
          (level_on _ _ _ _ _ _ _ _ looped.here looped.a looped.invariant c.loop-a-test.true c.is_marked.ensures w.if-is_marked.true w.is_marked-then-is_marked.ensures w.if-not-is_marked.true w.put_rules_of-here.ensures)
      | else-is_marked w ↦ rw (w.file-is, w.here-is)
          (elim w.else-is_marked.branch [
            | else-is_marked-via-then-is_marked+else-not-is_marked v ↦
                level_named _ _ _ _ _ _ _ _ looped.here looped.a looped.invariant c.loop-a-test.true c.is_marked.ensures v.if-is_marked.true v.is_marked-then-is_marked.ensures v.if-not-is_marked.false
            | else-is_marked-via-else-is_marked v ↦ level_gone _ _ _ _ _ _ _ _ looped.here looped.a looped.invariant c.loop-a-test.true c.is_marked.ensures v.if-is_marked.false
          ])
    ]

pub returns : goal.returns
returns c = level_ends _ _ _ _ _ _ _ _ c.loop-a.here c.loop-a.a c.loop-a.invariant c.loop-a-test.false
