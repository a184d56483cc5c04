use Rattle.reports.proofs.Lines.{putting_room, putting_next, putting_ends, listed_at}
use Rattle.reports.proofs.text.put_lines.Goals as goal

pub put_line-at-requires : goal.put_line-at-requires
put_line-at-requires c =
    let required = c.requires in
    let looped = c.loop-p in
    let entered = c.loop-p-test in (
      listed_at required.0 _ looped.invariant.done.above entered.true,
      putting_room _ _ _ _ _ _ _ _ _ looped.invariant entered.true required.1,
    )

pub loop-p-preserved : goal.loop-p-preserved
loop-p-preserved c =
    let looped = c.loop-p in
    let entered = c.loop-p-test in
    putting_next _ _ _ _ _ _ _ _ _ looped.invariant entered.true _ _ c.put_line-at.ensures

pub returns : goal.returns
returns c = putting_ends _ _ _ _ _ _ _ _ _ c.loop-p.invariant c.loop-p-test.false
