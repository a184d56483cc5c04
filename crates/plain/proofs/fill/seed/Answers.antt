use Rattle.plain.proofs.Keeping.{kept-room}
use Rattle.plain.proofs.Seeding.{token-there, seeding_more}
use Rattle.plain.proofs.fill.seed.Goals as goal

pub mark-requires : goal.mark-requires
mark-requires c = token-there (kept-room c.requires.0 c.loop-i.invariant.0) c.requires.1 c.loop-i-test.true c.from.ensures

pub loop-i-preserved : goal.loop-i-preserved
loop-i-preserved c =
    let more = seeding_more c.requires.0 c.requires.1 c.loop-i.invariant.0 c.loop-i.invariant.1 c.loop-i-test.true c.from.ensures c.mark.ensures in
    more
