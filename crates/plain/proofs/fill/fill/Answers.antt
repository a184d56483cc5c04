use Rattle.plain.proofs.Keeping.{kept_refl, kept_cleared, kept-room}
use Rattle.plain.proofs.Seeding.{cleared_seeded}
use Rattle.plain.proofs.Lengths.{lengths_start, tokens-narrow, cleared_table}
use Rattle.plain.proofs.fill.fill.Goals as goal

pub seed-requires : goal.seed-requires
seed-requires c =
    let required = c.requires in
    let cleared = cleared_table _ c.stretches_up_to.ensures c.clear.ensures in
    (kept-room required.room (kept_cleared cleared), tokens-narrow required, cleared_seeded _ _ _ cleared)

pub loop-l-init : goal.loop-l-init
loop-l-init c = (kept_refl, lengths_start c.seed.ensures.1)
