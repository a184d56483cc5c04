use Rattle.std.proofs.Common.{arith, refl}
use Rattle.translation.proofs.Siding.{levels_begin, levels_room, levels_on, levels_end}
use Rattle.translation.proofs.write.put_levels.Goals as goal

pub loop-round-init : goal.loop-round-init
loop-round-init c = levels_begin _ _ _ _ _ _ _ _ _ c.requires.1 (omega arith) c.mark_within.ensures refl c.requires.3

pub put_level-here-requires : goal.put_level-here-requires
put_level-here-requires c = (
  c.requires.0,
  levels_room _ _ _ _ _ _ _ _ c.loop-round.left c.loop-round.here _ c.loop-round.invariant (omega arith) c.requires.2 _ c.named_by-named.ensures,
)

pub loop-round-preserved : goal.loop-round-preserved
loop-round-preserved c =
    levels_on _ _ _ _ _ _ _ _ c.loop-round.left c.loop-round.here _ c.loop-round.invariant (omega arith) c.requires.2 _ c.named_by-named.ensures (omega arith) c.put_level-here.ensures c.keep_named.ensures

pub returns : goal.returns
returns c = levels_end _ _ _ _ _ _ _ _ c.loop-round.left c.loop-round.here _ c.loop-round.invariant (omega arith)
