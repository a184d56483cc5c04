-- `advance::prune::remove_unreachable_sets` meets its contract.
use Rattle.std.proofs.Common.{refl}
use Rattle.advance.proofs.Pruning.{all-kept, base_below, sets_dropped}
use Rattle.advance.proofs.prune.remove_unreachable_sets.Goals as goal

pub returns-then-e-m-le1 : goal.returns-then-e-m-le1
returns-then-e-m-le1 c = all-kept _ _ _ _ _ _ _ c.requires c.if-e-m-le1.true

pub move_items-requires : goal.move_items-requires
move_items-requires c =
    let required = c.requires in (
      base_below _ _ _ _ _ _ _ required c.if-e-m-le1.false refl,
      required.runs,
      required.there,
      required.spare_items,
    )

pub returns : goal.returns
returns c =
    let required = c.requires in
    let drop-tested = c.if-e-m-le1 in
    let items-moved = c.move_items in
    let starts-cleared = c.clear in
    sets_dropped _ _ _ _ _ _ _ required drop-tested.false refl items-moved.ensures
    starts-cleared.ensures c.clear-2.ensures
