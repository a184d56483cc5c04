-- `advance::prune::move_items` meets its contract.
use Rattle.std.proofs.Common.{arith}
use Rattle.advance.proofs.Pruning.{moved_ends}
use Rattle.advance.proofs.prune.move_items.Goals as goal

pub returns : goal.returns
returns c =
    let required = c.requires in
    let copied = c.copy_within.ensures in
    moved_ends _ _ _ _ required.0 required.1 required.2 (omega arith) _ copied.len copied.by_index.0 copied.by_index.1 copied.by_index.2 c.clear.ensures
