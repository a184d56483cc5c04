-- `telling::by_weight` meets its contract, weight by weight.
use Rattle.std.proofs.Common.{arith}
use Rattle.trees.proofs.Answering.{tells-fault, tells_none, number_walks, many_walks}
use Rattle.trees.proofs.telling.by_weight.Goals as goal

pub returns-then-trees-k : goal.returns-then-trees-k
returns-then-trees-k c =
    let required = c.requires in tells_none required.0 required.1.0 c.in-Number.is c.if-trees-k.true

pub write-requires : goal.write-requires
write-requires c =
    let required = c.requires in number_walks required.0 required.1.0 required.1.1 c.in-Number.is c.if-trees-k.false

pub write-requires-in-Many : goal.write-requires-in-Many
write-requires-in-Many c =
    let required = c.requires in many_walks required.0 required.1.0 required.1.1 c.in-Many.is (omega arith)

pub returns-in-Fault : goal.returns-in-Fault
returns-in-Fault c =
    let required = c.requires in tells-fault required.0 required.1.0 c.in-Fault.is
