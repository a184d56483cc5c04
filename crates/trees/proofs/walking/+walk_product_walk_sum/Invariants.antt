-- `walking::walk_sum` and `walking::walk_product`, which call each other, meet their contracts. The Sum's handle falls.
use Rattle.std.proofs.Common.{◌+◌, ◌*◌}
use Rattle.trees.specs.inner.Walks.{front_end}
use Rattle.trees.proofs.Laying.{Walking}
use Rattle.trees.proofs.walking.+walk_product_walk_sum.Given as goal

abbrev pub decreases-walk_product : goal.decreases-walk_product
decreases-walk_product l = 2 * front_end l.front

abbrev pub decreases-walk_sum : goal.decreases-walk_sum
decreases-walk_sum l = 2 * l.h + 1

abbrev pub invariant-walk_sum-loop-next : goal.invariant-walk_sum-loop-next
invariant-walk_sum-loop-next l = Walking l.walk.store.now l.walk.table.now l.h l.k l.initial.out l.at l.limit l.out l.from l.number l.next

abbrev pub decreases-walk_sum-loop-next : goal.decreases-walk_sum-loop-next
decreases-walk_sum-loop-next l = l.from
