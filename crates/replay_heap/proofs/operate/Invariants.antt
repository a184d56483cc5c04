-- The queue's entries stay places of the items.
use Rattle.binary_heap.specs.Entry.{entries_in}
use Rattle.binary_heap.specs.Queue.{Places}
use Rattle.replay_heap.proofs.operate.Given as goal

abbrev pub invariant-loop : goal.invariant-loop
invariant-loop l = Places l.items (entries_in l.queue) l.r.entries
