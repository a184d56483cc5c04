-- The invariant, `Counting`: the entries before `pos` are counted, and their children stand before `end`.
use Rattle.binary_heap.specs.Entry.{entries_in}
use Rattle.completion.specs.Lent.{its_rules}
use Rattle.completion.proofs.Counting.{is_summand, Counting}
use Rattle.completion.proofs.pass.Pass.summands.Given as goal

abbrev pub invariant-loop-pos : goal.invariant-loop-pos
invariant-loop-pos l =
    Counting (is_summand (its_rules l.self) l.pair.set l.pair.symbol l.self.items.now) (entries_in l.self.queue.now) l.self.queued l.number l.end l.pos
