-- `translation::circular::drop_others` meets its contract. The invariant: what was dropped and kept among the symbols so far.
use Rattle.translation.proofs.Dropping.{Dropping}
use Rattle.translation.specs.inner.Marks.{most_symbols}
use Rattle.std.proofs.Common.{◌-◌}
use Rattle.translation.proofs.circular.drop_others.Given as goal

abbrev pub invariant-loop-a : goal.invariant-loop-a
invariant-loop-a l = Dropping l.initial.held l.led l.held l.some l.a

abbrev pub decreases-loop-a : goal.decreases-loop-a
decreases-loop-a l = most_symbols - l.a
