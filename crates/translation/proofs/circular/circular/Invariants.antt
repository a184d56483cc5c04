-- `translation::circular::circular` meets its contract. The invariant: who leads to itself is held; fewer are held after each round that dropped one.
use Rattle.written.specs.Lists.{Each}
use Rattle.translation.specs.inner.Symbols.{LowRule}
use Rattle.translation.proofs.Dropping.{Holding}
use Rattle.translation.specs.inner.Circles.{held_in}
use Rattle.written.specs.Form.{written_of}
use Rattle.translation.proofs.circular.circular.Given as goal

abbrev pub invariant-loop : goal.invariant-loop
invariant-loop l = Each LowRule (written_of l.written).rules → Holding (written_of l.written) l.held

abbrev pub decreases-loop : goal.decreases-loop
decreases-loop l = held_in l.held
