-- `translation::grow::grow_once` meets its contract. The invariant: the rules that are left make of the marks what all make of those at the beginning.
use Rattle.std.proofs.Common.{false}
use Rattle.translation.proofs.Walking.{Come}
use Rattle.translation.specs.inner.Marks.{turn, walk, growing}
use Rattle.written.specs.Form.{written_of}
use Rattle.translation.proofs.grow.grow_once.Given as goal

abbrev pub invariant-loop-rule : goal.invariant-loop-rule
invariant-loop-rule g l =
    Come (growing g.A.Asks.all) (walk (growing g.A.Asks.all) (turn l.initial.marks false) (written_of l.written).rules) l.rule-iterator (turn l.marks l.more)
