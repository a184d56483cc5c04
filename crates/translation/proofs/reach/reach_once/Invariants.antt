-- `translation::reach::reach_once` meets its contract. The invariant: the rules that are left make of the marks what all make of those at the beginning.
use Rattle.std.proofs.Common.{false}
use Rattle.translation.proofs.Walking.{Come}
use Rattle.translation.specs.inner.Marks.{turn, walk, reaching}
use Rattle.written.specs.Form.{written_of}
use Rattle.translation.proofs.reach.reach_once.Given as goal

abbrev pub invariant-loop-rule : goal.invariant-loop-rule
invariant-loop-rule l = Come reaching (walk reaching (turn l.initial.marks false) (written_of l.written).rules) l.rule-iterator (turn l.marks l.more)
