-- `translation::reach::mark_all` meets its contract. The invariant: the symbols that are left make of the marks what all make of those at the beginning.
use Rattle.translation.proofs.Reaching.{MarkingTo}
use Rattle.translation.specs.inner.Marks.{turn, marking}
use Rattle.translation.proofs.reach.mark_all.Given as goal

abbrev pub invariant-loop-x : goal.invariant-loop-x
invariant-loop-x l = MarkingTo (marking (turn l.initial.marks l.before) l.rule.right) l.x-iterator (turn l.marks l.more)
