-- `translation::places::count_new` meets its contract. The invariant: the new symbols counted so far and those to come are all.
use Rattle.translation.proofs.Placing.{Counted}
use Rattle.translation.specs.inner.Marks.{marked}
use Rattle.written.specs.Form.{written_of}
use Rattle.translation.proofs.places.count_new.Given as goal

abbrev pub invariant-loop-rule : goal.invariant-loop-rule
invariant-loop-rule l = Counted (marked l.keep) (written_of l.written).rules l.rule-iterator l.total
