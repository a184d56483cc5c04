-- `translation::places::places` meets its contract. The invariant: the places read so far and those to come are all.
use Rattle.translation.proofs.Placing.{Placing}
use Rattle.translation.specs.inner.Marks.{marked}
use Rattle.written.specs.Translation.{places}
use Rattle.translation.proofs.places.places.Given as goal

abbrev pub invariant-loop-x : goal.invariant-loop-x
invariant-loop-x l = Placing (marked l.keep) (places (marked l.keep) l.rule.right) l.x-iterator l.room l.k
