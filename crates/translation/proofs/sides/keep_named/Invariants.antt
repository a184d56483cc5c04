-- `translation::sides::keep_named` meets its contract. The invariant: of the symbols so far the named are kept, and the others are as they were.
use Rattle.translation.proofs.Siding.{Keeping}
use Rattle.translation.proofs.sides.keep_named.Given as goal

abbrev pub invariant-loop-a : goal.invariant-loop-a
invariant-loop-a l = Keeping l.initial.left l.named l.left l.a
