-- `translation::sides::named_by` meets its contract. The invariant: the rules so far have marked what they name, and the others name the rest.
use Rattle.translation.proofs.Siding.{Naming}
use Rattle.translation.proofs.sides.named_by.Given as goal

abbrev pub invariant-loop-r : goal.invariant-loop-r
invariant-loop-r l = Naming l.rules.words l.rules.count l.left l.named l.r
