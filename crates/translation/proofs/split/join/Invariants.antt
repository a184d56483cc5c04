-- `translation::split::join` meets its contract. The invariant: the rules listed so far and those of the places to come are all.
use Rattle.grammar.specs.inner.Decoded.{rules_of}
use Rattle.written.specs.Translation.{number}
use Rattle.translation.specs.inner.Marks.{marked}
use Rattle.translation.proofs.Joining.{Joining}
use Rattle.translation.proofs.split.join.Given as goal

abbrev pub invariant-loop-i : goal.invariant-loop-i
invariant-loop-i l =
    Joining (number (marked l.tests.keep.now)) (marked l.tests.empty.now) l.a l.held l.from (rules_of l.initial.list.rules) (rules_of l.list.rules) l.head l.head_empty l.fresh l.i
