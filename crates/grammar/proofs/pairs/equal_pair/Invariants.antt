-- `grammar::pairs::equal_pair` meets its contract. The invariants: no pair of lower rules is equal, and none of the rules passed equals this one.
use Rattle.grammar.proofs.Asked.{PairsPassed, RowPassed}
use Rattle.grammar.proofs.pairs.equal_pair.Given as goal

abbrev pub invariant-loop-q : goal.invariant-loop-q
invariant-loop-q l = RowPassed l.rules.words l.r l.q

abbrev pub invariant-loop-r : goal.invariant-loop-r
invariant-loop-r l = PairsPassed l.rules.words l.r
