-- `grammar::productive::all_productive` meets its contract. The invariants: `Yielding`, that every mark is right, and `Firing`, what a round has marked so far; the number of symbols not marked falls.
use Rattle.grammar.proofs.Rounds.{unmarked}
use Rattle.grammar.proofs.Productivity.{Yielding, Firing}
use Rattle.grammar.proofs.productive.all_productive.Given as goal

abbrev pub invariant-loop-r-2 : goal.invariant-loop-r-2
invariant-loop-r-2 l = Firing l.rules.words l.grammar.symbols l.grammar.tokens l.rules.count l.initial.marks l.marks l.marked l.r

abbrev pub invariant-loop-r : goal.invariant-loop-r
invariant-loop-r l = Yielding l.rules.words l.grammar.symbols l.grammar.tokens l.rules.count l.marks

abbrev pub decreases-loop-r : goal.decreases-loop-r
decreases-loop-r l = unmarked l.marks
