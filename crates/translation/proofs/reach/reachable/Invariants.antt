-- `translation::reach::reachable` meets its contract. The invariant: the marks are right so far; fewer are unmarked after each walk that marked something.
use Rattle.translation.proofs.Reaching.{Reach}
use Rattle.written.specs.Form.{written_of}
use Rattle.grammar.proofs.Rounds.{unmarked}
use Rattle.translation.proofs.reach.reachable.Given as goal

abbrev pub invariant-loop : goal.invariant-loop
invariant-loop l = Reach (written_of l.written) l.marks

abbrev pub decreases-loop : goal.decreases-loop
decreases-loop l = unmarked l.marks
