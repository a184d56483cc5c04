-- `translation::grow::grow` meets its contract. The invariant: the marks are right so far; fewer are unmarked after each walk that marked something.
use Rattle.translation.proofs.Growing.{Growth}
use Rattle.written.specs.Form.{written_of}
use Rattle.grammar.proofs.Rounds.{unmarked}
use Rattle.translation.proofs.grow.grow.Given as goal

abbrev pub invariant-loop : goal.invariant-loop
invariant-loop g l = Growth g.A.Asks.all (written_of l.written) l.initial.marks l.marks

abbrev pub decreases-loop : goal.decreases-loop
decreases-loop g l = unmarked l.marks
