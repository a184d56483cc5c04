-- `compare::beginnings::compare` meets its contract. The invariant: the engines agree on all beginnings so far.
use Rattle.recognizer.specs.Answers.{stop_number}
use Rattle.compare.proofs.Comparing.{SoFar}
use Rattle.compare.proofs.beginnings.compare.Given as goal

abbrev pub invariant-loop-agreed : goal.invariant-loop-agreed
invariant-loop-agreed l = SoFar l.file l.tokens l.agreed (stop_number l.stopped)
