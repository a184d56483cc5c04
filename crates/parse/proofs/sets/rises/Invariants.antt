-- `sets::rises` meets its contract. The loop's invariant: every item passed stands before the next.
use Prim.Native.Nat.{◌-◌}
use Rattle.parse.proofs.Fitting.{Before}
use Rattle.parse.proofs.Passing.{Passed}
use Rattle.parse.proofs.sets.rises.Given as goal

abbrev pub invariant-loop-p : goal.invariant-loop-p
invariant-loop-p l = Passed (Before l.rules.words l.items l.from l.to) l.from l.p

abbrev pub decreases-loop-p : goal.decreases-loop-p
decreases-loop-p l = l.to - 1 - l.p
