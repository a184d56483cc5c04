-- `parse::padding::is_spare` meets its contract. The loop's invariant: every word passed is spare.
use Prim.Native.Nat.{◌-◌}
use lib.ListN.{length}
use Rattle.parse.proofs.Clearing.{IsSpare}
use Rattle.parse.proofs.Passing.{Passed}
use Rattle.parse.proofs.padding.is_spare.Given as goal

abbrev pub invariant-loop-i : goal.invariant-loop-i
invariant-loop-i g l = Passed (IsSpare g.W.Word.SPARE l.words) l.from l.i

abbrev pub decreases-loop-i : goal.decreases-loop-i
decreases-loop-i g l = length l.words - l.i
