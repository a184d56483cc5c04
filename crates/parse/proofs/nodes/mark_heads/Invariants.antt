-- `nodes::mark_heads` meets its contract. The loop's invariant: what was met is marked, and what is left to read is left to mark.
use Prim.Native.Nat.{◌-◌}
use lib.ListN.{length}
use Rattle.parse.proofs.Marking.{Marking}
use Rattle.parse.proofs.nodes.mark_heads.Given as goal

abbrev pub invariant-loop-at : goal.invariant-loop-at
invariant-loop-at l = Marking l.units l.at l.heads

abbrev pub decreases-loop-at : goal.decreases-loop-at
decreases-loop-at l = length l.units - l.at
