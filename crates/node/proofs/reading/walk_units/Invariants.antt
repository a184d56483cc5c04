-- `reading::walk_units` meets its contract. The loop's invariant: what is left to walk gives what is wanted.
use Rattle.std.proofs.Common.{ℕ, ◌≤◌, ◌-◌, ◌≡◌, List, length}
use Rattle.node.specs.Walking.{walk_from}
use Rattle.node.proofs.reading.walk_units.Given as goal

-- What is left to walk gives what is wanted, and each node had a unit of its own.
pub record Going (s : List ℕ) (p count at : ℕ) : Type 0 where
  pub left : walk_from s at count ≡ walk_from s p 0
  pub counted : count ≤ at

abbrev pub invariant-loop-behind : goal.invariant-loop-behind
invariant-loop-behind l = Going l.s l.p l.count l.at

abbrev pub decreases-loop-behind : goal.decreases-loop-behind
decreases-loop-behind l = length l.s - l.at
