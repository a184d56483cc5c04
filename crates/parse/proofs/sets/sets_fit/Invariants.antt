-- `sets::sets_fit` meets its contract. The loop's invariant: every set passed has items that it may have.
use Prim.Native.Nat.{ℕ, ◌+◌, ◌-◌, ◌≤◌}
use lib.ListN.{get_or}
use Rattle.grammar.specs.inner.Decoded.{rules_of}
use Rattle.parse.specs.inner.Parts.{SetFits}
use Rattle.parse.proofs.Passing.{Passed}
use Rattle.parse.proofs.sets.sets_fit.Given as goal

abbrev pub invariant-loop-k : goal.invariant-loop-k
invariant-loop-k l = Passed (λ (j : ℕ). SetFits (rules_of l.rules) l.items j (get_or l.starts j 0) (get_or l.starts (j + 1) 0)) 0 l.k × (l.k ≤ l.e + 1)

abbrev pub decreases-loop-k : goal.decreases-loop-k
decreases-loop-k l = l.e + 1 - l.k
