-- `grammar::conditions::ruled` meets its contract. The invariant: every rule passed is as asked, and its left side is met.
use Rattle.grammar.specs.inner.Checking.{Ruled, Met}
use Prim.Native.Nat.{◌≤◌}
use Rattle.grammar.proofs.conditions.ruled.Given as goal

abbrev pub invariant-loop-r : goal.invariant-loop-r
invariant-loop-r l = (1 ≤ l.r) × Ruled l.rules.words l.grammar.symbols l.grammar.tokens l.r × Met l.rules.words l.r l.met
