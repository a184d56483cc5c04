-- The invariant, `Passed`: all before `low` are below.
use Rattle.std.proofs.Common.{◌-◌}
use Rattle.completion.specs.Lent.{its_rules}
use Rattle.completion.proofs.Searching.{Passed}
use Rattle.completion.proofs.pass.Pass.first_not_below.Given as goal

abbrev pub invariant-loop-low : goal.invariant-loop-low
invariant-loop-low l = Passed (its_rules l.self) l.self.items.now l.from l.to l.x l.low

abbrev pub decreases-loop-low : goal.decreases-loop-low
decreases-loop-low l = l.to - l.low
