-- The invariant, `Halving`: what is left stands between `low` and `high`.
use Rattle.std.proofs.Common.{◌-◌}
use Rattle.completion.specs.Lent.{its_rules}
use Rattle.completion.proofs.Searching.{Halving}
use Rattle.completion.proofs.pass.Pass.by_halves.Given as goal

abbrev pub invariant-loop-low : goal.invariant-loop-low
invariant-loop-low l = Halving (its_rules l.self) l.self.items.now l.from l.to l.x l.low l.high

abbrev pub decreases-loop-low : goal.decreases-loop-low
decreases-loop-low l = l.high - l.low
