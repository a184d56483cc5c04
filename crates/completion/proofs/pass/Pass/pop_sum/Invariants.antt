-- What is left to pop gives what the whole sum gives.
use Rattle.std.proofs.Common.{◌≡◌}
use Rattle.laws.specs.Turns.{until}
use Rattle.completion.specs.Sums.{sum_ends, next_summand, pop_sum}
use Rattle.completion.specs.inner.Ready.{RulesRead}
use Rattle.completion.specs.Lent.{its_rules, after, Kept}
use Rattle.completion.proofs.pass.Pass.pop_sum.Given as goal

abbrev pub invariant-loop-pair : goal.invariant-loop-pair
invariant-loop-pair l =
    Kept l.fn.self l.self
    × (until l.self.queued (sum_ends (its_rules l.fn.self) l.pair.set l.pair.symbol) next_summand (after l.now l.self)
    ≡ pop_sum (its_rules l.fn.self) l.pair.set l.pair.symbol (after l.fn.before l.fn.self))
    × RulesRead (its_rules l.fn.self) (after l.now l.self)

abbrev pub decreases-loop-pair : goal.decreases-loop-pair
decreases-loop-pair l = l.self.queued
