-- The rules up to `r`, the next of the chain, are completed.
use Rattle.std.proofs.Common.{◌≡◌, ◌-◌, ◌≤◌, ◌<◌}
use Rattle.laws.specs.Turns.{over}
use Rattle.grammar.specs.inner.Decoded.{first_in}
use Rattle.completion.specs.Complete.{complete_binary}
use Rattle.completion.specs.Lent.{its_rules, pass_in, Kept}
use Rattle.completion.proofs.pass.Pass.complete_binary_predictions.Given as goal

abbrev pub invariant-loop-r : goal.invariant-loop-r
invariant-loop-r l =
    let its = l.fn.self in
    Kept its l.self
    × (l.r ≤ its.rules.now.count)
    × (l.r < its.rules.now.count → first_in its.rules.now.words l.r ≡ l.pair.symbol)
    × (pass_in l.self ≡ over l.r (complete_binary (its_rules its) its.rows.now l.pair.set l.pair.symbol l.pair.link) (pass_in its))
    × (l.self.queue.now ≡ its.queue.now)

abbrev pub decreases-loop-r : goal.decreases-loop-r
decreases-loop-r l = l.fn.self.rules.now.count - l.r
