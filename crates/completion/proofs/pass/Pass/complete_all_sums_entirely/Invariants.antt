-- What is left to do gives what all sums give.
use Rattle.completion.specs.Lent.{its_rules, pass_in, Kept}
use Rattle.completion.proofs.Pending.{left}
use Rattle.completion.proofs.Remaining.{Remaining}
use Rattle.completion.proofs.pass.Pass.complete_all_sums_entirely.Given as goal

abbrev pub invariant-loop-self : goal.invariant-loop-self
invariant-loop-self l =
    let its = l.fn.self in
    Kept its l.self × Remaining (its_rules its) its.starts.now its.rows.now (pass_in its) (pass_in l.self)

abbrev pub decreases-loop-self : goal.decreases-loop-self
decreases-loop-self l = left (its_rules l.fn.self) (pass_in l.self)
