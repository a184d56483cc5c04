-- `prediction::lowest_left` meets its contract. The invariant: no left side passed is below `low`.
use Rattle.prediction.specs.inner.Tables.{NotAbove}
use Rattle.prediction.proofs.lowest_left.Given as goal

abbrev pub invariant-loop-r : goal.invariant-loop-r
invariant-loop-r l = NotAbove l.rules.words l.r l.low
