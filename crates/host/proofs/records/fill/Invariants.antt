-- The loop's invariant: the records before `i` are put, and the others are as they were.
use Rattle.std.proofs.Common.{◌≡◌}
use Rattle.host.specs.inner.Records.{filled}
use Rattle.host.proofs.records.fill.Given as goal

abbrev pub invariant-loop-i : goal.invariant-loop-i
invariant-loop-i l = l.records ≡ filled l.words l.i l.initial.records
