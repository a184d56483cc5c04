-- `programs::reading::read_full` is safe and ends; what it put at the front came from the reader.
use Rattle.std.proofs.Common.{length, ◌-◌, take, ◌≤◌}
use Rattle.std.specs.Io.KnownBytes.{Consumes}
use Rattle.programs.proofs.reading.read_full.Given as goal

abbrev pub invariant-loop-done : goal.invariant-loop-done
invariant-loop-done g l = record {
  within : l.done ≤ length l.buf;
  came : Consumes (g.R.Read.remaining l.fn.from) (g.R.Read.remaining l.from) (take l.done l.buf);
}

abbrev pub decreases-loop-done : goal.decreases-loop-done
decreases-loop-done g l = length l.buf - l.done
