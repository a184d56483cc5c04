-- `plain::fill::splits` meets its contract. The invariant: no cut passed is one.
use Rattle.plain.proofs.Splitting.{Unsplit}
use Rattle.plain.proofs.fill.splits.Given as goal

abbrev pub invariant-loop-k : goal.invariant-loop-k
invariant-loop-k l = Unsplit l.table l.n l.l l.i l.b l.c l.k
