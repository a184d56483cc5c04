-- `plain::fill::seed` meets its contract. The invariant: the tokens passed stand in their rows, and nothing else does.
use Rattle.std.proofs.Common.{length}
use Rattle.plain.specs.inner.Filling.{Seeded, Kept}
use Rattle.plain.proofs.fill.seed.Given as goal

abbrev pub invariant-loop-i : goal.invariant-loop-i
invariant-loop-i l = Kept (length l.tokens) l.initial.table l.table × Seeded l.tokens l.table l.i
