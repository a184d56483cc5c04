-- `plain::fill::fill` meets its contract. The invariant: the lengths passed are settled.
use Rattle.std.proofs.Common.{length}
use Rattle.plain.specs.Table.{stretches_up_to}
use Rattle.grammar.specs.inner.Decoded.{decoded}
use Rattle.plain.specs.inner.Filling.{Filling, Kept}
use Rattle.plain.proofs.fill.fill.Given as goal

abbrev pub invariant-loop-l : goal.invariant-loop-l
invariant-loop-l l =
    Kept (length l.tokens) l.initial.table l.table × Filling (decoded l.grammar) l.tokens l.table (stretches_up_to (length l.tokens) l.l)
