-- `plain::fill::fill_length` meets its contract. The invariant: the stretches passed are settled.
use Rattle.std.proofs.Common.{length}
use Rattle.plain.specs.Table.{place}
use Rattle.grammar.specs.inner.Decoded.{decoded}
use Rattle.plain.specs.inner.Filling.{Filling, Kept}
use Rattle.plain.proofs.fill.fill_length.Given as goal

abbrev pub invariant-loop-i : goal.invariant-loop-i
invariant-loop-i l =
    Kept (length l.tokens) l.initial.table l.table × Filling (decoded l.grammar) l.tokens l.table (place (length l.tokens) l.l l.i)
