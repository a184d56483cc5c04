-- `plain::fill::fill_row` meets its contract. The invariant, `Falling`: the row holds what comes from the rules done.
use Rattle.std.proofs.Common.{◌≤◌}
use Rattle.grammar.specs.inner.Decoded.{decoded}
use Rattle.plain.proofs.Falling.{Falling}
use Rattle.plain.proofs.fill.fill_row.Given as goal

abbrev pub invariant-loop-r : goal.invariant-loop-r
invariant-loop-r l = record {
  few : l.r ≤ l.grammar.rules.count;
  falls : Falling (decoded l.grammar) l.tokens l.initial.table l.table l.l l.i l.r;
}
