-- `prediction::close` meets its contract. The invariants: `Level` before a turn, and `InTurn` within it, whatever the seed was, if its rows below `from` are lone.
use mathlib.Core.List.{List}
use Rattle.bits.specs.Width.{row_words}
use Rattle.prediction.specs.inner.Tables.{Lone}
use Rattle.prediction.proofs.Warshall.{Level, InTurn}
use Prim.Native.Nat.{ℕ}
use Rattle.prediction.proofs.close.Given as goal

abbrev pub invariant-loop-i : goal.invariant-loop-i
invariant-loop-i l = (s : List (List ℕ)) → Lone l.from s → Level row_words s l.k l.initial.table → InTurn row_words s l.k l.i l.table

abbrev pub invariant-loop-k : goal.invariant-loop-k
invariant-loop-k l = Level row_words l.initial.table l.k l.table
