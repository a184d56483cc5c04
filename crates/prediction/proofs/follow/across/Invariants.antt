-- `prediction::follow::across` meets its contract. The invariant, `Passed`: what the rows passed lead to, and in a row what the symbols passed do.
use Rattle.bits.specs.Width.{row_words}
use Rattle.prediction.specs.inner.Tables.{Tells}
use Rattle.prediction.proofs.Across.{Passed}
use Rattle.prediction.proofs.follow.across.Given as goal

abbrev pub invariant-loop-m : goal.invariant-loop-m
invariant-loop-m l = Tells row_words (Passed l.to l.on l.n l.x l.m) l.table

abbrev pub invariant-loop-x : goal.invariant-loop-x
invariant-loop-x l = Tells row_words (Passed l.to l.on l.n l.x 0) l.table
