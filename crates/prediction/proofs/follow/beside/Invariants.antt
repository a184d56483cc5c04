-- `prediction::follow::beside` meets its contract. The invariant: the table of the rules passed.
use Rattle.bits.specs.Width.{row_words}
use Rattle.prediction.specs.inner.Tables.{Tells, Beside}
use Rattle.prediction.proofs.follow.beside.Given as goal

abbrev pub invariant-loop-r : goal.invariant-loop-r
invariant-loop-r l = Tells row_words (Beside l.rules.words l.begins l.r) l.table
