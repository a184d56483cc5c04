-- `advance::predict::prediction_pass` meets its contract. The invariant: the rows of the items from place `p` on are joined.
use Rattle.advance.proofs.Predicting.{Predicting}
use Rattle.advance.proofs.predict.prediction_pass.Given as goal

abbrev pub invariant-loop-p : goal.invariant-loop-p
invariant-loop-p l = Predicting l.rules.words l.rules.count l.table l.items l.initial.rows l.from l.to l.k l.p l.rows
