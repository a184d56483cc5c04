use Rattle.std.proofs.Common.{arith}
use Rattle.prediction.proofs.Cells.{seeded-rule}
use Rattle.prediction.proofs.seed.Goals as goal

pub loop-r-init : goal.loop-r-init
loop-r-init g c = λ a b _ _. c.own-table.ensures a b

pub loop-r-preserved : goal.loop-r-preserved
loop-r-preserved g c =
    let asked = c.requires.symbols in
    let low = c.loop-r-test.true in
    λ a b from to.
    seeded-rule _ _ _ _ _ _ _ _ _ (omega arith) c.add.ensures (c.loop-r.invariant a b from to)
    (from.is _ _ low c.from-x.ensures) (to.is _ _ low c.to.ensures) (asked.0.low _ _ low c.from-x.ensures) (asked.1.low _ _ low c.to.ensures)
