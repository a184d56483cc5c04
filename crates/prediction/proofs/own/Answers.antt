use Rattle.prediction.proofs.Cells.{seeded_none, seeded-own, seeded_at}
use native.Mathlib.Omega.{arith}
use mathlib.Core.Path.{refl}
use Rattle.prediction.proofs.own.Goals as goal

pub loop-x-init : goal.loop-x-init
loop-x-init c = λ from to. seeded_none from to _

pub loop-x-preserved : goal.loop-x-preserved
loop-x-preserved c =
    let looped = c.loop-x in
    λ from to. seeded-own from to _ _ _ _ (omega arith) c.add.ensures (looped.invariant from to) (omega arith)

pub returns : goal.returns
returns c = λ from to. seeded_at from to _ _ _ _ _ _ (c.loop-x.invariant from to) (omega arith) refl
