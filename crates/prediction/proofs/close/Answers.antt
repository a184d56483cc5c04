use Rattle.laws.proofs.Bits.{holds_true, holds_false}
use Rattle.prediction.proofs.Warshall.{level_seed, turn-begins, turn-ends, row_passed, row-joined, closed}
use native.Mathlib.Omega.{arith}
use mathlib.Core.Path.{sym, ◌∙◌}
use Rattle.prediction.proofs.close.Goals as goal

pub loop-k-init : goal.loop-k-init
loop-k-init c = level_seed _ _ _ c.requires.1 c.requires.3

pub loop-i-init : goal.loop-i-init
loop-i-init c = λ s lone h. turn-begins _ _ _ _ _ lone h

pub loop-i-preserved-then-not-has : goal.loop-i-preserved-then-not-has
loop-i-preserved-then-not-has c =
    let rows-looped = c.loop-i in
    λ s lone h. row_passed _ _ _ _ _ (rows-looped.invariant s lone h) (holds_false _ _ (sym c.has.ensures ∙ c.if-not-has.true))

pub loop-i-preserved : goal.loop-i-preserved
loop-i-preserved c =
    let rows-looped = c.loop-i in
    let looked-up = c.has in
    let bit-tested = c.if-not-has in
    λ s lone h. row-joined _ _ _ _ _ _ c.join.ensures (rows-looped.invariant s lone h) (omega arith) (omega arith)
    (holds_true _ _ (sym looked-up.ensures ∙ bit-tested.false))

pub loop-k-preserved : goal.loop-k-preserved
loop-k-preserved c =
    let required = c.requires in
    let looped = c.loop-k in
    turn-ends _ _ _ _ _ _ required.2 (c.loop-i.invariant _ required.3 looped.invariant) c.loop-i-test.false

pub returns : goal.returns
returns c = closed _ _ _ _ _ c.requires.2 c.loop-k.invariant c.loop-k-test.false
