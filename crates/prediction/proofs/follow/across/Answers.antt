use Rattle.laws.proofs.Bits.{holds_true, holds_false}
use Rattle.prediction.proofs.Across.{across_none, across_passed, across_joined, across_row}
use native.Mathlib.Omega.{arith}
use mathlib.Core.Path.{sym, ◌∙◌}
use Rattle.prediction.proofs.follow.across.Goals as goal

pub loop-x-init : goal.loop-x-init
loop-x-init c = across_none _ _ _ _

pub loop-m-preserved-then-not-has : goal.loop-m-preserved-then-not-has
loop-m-preserved-then-not-has c =
    let symbols-looped = c.loop-m in
    across_passed _ _ _ _ _ _ _ (holds_false _ _ (sym c.has.ensures ∙ c.if-not-has.true)) symbols-looped.invariant

pub loop-m-preserved : goal.loop-m-preserved
loop-m-preserved c =
    let required = c.requires in
    let symbols-looped = c.loop-m in
    let looked-up = c.has in
    let bit-tested = c.if-not-has in
    across_joined _ _ _ _ _ _ _ _ (holds_true _ _ (sym looked-up.ensures ∙ bit-tested.false)) (omega arith) (omega arith) (omega arith)
    (required.2.row _ (omega arith)) c.join.ensures symbols-looped.invariant

pub loop-x-preserved : goal.loop-x-preserved
loop-x-preserved c = across_row _ _ _ _ _ _ _ c.loop-m-test.false c.loop-m.invariant
