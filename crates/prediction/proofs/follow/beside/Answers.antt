use Rattle.prediction.proofs.Across.{beside_none, beside_passed, beside-joined}
use native.Mathlib.Omega.{arith}
use mathlib.Core.Path.{sym, ◌∙◌}
use Rattle.prediction.proofs.follow.beside.Goals as goal

pub loop-r-init : goal.loop-r-init
loop-r-init c = beside_none _ _ _

pub loop-r-preserved-then-c-eq-NONE : goal.loop-r-preserved-then-c-eq-NONE
loop-r-preserved-then-c-eq-NONE c = beside_passed _ _ _ _ _ (sym c.second-c.ensures.0 ∙ c.if-c-eq-NONE.true) c.loop-r.invariant

pub loop-r-preserved : goal.loop-r-preserved
loop-r-preserved c =
    let required = c.requires in
    let rules-looped = c.loop-r in
    let rule-entered = c.loop-r-test in
    let second-read = c.second-c in
    let two-symbols = c.if-c-eq-NONE in
    let first_read = c.first-a in
    beside-joined _ _ _ _ _ _ _ _ first_read.ensures.0 second-read.ensures.0 two-symbols.false
    (omega (arith, required.1.within.few, required.1.within.first rules-looped.r rule-entered.true))
    (required.2.row _ (omega (arith, required.1.within.few, required.1.second rules-looped.r rule-entered.true (λ e. two-symbols.false (second-read.ensures.0 ∙ e)))))
    c.join.ensures rules-looped.invariant
