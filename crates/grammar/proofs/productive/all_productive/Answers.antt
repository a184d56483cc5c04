use Rattle.grammar.proofs.Productivity.{yielding_tokens, firing-marks, decided}
use native.Mathlib.Omega.{arith}
use Rattle.grammar.proofs.productive.all_productive.Goals as goal

pub loop-r-init : goal.loop-r-init
loop-r-init c = yielding_tokens _ _ _ _ _ c.mark_tokens-marks.ensures

pub loop-r-2-preserved : goal.loop-r-2-preserved
loop-r-2-preserved c =
    let required = c.requires in
    let rules-looped = c.loop-r-2 in
    let rule-entered = c.loop-r-2-test in
    let fire-asked = c.fires in
    firing-marks _ _ _ _ _ _ _ _ _ rules-looped.invariant rule-entered.true
    (fire-asked.ensures.if_yes (c.if-not-fires.false)) c.left.ensures.0
    (omega (arith, required.3.left rules-looped.r rule-entered.true))

pub returns : goal.returns
returns c =
    let required = c.requires in
    let rules-looped = c.loop-r-2 in
    let mark-tested = c.if-not-marked in
    decided _ _ _ _ _ _ required.0 rules-looped.invariant.right
    (λ q l. rules-looped.invariant.quiet (mark-tested.true) q (omega arith)) c.all_marked.ensures
