use Rattle.grammar.proofs.Marks.{low-less, low-last}
use Rattle.grammar.proofs.Reachability.{reaching-start, spreading_marks, decided}
use native.Mathlib.Omega.{arith}
use Rattle.grammar.proofs.reachable.all_reachable.Goals as goal

pub loop-r-init : goal.loop-r-init
loop-r-init c = reaching-start _ _ _ _ _ c.requires.2 c.first.ensures.0 (omega (arith, c.requires.4.first 0 c.requires.2))

pub loop-r-2-preserved : goal.loop-r-2-preserved
loop-r-2-preserved c =
    let required = c.requires in
    let rules-looped = c.loop-r-2 in
    let rule-entered = c.loop-r-2-test in
    let spread-asked = c.spreads in
    let spread-tested = c.if-not-spreads in
    let first_read = c.first-in-loop-r-2 in
    spreading_marks _ _ _ _ _ _ _ _ _ _ rules-looped.invariant rule-entered.true
    (spread-asked.ensures.if_yes (spread-tested.false))
    first_read.ensures.0 (omega (arith, required.4.first rules-looped.r rule-entered.true))
    c.last.ensures (low-last _ _ _ (low-less _ _ _ required.4 (omega arith)) c.last.ensures)

pub returns : goal.returns
returns c =
    let required = c.requires in
    let rules-looped = c.loop-r-2 in
    let mark-tested = c.if-not-marked in
    decided _ _ _ _ _ rules-looped.invariant.right
    (λ q l. rules-looped.invariant.quiet (mark-tested.true) q (omega arith)) _ required.2 c.all_marked.ensures
