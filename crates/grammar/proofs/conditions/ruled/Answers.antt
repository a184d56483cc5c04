use Rattle.grammar.proofs.Asked.{ruled_none, ruled-more}
use Rattle.grammar.proofs.Marks.{none_met, more-met}
use native.Mathlib.Omega.{arith}
use Rattle.grammar.proofs.conditions.ruled.Goals as goal

pub loop-r-init : goal.loop-r-init
loop-r-init c = (omega arith, ruled_none _ _ _, more-met _ _ 0 _ (none_met _) c.left.ensures.0 (omega (arith, c.left.ensures.0, c.requires.3)))

pub loop-r-preserved : goal.loop-r-preserved
loop-r-preserved c =
    let looped = c.loop-r in
    let drawn = c.drawn.ensures.if_yes (c.if-not-drawn.false) in
    let left-read = c.left-in-loop-r in (
      omega arith,
      ruled-more _ _ _ _ looped.invariant.1 drawn
          (c.adjoins.ensures.if_yes (c.if-not-adjoins.false))
          (c.precedes.ensures.if_yes (c.if-not-precedes.false)),
      more-met _ _ _ _ looped.invariant.2 left-read.ensures.0 (omega (arith, left-read.ensures.0, drawn.no_wrapper, c.requires.1)),
    )
