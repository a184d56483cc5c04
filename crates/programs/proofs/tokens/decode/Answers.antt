use Rattle.programs.proofs.Decoding.{decoded-next, decoded-all}
use Rattle.programs.proofs.tokens.decode.Goals as goal

pub loop-i-preserved : goal.loop-i-preserved
loop-i-preserved c =
    let steps = c.in-Some.ensures.steps in
    decoded-next _ _ _ _ _ _ c.loop-i.invariant steps.0.0 steps.0.1.0 steps.0.1.1 steps.0.1.2 steps.1 steps.2 c.token.ensures

pub returns-clause-said : goal.returns-clause-said
returns-clause-said c = decoded-all _ c.loop-i.invariant c.in-None.ensures.steps.0.1.0 c.div_ceil.ensures
