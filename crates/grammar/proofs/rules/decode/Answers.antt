use Rattle.grammar.proofs.Decoding.{more-decoded, none_decoded}
use Rattle.grammar.proofs.rules.decode.Goals as goal

pub loop-r-init : goal.loop-r-init
loop-r-init c = (none_decoded _ _ c.new-grammar.ensures.0 c.new-grammar.ensures.1, c.symbols.ensures.0, c.tokens.ensures.0)

pub loop-r-preserved : goal.loop-r-preserved
loop-r-preserved c =
    (more-decoded _ _ _ _ _ _ _ c.loop-r.invariant.0 c.u16_at.ensures.0 c.u16_at-in-loop-r.ensures.0 c.u16_at-in-loop-r-2.ensures.0 c.push.ensures, c.loop-r.invariant.1, c.loop-r.invariant.2)
