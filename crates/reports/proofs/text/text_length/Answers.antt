use Rattle.reports.proofs.Lines.{counting_next, counting_ends}
use Rattle.reports.proofs.text.text_length.Goals as goal

pub loop-p-preserved : goal.loop-p-preserved
loop-p-preserved c = counting_next _ _ _ _ _ _ _ _ c.loop-p.invariant c.loop-p-test.true c.line_length-total.ensures.0 c.line_length-total.ensures.1

pub returns : goal.returns
returns c = counting_ends _ _ _ _ _ _ _ c.loop-p.invariant c.loop-p-test.false
