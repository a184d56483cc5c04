use Rattle.translation.proofs.Words.{seek_on, seek_found, seek_ends}
use Rattle.translation.proofs.list.RuleList.has.Goals as goal

pub returns-then-is_rule : goal.returns-then-is_rule
returns-then-is_rule c = seek_found _ _ _ c.loop-r.r c.loop-r.invariant c.loop-r-test.true c.is_rule.ensures c.if-is_rule.true

pub loop-r-preserved : goal.loop-r-preserved
loop-r-preserved c = seek_on _ _ _ c.loop-r.r c.loop-r.invariant c.loop-r-test.true c.is_rule.ensures c.if-is_rule.false

pub returns : goal.returns
returns c = seek_ends _ _ _ c.loop-r.r c.loop-r.invariant c.loop-r-test.false
