use Rattle.std.proofs.Common.{ap, arith, not}
use Rattle.laws.proofs.Decides.{passes}
use Rattle.translation.proofs.Reading.{walk_on_lem, walk_ends}
use Rattle.translation.proofs.form.rules_stand.Goals as goal

pub loop-rule-preserved : goal.loop-rule-preserved
loop-rule-preserved c =
    walk_on_lem _ c.loop-rule.invariant (omega arith) (passes c.rule_stands.ensures (ap not c.if-not-rule_stands.false)) c.next-at.ensures.0 c.next-at.ensures.1

pub returns : goal.returns
returns c = walk_ends c.loop-rule.invariant (omega arith)
