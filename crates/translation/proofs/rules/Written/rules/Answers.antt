-- `translation::rules::Written::rules` meets its contract.
use Rattle.std.proofs.Common.{arith}
use Rattle.translation.proofs.Reading.{rules-low, length-rules}
use Rattle.translation.proofs.rules.Written.rules.Goals as goal

pub returns-clause-low : goal.returns-clause-low
returns-clause-low c = rules-low c.self.invariant.1 _ _

pub returns-clause-few : goal.returns-clause-few
returns-clause-few c = omega (arith, length-rules c.self.inside.bytes.now 9 c.rule_count.result, c.rule_count.ensures.1)
