-- `translation::list::RuleList::new` meets its contract.
use Rattle.std.proofs.Common.{ap}
use Rattle.grammar.specs.inner.Decoded.{rules_in, rules_behind}
use Rattle.translation.proofs.list.RuleList.new.Goals as goal

pub returns : goal.returns
unfolding rules_behind
returns c = ap (rules_in c.new.result.words) c.new.ensures.1
