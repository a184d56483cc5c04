-- `translation::list::RuleList::add` meets its contract.
use Rattle.std.proofs.Common.{arith}
use Rattle.translation.proofs.Words.{lists-there, lists-pushed, lists-no_room}
use Rattle.translation.proofs.list.RuleList.add.Goals as goal

pub returns-then-has : goal.returns-then-has
returns-then-has c = lists-there _ _ c.has.ensures c.if-has.true

pub returns-then-self-ge-RULES : goal.returns-then-self-ge-RULES
returns-then-self-ge-RULES c = lists-no_room _ _ _ (omega arith) c.has.ensures c.if-has.false

pub returns : goal.returns
returns c = lists-pushed _ _ _ c.has.ensures c.if-has.false c.push.ensures.listed
