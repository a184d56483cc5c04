-- `translation::list::RuleList::add_if` meets its contract.
use Rattle.translation.proofs.Words.{lists-given, lists_given_not}
use Rattle.translation.proofs.list.RuleList.add_if.Goals as goal

pub returns-then-not-yes : goal.returns-then-not-yes
returns-then-not-yes c = lists_given_not _ _ _ c.if-not-yes.true

pub returns : goal.returns
returns c = lists-given _ _ _ _ c.if-not-yes.false c.add.ensures
