-- `translation::split::split` meets its contract.
use Rattle.translation.proofs.Joining.{lists_none, lists_one}
use Rattle.translation.proofs.split.split.Goals as goal

pub returns-in-0 : goal.returns-in-0
returns-in-0 c = lists_none _ _ _ _ _ _ c.in-0.is

pub returns-in-1 : goal.returns-in-1
returns-in-1 c = lists_one _ _ _ _ _ c.in-1.is c.number.ensures.0 c.add.ensures
