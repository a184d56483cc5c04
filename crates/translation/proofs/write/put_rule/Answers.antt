-- `translation::write::put_rule` meets its contract.
use Rattle.translation.proofs.Putting.{rule-stored}
use Rattle.translation.proofs.write.put_rule.Goals as goal

pub returns : goal.returns
returns c = rule-stored _ _ _ _ _ _ _ _ c.put_u16.ensures c.put_u16-2.ensures c.put_u16-3.ensures
