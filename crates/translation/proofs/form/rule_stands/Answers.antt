-- `translation::form::rule_stands` meets its contract.
use Rattle.std.proofs.Common.{arith}
use Rattle.translation.proofs.Reading.{rule_decided}
use Rattle.translation.proofs.form.rule_stands.Goals as goal

pub returns-then-n-written : goal.returns-then-n-written
returns-then-n-written c =
    rule_decided _ _ c.u16_at-a.result c.u16_at-n.result _ c.u16_at-a.ensures.0 c.u16_at-n.ensures.0 c.end-then-n-written.ensures.0
    (omega arith) (grind arith) (grind arith) (grind arith) (grind arith) c.all_below.ensures
