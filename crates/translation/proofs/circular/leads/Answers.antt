-- `translation::circular::leads` meets its contract.
use Rattle.translation.proofs.Circling.{leading-none, leading-one, leading-more}
use Rattle.translation.proofs.circular.leads.Goals as goal

pub returns-then-k-eq0 : goal.returns-then-k-eq0
returns-then-k-eq0 c = leading-none _ _ c.if-k-eq0.true

pub returns-then-k-eq1 : goal.returns-then-k-eq1
returns-then-k-eq1 c = leading-one _ _ c.if-k-eq1.true

pub returns-else-k-eq1 : goal.returns-else-k-eq1
returns-else-k-eq1 c = leading-more _ _ c.if-k-eq0.false c.if-k-eq1.false
