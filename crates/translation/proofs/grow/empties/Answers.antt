-- `translation::grow::empties` meets its contract.
use Rattle.translation.proofs.Exact.{empties-exact}
use Rattle.translation.proofs.grow.empties.Goals as goal

pub returns : goal.returns
returns c = empties-exact _ _ c.grow.ensures
