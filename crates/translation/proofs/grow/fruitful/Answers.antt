-- `translation::grow::fruitful` meets its contract.
use Rattle.translation.proofs.Exact.{fruitful-exact}
use Rattle.translation.proofs.Marked.{only_to}
use Rattle.std.proofs.Common.{arith}
use Rattle.translation.proofs.grow.fruitful.Goals as goal

pub returns : goal.returns
returns c = fruitful-exact _ _ _ (only_to c.tokens.ensures.0 (omega arith) c.mark_within.ensures) c.grow.ensures
