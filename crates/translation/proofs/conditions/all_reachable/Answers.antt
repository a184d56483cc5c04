-- `translation::conditions::all_reachable` meets its contract.
use Rattle.std.proofs.Common.{arith}
use Rattle.translation.proofs.Asking.{says-reachable}
use Rattle.translation.proofs.Marked.{all-decided}
use Rattle.translation.proofs.conditions.all_reachable.Goals as goal

pub returns : goal.returns
returns c = says-reachable _ _ c.reachable.ensures _ _ c.tokens.ensures.0 c.end.ensures.0 (all-decided _ _ _ (omega (arith, c.reachable.ensures.long, c.end.ensures.0)) _ c.contains.ensures.cases)
