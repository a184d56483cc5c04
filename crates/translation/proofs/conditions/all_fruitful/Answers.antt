-- `translation::conditions::all_fruitful` meets its contract.
use Rattle.std.proofs.Common.{arith}
use Rattle.translation.proofs.Asking.{too_many, says-fruitful}
use Rattle.translation.proofs.Marked.{all-decided}
use Rattle.translation.proofs.conditions.all_fruitful.Goals as goal

pub returns-then-all-gt-MOST : goal.returns-then-all-gt-MOST
returns-then-all-gt-MOST c = too_many _ c.end-all.ensures.3 c.end-all.result c.end-all.ensures.0 (omega arith)

pub returns : goal.returns
returns c = says-fruitful _ _ c.fruitful.ensures _ _ c.tokens.ensures.0 c.end-all.ensures.0 (omega arith)
    (all-decided _ _ _ (omega (arith, c.fruitful.ensures.long)) _ c.contains.ensures.cases)
