-- `reports::tokens::list_tokens` meets its contract.
use Rattle.reports.proofs.Fronts.{puts_short, puts_wrote}
use Rattle.reports.proofs.tokens.list_tokens.Goals as goal

pub returns-then-out-needed : goal.returns-then-out-needed
returns-then-out-needed c = puts_short _ _ _ c.count_held-needed.ensures c.if-out-needed.true

pub returns : goal.returns
returns c = puts_wrote _ _ _ _ c.count_held-needed.ensures c.if-out-needed.false c.write_held.ensures
