-- `reports::text::list_text` meets its contract.
use Rattle.reports.proofs.Putting.{told_short, told_wrote}
use Rattle.reports.proofs.text.list_text.Goals as goal

pub returns-then-out-needed : goal.returns-then-out-needed
returns-then-out-needed c = told_short c.text_length-needed.ensures c.if-out-needed.true

pub returns : goal.returns
returns c = told_wrote c.put_lines.ensures
