-- `compare::text::report` meets its contract: the lines, one behind the other.
use Rattle.std.proofs.Common.{rules}
use Rattle.compare.proofs.Lining.{all_lines}
use Rattle.compare.proofs.text.report.Goals as goal

pub returns-clause-text : goal.returns-clause-text
returns-clause-text c = all_lines c.put_line-first.ensures.text (search rules) c.put_line-second.ensures.text c.put_parting.ensures.text
