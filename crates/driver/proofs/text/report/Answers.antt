-- `driver::text::report` meets its contract. Four lines, one behind the other.
use Rattle.driver.proofs.Texts.{a_report}
use Rattle.driver.proofs.text.report.Goals as goal

pub returns-clause-text : goal.returns-clause-text
returns-clause-text c = a_report _ _ _ _ _ _ _ _ c.put_line-first.ensures.text c.put_line-second.ensures.text c.put_finished-third.ensures.text c.put_line.ensures.text
