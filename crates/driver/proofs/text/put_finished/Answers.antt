-- `driver::text::put_finished` meets its contract. The line that the test chose.
use Rattle.std.proofs.Common.{rules}
use Rattle.driver.specs.Text.{finished_line}
use Rattle.driver.proofs.text.put_finished.Goals as goal

pub returns-then-yes-clause-text : goal.returns-then-yes-clause-text
unfolding finished_line
returns-then-yes-clause-text c = search rules

pub returns-else-yes-clause-text : goal.returns-else-yes-clause-text
unfolding finished_line
returns-else-yes-clause-text c = search rules
