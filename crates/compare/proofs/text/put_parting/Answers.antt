-- `compare::text::put_parting` meets its contract: the lines of each case.
use Rattle.compare.specs.Text.{Parts}
use Rattle.compare.proofs.text.put_parting.Goals as goal

pub returns-in_default-clause-text : goal.returns-in_default-clause-text
returns-in_default-clause-text c = rw (c.in_default.is, c.put.ensures.text) Parts.nowhere

pub returns-in-Main-clause-text : goal.returns-in-Main-clause-text
returns-in-Main-clause-text c = rw (c.in-Some.is, c.in-Main.is, c.put-in-Main.ensures.text) (Parts.main_yes c.put_line-behind.ensures.text)

pub returns-in-Plain-clause-text : goal.returns-in-Plain-clause-text
returns-in-Plain-clause-text c = rw (c.in-Some.is, c.in-Plain.is, c.put-in-Plain.ensures.text) (Parts.plain_yes c.put_line-behind.ensures.text)
