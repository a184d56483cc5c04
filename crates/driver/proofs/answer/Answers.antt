-- `driver::answer` meets its contract: a line or the lines, by what the bytes that came say.
use Rattle.driver.specs.Writes.{Written}
use Rattle.driver.proofs.Writing.{fault-line}
use Rattle.driver.proofs.answer.Goals as goal

pub returns-in-Ok-clause-text : goal.returns-in-Ok-clause-text
returns-in-Ok-clause-text g c = Written.answered c.in-Ok.ensures c.recognize_whole.ensures.text

pub returns-in-Err-clause-text : goal.returns-in-Err-clause-text
returns-in-Err-clause-text g c = Written.refused c.in-Err.ensures (fault-line c.in-Err.fault c.from.ensures c.number.ensures c.refusal.ensures.text)
