-- `driver::recognize` meets its contract: the lines of a parse that was started, or the line on a grammar that was refused.
use Rattle.std.proofs.Common.{refl}
use Rattle.driver.specs.Writes.{Recognized}
use Rattle.driver.proofs.Writing.{refused-line}
use Rattle.driver.proofs.recognize.Goals as goal

pub returns-in-Ok-clause-text : goal.returns-in-Ok-clause-text
returns-in-Ok-clause-text g c = Recognized.followed c.in-Ok.ensures.calls refl c.follow.ensures.text

pub returns-in-Err-clause-text : goal.returns-in-Err-clause-text
returns-in-Err-clause-text g c = refused-line c.in-Err.why c.in-Err.ensures.calls c.number.ensures c.refusal.ensures.text
