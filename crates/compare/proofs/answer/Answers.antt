-- `compare::answer` meets its contract: a line or the lines, by what the bytes that came say.
use Rattle.compare.specs.Writes.{Written}
use Rattle.compare.proofs.Writing.{fault-line}
use Rattle.compare.proofs.Agreeing.{written-agrees}
use Rattle.compare.proofs.answer.Goals as goal

pub returns-in-Ok-clause-text : goal.returns-in-Ok-clause-text
returns-in-Ok-clause-text c = Written.answered c.in-Ok.ensures c.check_and_compare.ensures.text

pub returns-in-Ok-clause-agreement : goal.returns-in-Ok-clause-agreement
returns-in-Ok-clause-agreement c = written-agrees (Written.answered c.in-Ok.ensures c.check_and_compare.ensures.text)

pub returns-in-Err-clause-text : goal.returns-in-Err-clause-text
returns-in-Err-clause-text c = Written.refused c.in-Err.ensures (fault-line c.in-Err.fault c.from.ensures c.number.ensures c.refusal.ensures.text)

pub returns-in-Err-clause-agreement : goal.returns-in-Err-clause-agreement
returns-in-Err-clause-agreement c = written-agrees {rest = c.args.rest.now} (Written.refused c.in-Err.ensures (fault-line c.in-Err.fault c.from.ensures c.number.ensures c.refusal.ensures.text))
