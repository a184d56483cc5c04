-- `host::translating::tell_translated` meets its contract.
use Rattle.std.proofs.Common.{◌∙◌}
use Rattle.translation.specs.Answers.{number_of}
use Rattle.host.specs.Translating.{Tells}
use Rattle.host.proofs.Translated.{once-byte}
use Rattle.host.proofs.translating.tell_translated.Goals as goal

pub returns-in-Ok : goal.returns-in-Ok
returns-in-Ok c = rw (c.in-Ok.is, c.from.ensures ∙ once-byte c.in-Ok.translated.empty) (Tells.done c.in-Ok.translated.length c.in-Ok.translated.empty)

pub returns-in-Err : goal.returns-in-Err
returns-in-Err c = rw (c.in-Err.is, c.number.ensures) (Tells.refused (number_of c.in-Err.refusal))
