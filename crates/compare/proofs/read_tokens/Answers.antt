-- `compare::read_tokens` meets its contract: nothing is read behind a header that is refused.
use Rattle.compare.specs.Writes.{ReadBehind}
use Rattle.compare.proofs.read_tokens.Goals as goal

pub returns-in-Ok-clause-far : goal.returns-in-Ok-clause-far
returns-in-Ok-clause-far g c = ReadBehind.some c.in-Ok.ensures

pub returns-in-Err-clause-far : goal.returns-in-Err-clause-far
returns-in-Err-clause-far g c = ReadBehind.none
