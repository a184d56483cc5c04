-- `compare::check_and_compare` meets its contract: by what the check tells, and then by how many bytes there are.
use Rattle.compare.specs.Writes.{Answered}
use Rattle.compare.proofs.Writing.{is_faulty}
use Rattle.compare.proofs.check_and_compare.Goals as goal

pub returns-in-Err-clause-text : goal.returns-in-Err-clause-text
returns-in-Err-clause-text c = Answered.refused (is_faulty c.in-Err.fault c.from.ensures c.number.ensures c.in-Err.ensures) c.refusal.ensures.text
