-- `programs::header::judged` meets its contract: what the header says, and then whether its length came.
use Rattle.std.proofs.Common.{arith, rules}
use Rattle.programs.specs.Header.{Judged}
use Rattle.programs.proofs.Headers.{says_same}
use Rattle.programs.proofs.header.judged.Goals as goal

pub returns-in_err-length : goal.returns-in_err-length
returns-in_err-length c = search (rules, Judged.refused)

pub returns-then-bytes-length : goal.returns-then-bytes-length
returns-then-bytes-length c = Judged.cut (says_same c.in_ok-length.was c.told.ensures) (omega arith)

pub returns : goal.returns
returns c = Judged.whole (says_same c.in_ok-length.was c.told.ensures) (omega arith)
