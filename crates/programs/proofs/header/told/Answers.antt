-- `programs::header::told` meets its contract. One way to be wrong a test; a header that passes the tests is not wrong.
use Rattle.std.proofs.Common.{arith, rules}
use Rattle.programs.specs.Header.Wrong.{short, version, told_length}
use Rattle.programs.specs.Header.Says.{malformed, broken}
use Rattle.programs.proofs.Headers.{not_wrong, gives-length}
use Rattle.programs.proofs.header.told.Goals as goal
use Rattle.programs.proofs.header.told.Goals.{then-bytes-lt-HEADER-via-then-bytes-lt-HEADER, then-bytes-lt-HEADER-via-else-bytes-lt-HEADER+then-from-ne-VERSION}

pub returns-then-bytes-lt-HEADER : goal.returns-then-bytes-lt-HEADER
returns-then-bytes-lt-HEADER c =
    elim c.then-bytes-lt-HEADER.branch [
      | then-bytes-lt-HEADER-via-then-bytes-lt-HEADER w ↦ malformed (short (search rules))
      | then-bytes-lt-HEADER-via-else-bytes-lt-HEADER+then-from-ne-VERSION w ↦ malformed (version (λ e. omega arith))
    ]

pub returns-then-u32_at-length : goal.returns-then-u32_at-length
returns-then-u32_at-length c = malformed (told_length (λ e. omega arith))

pub returns-then-count-gt-RULES : goal.returns-then-count-gt-RULES
returns-then-count-gt-RULES c = broken (not_wrong _ (omega arith) (omega arith) (omega arith)) (omega arith)

pub returns : goal.returns
returns c = gives-length _ _ (not_wrong _ (omega arith) (omega arith) (omega arith)) (omega arith) (omega arith)
