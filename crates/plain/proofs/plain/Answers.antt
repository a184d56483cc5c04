-- `plain::plain` meets its contract: the verdict of the check, case by case.
use Rattle.std.proofs.Common.{arith, refl}
use Rattle.std.proofs.lemmas.Result.{err_from_is_err_and}
use Rattle.plain.proofs.Telling.{refused-table, decoded_answers}
use Rattle.plain.proofs.plain.Goals as goal

pub returns-in_err-read-clause-table : goal.returns-in_err-read-clause-table
returns-in_err-read-clause-table c =
    let p = err_from_is_err_and c.from_residual.result c.from_residual.ensures.1 in
    rw (p.1, p.2) (refused-table _ c.in_err-read.ensures.verdict)

pub returns-clause-table : goal.returns-clause-table
returns-clause-table c =
    let verdict = c.in_ok-read.ensures.verdict in
    (decoded_answers (c.in_ok-read.ensures.decoded.accepted refl) (λ m. omega (arith, verdict.always_one m)) (verdict.zero refl) (c.settle.ensures.table, c.settle.ensures.sentences)).0
