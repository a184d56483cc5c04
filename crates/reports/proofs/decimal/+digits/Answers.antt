-- `reports::decimal::digits`, which calls itself, meets its contract.
use mathlib.Core.Path.{sym}
use native.Mathlib.Omega.{arith}
use Rattle.reports.proofs.Digits.{one_digit, one_more, at_most_twenty}
use Rattle.reports.proofs.decimal.+digits.Goals as goal

pub returns-then-n-lt-BASE : goal.returns-then-n-lt-BASE
returns-then-n-lt-BASE t c = (sym (one_digit _ c.if-n-lt-BASE.true), omega arith)

pub returns : goal.returns
returns t c =
    let given = c.args in
    let tens = c.digits.ensures in
    let more = one_more given.n c.if-n-lt-BASE.false in
    (omega (arith, tens.0, more), omega (arith, tens.0, more, at_most_twenty given.n (omega arith)))
