-- `reports::decimal::put_decimal`, which calls itself, meets its contract.
use native.Mathlib.Omega.{arith}
use Rattle.reports.proofs.Digits.{one_digit, one_more}
use Rattle.reports.proofs.Putting.{put-length, put-digit, put_tens}
use Rattle.reports.proofs.decimal.+put_decimal.Goals as goal

pub bounds-out-at : goal.bounds-out-at
bounds-out-at t c = omega (arith, c.requires, one_digit _ c.if-n-lt-BASE.true)

pub returns-then-n-lt-BASE : goal.returns-then-n-lt-BASE
returns-then-n-lt-BASE t c = put-digit c.requires c.if-n-lt-BASE.true c.ascii.ensures

pub put_decimal-last-requires : goal.put_decimal-last-requires
put_decimal-last-requires t c =
    let large = c.if-n-lt-BASE.false in
    omega (arith, c.requires, one_more _ large)

pub bounds-out-last : goal.bounds-out-last
bounds-out-last t c =
    let tens-put = c.put_decimal-last.ensures in
    omega (arith, c.requires, one_more _ c.if-n-lt-BASE.false, tens-put.ends, put-length tens-put)

pub returns : goal.returns
returns t c = put_tens c.requires c.if-n-lt-BASE.false c.put_decimal-last.ensures c.ascii-2.ensures
