-- `reports::text::line_length` meets its contract.
use native.Mathlib.Omega.{arith}
use Rattle.reports.proofs.Lines.{line-long}
use Rattle.reports.proofs.text.line_length.Goals as goal

pub returns : goal.returns
returns c =
    let long = line-long c.show-shown.ensures in
    let left-counted = c.digits.ensures in
    let first_counted = c.digits-2.ensures in
    let second-counted = c.digits-3.ensures in
    let origin-counted = c.digits-4.ensures in (
      omega (arith, long, left-counted.0, first_counted.0, second-counted.0, origin-counted.0),
      omega (arith, left-counted.1, first_counted.1, second-counted.1, origin-counted.1),
    )
