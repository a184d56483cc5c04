-- The measure is the number, and a tenth of it is less.
use Rattle.reports.proofs.decimal.+put_decimal.Given as goal

abbrev pub decreases-put_decimal : goal.decreases-put_decimal
decreases-put_decimal l = l.n
