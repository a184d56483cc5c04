-- The measure is the number, and a tenth of it is less.
use Rattle.reports.proofs.decimal.+digits.Given as goal

abbrev pub decreases-digits : goal.decreases-digits
decreases-digits l = l.n
