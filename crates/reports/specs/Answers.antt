-- The number, and the count, of each case of an answer.
use Rattle.std.specs.Prelude.{ℕ, Result, Ok, Err}
use Rattle.laws.specs.Fills.{too_short}
use Rattle.recognizer.specs.Answers.{refusal_number}
use Rattle.reports.specs.declared.Unfilled.{Unfilled}
use Rattle.reports.specs.declared.Unfilled.TheVariants.{TooShort, Refused}

abbrev pub filled_number : Result ℕ Unfilled → ℕ
filled_number (Ok count) = 0
filled_number (Err (TooShort needed)) = too_short
filled_number (Err (Refused why)) = refusal_number why

-- How many were written, or how many are needed; a refused report tells 0.
abbrev pub filled_count : Result ℕ Unfilled → ℕ
filled_count (Ok count) = count
filled_count (Err (TooShort needed)) = needed
filled_count (Err (Refused why)) = 0
