-- The paper's number, and the values, of each case of an answer.
use Rattle.std.specs.Prelude.{Bool, false, ℕ, Result, Ok, Err}
use Rattle.laws.specs.Fills.{too_short}
use Rattle.grammar.specs.declared.Fault.{Fault}
use Rattle.grammar.specs.declared.Fault.TheVariants as fault
use Rattle.plain.specs.declared.Refusal.{Refusal}
use Rattle.plain.specs.declared.Refusal.TheVariants.{Malformed, Broken, NoToken, TooMany, TooShort}
use Rattle.plain.specs.declared.Told.{Told}

-- A fault of the file refuses the call.
abbrev pub of_fault : Fault → Refusal
of_fault fault.Malformed = Malformed
of_fault fault.Broken = Broken

abbrev pub refusal_number : Refusal → ℕ
refusal_number Malformed = 1
refusal_number Broken = 2
refusal_number NoToken = 5
refusal_number TooMany = 22
refusal_number (TooShort words) = too_short

abbrev pub told_number : Result Told Refusal → ℕ
told_number (Ok told) = 0
told_number (Err why) = refusal_number why

-- How many words were written, or how many are needed; any other refused call tells 0.
abbrev pub refusal_count : Refusal → ℕ
refusal_count Malformed = 0
refusal_count Broken = 0
refusal_count NoToken = 0
refusal_count TooMany = 0
refusal_count (TooShort words) = words

abbrev pub told_count : Result Told Refusal → ℕ
told_count (Ok told) = told.words
told_count (Err why) = refusal_count why

abbrev pub says_yes : Result Told Refusal → Bool
says_yes (Ok told) = told.yes
says_yes (Err why) = false
