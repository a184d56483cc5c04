-- A list that a call writes into a place that it is lent: the whole list, or nothing.
use Rattle.std.specs.Prelude.{List, ◌++◌, ℕ, ◌≤◌, ◌<◌, length, drop}

-- The place is too short.
abbrev pub too_short : ℕ
too_short = 13

-- Of a call that is refused with the number `n` where `Fault n` holds, and otherwise has the list `l` to tell where `Gives l` does: its
-- number, the count that it tells, and the place as it leaves it.
pub data Fills {A : Type 0} (Fault : ℕ → Type 0) (Gives : List A → Type 0) (place : List A) : ℕ → ℕ → List A → Type 0 where
  -- Refused: nothing is written, and the count is 0.
  refused : {n : ℕ} → Fault n → Fills Fault Gives place n 0 place
  -- Too short: nothing is written, and the count is the number needed.
  short : {l : List A} → Gives l → length place < length l → Fills Fault Gives place too_short (length l) place
  -- Done: the list stands in front, and the rest of the place is as it was.
  done : {l : List A} → Gives l → length l ≤ length place → Fills Fault Gives place 0 (length l) (l ++ drop (length l) place)
