-- A call's answer in the host's words.
use Rattle.std.specs.Prelude.{ℕ}
use Rattle.parse.specs.declared.State.{State}
use Rattle.parse.specs.Words.{Words}
use Rattle.demands.specs.Steps.{Outcome, Ended}

-- The state that three words hold: the set number, the item count and the number of used units.
abbrev pub state_in : ℕ → ℕ → ℕ → State
state_in set held used = record { set = set; items = held; used = used }

-- What start and token answer: the number, the state's words, and the lent words.
abbrev pub outcome_in : ℕ → ℕ → ℕ → ℕ → Words → Outcome
outcome_in number set held used w = record { number = number; state = state_in set held used; words = w }

-- What a run answers: the same, and the tokens taken.
abbrev pub ended_in : ℕ → ℕ → ℕ → ℕ → Words → ℕ → Ended
ended_in number set held used w taken = record { outcome = outcome_in number set held used w; taken = taken }
