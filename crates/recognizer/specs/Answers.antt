-- The number, and the values, of each case of an answer.
use Rattle.std.specs.Prelude.{Bool, true, false, List, [], ℕ, Option, Some, None, Result, Ok, Err}
use Rattle.std.specs.Borrow.{Bor}
use Rattle.node.specs.Rows.{all_ones}
use Rattle.grammar.specs.declared.Fault.{Fault}
use Rattle.grammar.specs.declared.Fault.TheVariants as fault
use Rattle.completion.specs.declared.pass.Full.{Full}
use Rattle.completion.specs.declared.pass.Full.TheVariants as full
use Rattle.parse.specs.declared.State.{State}
use Rattle.parse.specs.Words.{Words}
use Rattle.demands.specs.Steps.{Outcome, Ended}
use Rattle.recognizer.specs.declared.Refusal.{Refusal}
use Rattle.recognizer.specs.declared.Refusal.TheVariants.{Malformed, Broken, NoSets, IllFormed, NoToken, NotPredicted, ItemsFull, QueueFull, SetsFull, StoreFull}
use Rattle.recognizer.specs.declared.Ran.{Ran}

abbrev pub refusal_number : Refusal → ℕ
refusal_number Malformed = 1
refusal_number Broken = 2
refusal_number NoSets = 3
refusal_number IllFormed = 4
refusal_number NoToken = 5
refusal_number NotPredicted = 6
refusal_number ItemsFull = 7
refusal_number QueueFull = 8
refusal_number SetsFull = 9
refusal_number StoreFull = 14

-- The refusals of a file that is no grammar, and of a pass without room.
abbrev pub fault_refusal : Fault → Refusal
fault_refusal fault.Malformed = Malformed
fault_refusal fault.Broken = Broken

abbrev pub full_refusal : Full → Refusal
full_refusal full.Items = ItemsFull
full_refusal full.Queue = QueueFull
full_refusal full.Store = StoreFull

-- 0 is done.
abbrev pub number_of : {A : Type 0} → Result A Refusal → ℕ
number_of (Ok a) = 0
number_of (Err r) = refusal_number r

abbrev pub stop_number : Option Refusal → ℕ
stop_number None = 0
stop_number (Some r) = refusal_number r

-- The state that a call leaves to its caller: a refused one leaves the old one.
abbrev pub state_of : State → Result State Refusal → State
state_of s (Ok next) = next
state_of s (Err r) = s

-- A refused finished says no.
abbrev pub says_yes : Result (Option ℕ) Refusal → Bool
says_yes (Ok (Some handle)) = true
says_yes (Ok None) = false
says_yes (Err r) = false

-- The handle that goes with yes; all ones where the answer is no or refused.
abbrev pub says_handle : Result (Option ℕ) Refusal → ℕ
says_handle (Ok (Some handle)) = handle
says_handle (Ok None) = all_ones
says_handle (Err r) = all_ones

-- The part of the words that a set report lends; none where it is refused.
abbrev pub part_of : Result (Bor (List ℕ)) Refusal → List ℕ
part_of (Ok part) = part.now
part_of (Err r) = []

-- What an answer of start or token comes to, of a call on the state `s`, with the words as they are left.
abbrev pub outcome_of : State → Result State Refusal → Words → Outcome
outcome_of s a w = record { number = number_of a; state = state_of s a; words = w }

-- What an answer of run comes to.
abbrev pub ended_of : Ran → Words → Ended
ended_of r w = record { outcome = record { number = stop_number r.stopped; state = r.state; words = w }; taken = r.taken }
