-- What each call answers and leaves, of any bytes, states and words.
use Rattle.std.specs.Prelude.{◌≡◌, Bool, false, List, [], ℕ, ◌<◌}
use Rattle.bits.specs.Width.{row_words}
use Rattle.node.specs.Rows.{all_ones}
use Rattle.grammar.specs.Rules.{Grammar}
use Rattle.grammar.specs.Accepted.{Accepted}
use Rattle.grammar.specs.File.{Malformed, grammar_of}
use Rattle.grammar.specs.Prediction.{Predicts}
use Rattle.parse.specs.declared.State.{State}
use Rattle.parse.specs.Words.{Words, set_room, within, beyond, behind}
use Rattle.parse.specs.WellFormed.{WellFormed}
use Rattle.earley.specs.Positions.{Positions}
use Rattle.demands.specs.Steps.{Outcome, Ended, started, stepped, ran, last_wraps, finished_handle, latest_part}

-- The grammar that a file gives, where the check accepts it.
pub record Checked (file : List ℕ) (g : Grammar) : Type 0 where
  pub whole : Malformed file → ⊥
  pub is : grammar_of file ≡ g
  pub accepted : Accepted g

-- The same with its table.
pub record Sound (file : List ℕ) (g : Grammar) (table : List (List ℕ)) : Type 0 where
  pub checked : Checked file g
  pub predicts : Predicts g row_words table

-- 1 and 2, of the file alone.
pub data FileFault (file : List ℕ) : ℕ → Type 0 where
  malformed : Malformed file → FileFault file 1
  broken : (Malformed file → ⊥) → (Accepted (grammar_of file) → ⊥) → FileFault file 2

-- 3 for a start, 4 for every other call. The file is accepted.
pub data StartFault (file : List ℕ) (w : Words) : ℕ → Type 0 where
  file_fault : {n : ℕ} → FileFault file n → StartFault file w n
  no_sets : {g : Grammar} → Checked file g → set_room w ≡ 0 → StartFault file w 3

pub data CallFault (file : List ℕ) (s : State) (w : Words) : ℕ → Type 0 where
  file_fault : {n : ℕ} → FileFault file n → CallFault file s w n
  ill_formed : {g : Grammar} → Checked file g → (WellFormed g.symbols g.rules s (within w) → ⊥) → CallFault file s w 4

-- No fault: the file is accepted and the state well formed.
pub record Formed (file : List ℕ) (s : State) (w : Words) (g : Grammar) : Type 0 where
  pub checked : Checked file g
  pub well_formed : WellFormed g.symbols g.rules s (within w)

-- The same with the table.
pub record Ready (file : List ℕ) (s : State) (w : Words) (g : Grammar) (table : List (List ℕ)) : Type 0 where
  pub sound : Sound file g table
  pub well_formed : WellFormed g.symbols g.rules s (within w)

-- Everything as it was.
abbrev pub as_it_was : ℕ → State → Words → Outcome
as_it_was number s w = record { number = number; state = s; words = w }

-- What came of the words within the capacities, with the words past them as they were.
abbrev pub in_place : Words → Outcome → Outcome
in_place w o = record { number = o.number; state = o.state; words = behind o.words (beyond w) }

abbrev pub in_place_ended : Words → Ended → Ended
in_place_ended w e = record { outcome = in_place w e.outcome; taken = e.taken }

-- Start.
pub data Starts (file : List ℕ) (s : State) (w : Words) : Outcome → Type 0 where
  refused : {n : ℕ} → StartFault file w n → Starts file s w (as_it_was n s w)
  done : {g : Grammar} {table : List (List ℕ)} → Sound file g table → 0 < set_room w → Starts file s w (in_place w (started g table (within w)))

-- A position. A token is one of one kind.
pub data Takes (file : List ℕ) (s : State) (w : Words) (kinds : List ℕ) : Outcome → Type 0 where
  refused : {n : ℕ} → CallFault file s w n → Takes file s w kinds (as_it_was n s w)
  done : {g : Grammar} {table : List (List ℕ)} → Ready file s w g table → Takes file s w kinds (in_place w (stepped g table s (within w) kinds))

-- A run over positions.
pub data Runs (file : List ℕ) (s : State) (w : Words) (a : Positions) : Ended → Type 0 where
  refused : {n : ℕ} → CallFault file s w n → Runs file s w a (record { outcome = as_it_was n s w; taken = 0 })
  done :
      {g : Grammar} {table : List (List ℕ)} → Ready file s w g table
      → Runs file s w a (in_place_ended w (ran g table s (within w) a))

-- Finished: its number, whether it says yes, and the handle, all ones where it does not.
pub data Finishes (file : List ℕ) (s : State) (w : Words) : ℕ → Bool → ℕ → Type 0 where
  refused : {n : ℕ} → CallFault file s w n → Finishes file s w n false all_ones
  done : {g : Grammar} → Formed file s w g → Finishes file s w 0 (last_wraps s (within w)) (finished_handle s (within w))

-- The set report: its number, and the part.
pub data Reports (file : List ℕ) (s : State) (w : Words) : ℕ → List ℕ → Type 0 where
  refused : {n : ℕ} → CallFault file s w n → Reports file s w n []
  done : {g : Grammar} → Formed file s w g → Reports file s w 0 (latest_part s (within w))
