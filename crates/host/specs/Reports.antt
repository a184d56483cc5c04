-- The reports in the host's words.
use Rattle.std.specs.Prelude.{Bool, true, false, List, ℕ, ◌-◌, ◌*◌, eqb}
use Rattle.item.specs.Item.{item_words}
use Rattle.grammar.specs.Rules.{Grammar}
use Rattle.parse.specs.declared.State.{State}
use Rattle.parse.specs.Words.{Words, within, start_of}
use Rattle.demands.specs.Calls.{CallFault, Formed, Finishes}

-- Finished: its number, 1 for yes and 0 for no, and the handle.
pub data FinishesIn (file : List ℕ) (s : State) (w : Words) : ℕ → ℕ → ℕ → Type 0 where
  yes : {n handle : ℕ} → Finishes file s w n true handle → FinishesIn file s w n 1 handle
  no : {n handle : ℕ} → Finishes file s w n false handle → FinishesIn file s w n 0 handle

-- What the word says.
abbrev pub says_in : ℕ → Bool
says_in word = eqb word 1

-- The set report: its number, the place of the latest set's first word among the item words, and the number of its words. Refused, the
-- part is the empty one at place 0.
pub data ReportsIn (file : List ℕ) (s : State) (w : Words) : ℕ → ℕ → ℕ → Type 0 where
  refused : {n : ℕ} → CallFault file s w n → ReportsIn file s w n 0 0
  done :
      {g : Grammar} → Formed file s w g
      → ReportsIn file s w 0 (item_words * start_of (within w) s.set) (item_words * (s.items - start_of (within w) s.set))
