-- What the driver writes of the bytes that came for a grammar. What it reads behind them is whatever the system gave it: some list of bytes.
use Rattle.std.specs.Prelude.{◌≡◌, Bool, List, [], ℕ, ◌≤◌, length, take, Ok, Err}
use Rattle.grammar.specs.declared.Fault.{Fault}
use Rattle.grammar.specs.Answers.{fault_number}
use Rattle.node.specs.Writing.{usable_units}
use Rattle.parse.specs.declared.State.{State}
use Rattle.parse.specs.Words.{Words, max_items, max_queued, item_room, set_room, queue_room, store_room}
use Rattle.demands.specs.Steps.{Outcome, Ended}
use Rattle.earley.specs.Positions.{plain}
use Rattle.demands.specs.Calls.{Starts, Runs, Finishes}
use Rattle.programs.specs.Header.{Judged}
use Rattle.programs.specs.Tokens.{tokens_of}
use Rattle.programs.specs.Text.{grammar_head, Line}
use Rattle.driver.specs.Parts.{part_bytes, most_parts, InParts}
use Rattle.driver.specs.Text.{Report}

-- The sets that the driver lends.
abbrev pub lent_sets : ℕ
lent_sets = 256

-- A run over the tokens of a part that was read.
pub record RunsPart (file : List ℕ) (s : State) (w : Words) (e : Ended) : Type 0 where
  pub part : List ℕ
  pub few : length part ≤ part_bytes
  pub runs : Runs file s w (plain (tokens_of part)) e

-- A run over the tokens of all bytes that were read, part by part.
pub record RunsOver (file : List ℕ) (s : State) (w : Words) (e : Ended) : Type 0 where
  pub bytes : List ℕ
  pub in_parts : InParts e.outcome.number most_parts bytes
  pub runs : Runs file s w (plain (tokens_of bytes)) e

-- Whether a parse is finished, whatever the report's number and handle.
pub record SaysFinished (file : List ℕ) (s : State) (w : Words) (yes : Bool) : Type 0 where
  pub number : ℕ
  pub handle : ℕ
  pub finishes : Finishes file s w number yes handle

-- The four lines on a parse: tokens taken, the first refusal's number or 0, whether it is finished, the set.
pub record Followed (file : List ℕ) (s : State) (w : Words) (text : List ℕ) : Type 0 where
  pub ended : Ended
  pub read : RunsOver file s w ended
  pub yes : Bool
  pub says : SaysFinished file ended.outcome.state ended.outcome.words yes
  pub lines : Report ended.taken ended.outcome.number yes ended.outcome.state.set text

-- The line on a grammar that a start refuses, or the lines on the parse that it began.
pub data Recognized (file : List ℕ) (w : Words) (text : List ℕ) : Type 0 where
  refused : {s : State} {o : Outcome} → Starts file s w o → (o.number ≡ 0 → ⊥) → Line [] grammar_head o.number text → Recognized file w text
  followed : {s : State} {o : Outcome} → Starts file s w o → o.number ≡ 0 → Followed file o.state o.words text → Recognized file w text

-- The same with what the driver lends: 256 sets, items, queue and store at their largest.
pub record Answered (file text : List ℕ) : Type 0 where
  pub words : Words
  pub most_items : item_room words ≡ max_items
  pub all_sets : set_room words ≡ lent_sets
  pub most_queued : queue_room words ≡ max_queued
  pub most_units : store_room words ≡ usable_units
  pub recognized : Recognized file words text

-- All that is ever written: the line on a grammar that is refused for the bytes that came, or what is answered for the L bytes of the file.
pub data Written (bytes text : List ℕ) : Type 0 where
  refused : {why : Fault} → Judged bytes (Err why) → Line [] grammar_head (fault_number why) text → Written bytes text
  answered : {l : ℕ} → Judged bytes (Ok l) → Answered (take l bytes) text → Written bytes text
