-- What the main engine says of a token string: a start over words of the largest capacities, a run, and finished. What the plain engine says is `Plain` of
-- the crate agreement.
use Rattle.std.specs.Prelude.{◌≡◌, Bool, ◌&&◌, List, ℕ, eqb, length}
use Rattle.node.specs.Writing.{usable_units}
use Rattle.parse.specs.declared.State.{State}
use Rattle.parse.specs.Words.{Words, max_items, max_sets, max_queued, item_room, set_room, queue_room, store_room}
use Rattle.earley.specs.Positions.{plain}
use Rattle.demands.specs.Steps.{Outcome, Ended}
use Rattle.demands.specs.Calls.{Starts, Runs, Finishes}

-- The most tokens that are compared.
abbrev pub most_tokens : ℕ
most_tokens = 32

-- Yes where the parse is finished and `all` its tokens were taken.
pub record SaysAll (file : List ℕ) (s : State) (w : Words) (all yes : Bool) : Type 0 where
  pub number : ℕ
  pub handle : ℕ
  pub finished : Bool
  pub finishes : Finishes file s w number finished handle
  pub is : yes ≡ finished && all

-- Behind a start: the run's number, and yes where all tokens are taken and finished.
pub record Follows (file : List ℕ) (s : State) (w : Words) (ts : List ℕ) (number : ℕ) (yes : Bool) : Type 0 where
  pub ended : Ended
  pub runs : Runs file s w (plain ts) ended
  pub refusal : number ≡ ended.outcome.number
  pub says : SaysAll file ended.outcome.state ended.outcome.words (eqb ended.taken (length ts)) yes

-- From a start that is not refused.
pub record Reads (file : List ℕ) (w : Words) (ts : List ℕ) (number : ℕ) (yes : Bool) : Type 0 where
  pub before : State
  pub fresh : Outcome
  pub starts : Starts file before w fresh
  pub started : fresh.number ≡ 0
  pub follows : Follows file fresh.state fresh.words ts number yes

-- The same over words of which every capacity is at its largest.
pub record MainSays (file ts : List ℕ) (number : ℕ) (yes : Bool) : Type 0 where
  pub words : Words
  pub most_items : item_room words ≡ max_items
  pub most_sets : set_room words ≡ max_sets
  pub most_queued : queue_room words ≡ max_queued
  pub most_units : store_room words ≡ usable_units
  pub reads : Reads file words ts number yes
