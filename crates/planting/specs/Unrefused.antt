-- A step that was not refused up to the end of step 3.
use Rattle.std.specs.Prelude.{◌≡◌, true, List, ℕ, ◌*◌, ◌≤◌, length}
use Rattle.laws.specs.Bits.{Holds, row_of}
use Rattle.bits.specs.Width.{row_words}
use Rattle.item.specs.Item.{item_words}
use Rattle.binary_heap.specs.Entry.{entry_words}
use Rattle.grammar.specs.Rules.{Grammar}
use Rattle.grammar.specs.Accepted.{Accepted}
use Rattle.parse.specs.declared.State.{State}
use Rattle.parse.specs.Words.{Words, max_items, max_queued}
use Rattle.parse.specs.WellFormed.{WellFormed}
use Rattle.completion.specs.inner.Ready.{Rowed}
use Rattle.demands.specs.Positions.{is_position}
use Rattle.demands.specs.Steps.{completed}

-- Words within the capacities.
pub record Within (v : Words) : Type 0 where
  pub few_items : length v.items ≤ item_words * max_items
  pub few_entries : length v.queue ≤ entry_words * max_queued
  pub rowed : Rowed v.starts v.rows

-- Row `k` has the symbol `x`.
abbrev pub InRow : Words → ℕ → ℕ → Type 0
InRow v k x = Holds (row_of row_words v.rows k) x

-- A position on a well-formed state of an accepted grammar; and steps 2 and 3 met no refusal.
pub record Unrefused (g : Grammar) (s : State) (v : Words) (kinds : List ℕ) : Type 0 where
  pub accepted : Accepted g
  pub well : WellFormed g.symbols g.rules s v
  pub within : Within v
  pub is_position_lem : is_position g.tokens kinds ≡ true
  pub on : (completed g s v kinds).at.stopped ≡ 0
