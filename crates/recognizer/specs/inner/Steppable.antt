-- What a step relies on: rules of an accepted grammar, a row for each symbol, and a well-formed state in words within the capacities.
use Rattle.std.specs.Prelude.{◌≡◌, List, ℕ, ◌*◌, ◌/◌, ◌≤◌, length, Result, IfOk}
use Rattle.item.specs.Item.{item_words}
use Rattle.binary_heap.specs.Entry.{entry_words}
use Rattle.node.specs.Writing.{usable_units}
use Rattle.grammar.specs.Accepted.{Accepted}
use Rattle.grammar.specs.Rules.{Grammar}
use Rattle.parse.specs.declared.State.{State}
use Rattle.parse.specs.Words.{Words, max_items, max_queued}
use Rattle.parse.specs.WellFormed.{WellFormed}
use Rattle.completion.specs.Pass.{Pass, Progress, pass_over}
use Rattle.completion.specs.Lent.{stopped_by}
use Rattle.completion.specs.declared.pass.Full.{Full}
use Rattle.completion.specs.inner.Ready.{Rowed}
use Rattle.bits.specs.Width.{row_words}
use Rattle.prediction.specs.inner.Tables.{Shape}
use Rattle.recognizer.specs.declared.step.Reached.{Reached}

pub record Steppable (g : Grammar) (table : List (List ℕ)) (s : State) (v : Words) : Type 0 where
  pub accepted : Accepted g
  pub shape : Shape row_words table
  pub well_formed : WellFormed g.symbols g.rules s v
  pub rowed : Rowed v.starts v.rows
  pub few_items : length v.items ≤ item_words * max_items
  pub few_entries : length v.queue ≤ entry_words * max_queued
  pub whole_entries : length v.queue ≡ entry_words * (length v.queue / entry_words)
  pub few_units : length v.store ≤ usable_units

-- What the pass of a position came to, in the words that it was lent: `r` is what it answers.
pub record CameTo (r : Result Reached Full) (items queue units : List ℕ) (p : Pass) : Type 0 where
  pub at : Progress
  pub is : pass_over at items queue units ≡ p
  pub stopped : at.stopped ≡ stopped_by r
  pub reached : IfOk r (λ to. (to.items ≡ at.items) × (to.used ≡ at.used))
