-- What steps 4 to 6 ask of the words.
use Rattle.std.specs.Prelude.{◌≡◌, List, ℕ, ◌+◌, ◌*◌, ◌/◌, ◌≤◌, ◌<◌, length, get_or, replicate}
use Rattle.laws.specs.Bits.{row_of}
use Rattle.bits.specs.Width.{row_words}
use Rattle.item.specs.Item.{item_words, origin_at, rule_at}
use Rattle.grammar.specs.Rules.{none}
use Rattle.grammar.specs.Accepted.{max_symbols}
use Rattle.grammar.specs.inner.Decoded.{second_in}
use Rattle.prediction.specs.inner.Tables.{Shape}
use Rattle.parse.specs.inner.Parts.{Clear}
use Rattle.parse.specs.declared.State.{State}
use Rattle.parse.specs.Words.{Words, max_items, start_of}
use Rattle.advance.specs.inner.Order.{Stored}
use Rattle.advance.specs.Advance.{last_kept}

-- Sets 0..e have their items, starts and rows, with the new items behind them, and every word behind those is 0.
pub record Prunable (e : ℕ) (items starts rows : List ℕ) (from to m : ℕ) : Type 0 where
  pub runs : from ≤ to
  pub there : item_words * to ≤ length items
  pub starts_there : e + 2 ≤ length starts
  pub rows_there : row_words * (e + 1) ≤ length rows
  pub never_falls : (k : ℕ) → k ≤ e → get_or starts k 0 ≤ get_or starts (k + 1) 0
  pub last_start : get_or starts (e + 1) 0 ≡ from
  pub spare_items : Clear items (item_words * to)
  pub spare_starts : Clear starts (e + 2)
  pub spare_rows : Clear rows (row_words * (e + 1))
  pub reaches : m ≤ e

-- Items with a second, a row for each, and a row of 0 to put them into.
pub record Predictable (rules : List ℕ) (count : ℕ) (table : List (List ℕ)) (items rows : List ℕ) (from to k : ℕ) : Type 0 where
  pub held : Stored count items from to
  pub seconds : (p : ℕ) → from ≤ p → p < to → second_in rules (rule_at items p) < max_symbols
  pub shape : Shape row_words table
  pub row_there : row_words * k + row_words ≤ length rows
  pub row_clear : row_of row_words rows k ≡ replicate row_words 0

-- What steps 5 and 6 ask.
pub record Followable (rules : List ℕ) (count : ℕ) (table : List (List ℕ)) (e : ℕ) (items starts rows : List ℕ) (from to m : ℕ) : Type 0 where
  pub prunable : Prunable e items starts rows from to m
  pub held : Stored count items from to
  pub room : to ≤ max_items
  pub seconds : (p : ℕ) → from ≤ p → p < to → second_in rules (rule_at items p) < max_symbols
  pub shape : Shape row_words table
  pub starts_fit : last_kept e m + 3 ≤ length starts
  pub rows_fit : row_words * (last_kept e m + 2) ≤ length rows

-- What a well formed state and a finished step 3 give: new items up to the place `to`, with origins among the sets, and 0 behind them.
pub record Advanceable (rules : List ℕ) (count : ℕ) (table : List (List ℕ)) (s : State) (v : Words) (to : ℕ) : Type 0 where
  pub set_fits : s.set < length v.rows / row_words
  pub starts_fit : length v.starts ≡ length v.rows / row_words + 1
  pub never_falls : (k : ℕ) → k ≤ s.set → start_of v k ≤ start_of v (k + 1)
  pub last_start : start_of v (s.set + 1) ≡ s.items
  pub new : Stored count v.items s.items to
  pub room : to ≤ max_items
  pub origins : (p : ℕ) → s.items ≤ p → p < to → origin_at v.items p ≤ s.set
  pub spare_items : Clear v.items (item_words * to)
  pub spare_starts : Clear v.starts (s.set + 2)
  pub spare_rows : Clear v.rows (row_words * (s.set + 1))
  pub seconds : (r : ℕ) → r < count → (second_in rules r ≡ none → ⊥) → second_in rules r < max_symbols
  pub shape : Shape row_words table
