-- What the calls on cut words rely on and give.
use Rattle.std.specs.Prelude.{◌≡◌, Bool, ◌&&◌, List, ℕ, ◌+◌, ◌-◌, ◌*◌, ◌≤◌, ◌<◌, length, get_or, take, drop, replicate, eqb, ltb}
use Rattle.item.specs.Item.{item_words, rule_at}
use Rattle.bits.specs.Width.{row_words}
use Rattle.binary_heap.specs.Entry.{entry_words}
use Rattle.recognizer.specs.declared.within.Ends.{Ends}
use Rattle.node.specs.Reading.{filler}
use Rattle.parse.specs.declared.State.{State}
use Rattle.parse.specs.Words.{Words, item_room, set_room, queue_room, store_room, within, beyond, behind, padded}

-- How many words and units there are within the capacities.
pub record Measures (w : Words) (e : Ends) : Type 0 where
  pub items : e.items ≡ item_words * item_room w
  pub starts : e.starts ≡ set_room w + 1
  pub rows : e.rows ≡ row_words * set_room w
  pub queue : e.queue ≡ entry_words * queue_room w
  pub store : e.store ≡ store_room w

-- Words cleared, the store filled, with a row in row 0.
abbrev pub cleared_words : List ℕ → Words → Words
cleared_words row v =
    record {
      items = replicate (length v.items) 0;
      starts = replicate (length v.starts) 0;
      rows = padded (length v.rows) row;
      queue = replicate (length v.queue) 0;
      store = replicate (length v.store) filler;
    }

-- The words within the capacities so, and the words past them as they were.
abbrev pub begun_words : List ℕ → Words → Words
begun_words row w = behind (cleared_words row (within w)) (beyond w)

-- The start of the latest set is there, and so are its items.
pub record LatestThere (s : State) (items starts : List ℕ) : Type 0 where
  pub set_there : s.set < length starts
  pub upwards : get_or starts s.set 0 ≤ s.items
  pub items_there : item_words * s.items ≤ length items

abbrev pub last_wraps_in : State → List ℕ → List ℕ → Bool
last_wraps_in s items starts = ltb (get_or starts s.set 0) s.items && eqb (rule_at items (s.items - 1)) 0

abbrev pub latest_part_in : State → List ℕ → List ℕ → List ℕ
latest_part_in s items starts = take (item_words * s.items - item_words * get_or starts s.set 0) (drop (item_words * get_or starts s.set 0) items)
