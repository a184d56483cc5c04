-- The words that a host lends to a parse, and how many of them count.
use Rattle.std.specs.Prelude.{◌≡◌, List, ◌++◌, ℕ, ◌+◌, ◌-◌, ◌*◌, ◌/◌, min, length, get_or, take, drop, replicate}
use Rattle.item.specs.Item.{item_words}
use Rattle.bits.specs.Width.{row_words}
use Rattle.binary_heap.specs.Entry.{entry_words}
use Rattle.node.specs.Writing.{usable_units}
use Rattle.node.specs.Reading.{filler}
use Rattle.parse.specs.declared.View.{View}
use Rattle.parse.specs.declared.Words.{Words as Lent}

-- Items are three words each, origin, rule and handle; a start is a word; a predicted row is `row_words` words; a queue entry is two words, a
-- place and a right factor; the store of nodes is u16 units.
pub record Words : Type 0 where
  pub items : List ℕ
  pub starts : List ℕ
  pub rows : List ℕ
  pub queue : List ℕ
  pub store : List ℕ

-- The words of a parse, from the five slices.
abbrev pub words_of : List ℕ → List ℕ → List ℕ → List ℕ → List ℕ → Words
words_of items starts rows queue store = record { items = items; starts = starts; rows = rows; queue = queue; store = store }

-- The words that a host lends to be changed, and those that it lends to be read.
abbrev pub words_in : Lent → Words
words_in lent = words_of lent.items.now lent.starts.now lent.rows.now lent.queue.now lent.store.now

abbrev pub seen : View → Words
seen view = words_of view.items.now view.starts.now view.rows.now view.queue.now view.store.now

-- They are still the host's own slices.
abbrev pub Kept : Lent → Lent → Type 0
Kept old new =
    (new.items.ghost_name ≡ old.items.ghost_name) × (new.starts.ghost_name ≡ old.starts.ghost_name) × (new.rows.ghost_name ≡ old.rows.ghost_name)
    × (new.queue.ghost_name ≡ old.queue.ghost_name) × (new.store.ghost_name ≡ old.store.ghost_name)

-- Words, and `spare` behind them up to `size` words.
abbrev pub topped : {A : Type 0} → A → ℕ → List A → List A
topped spare size words = words ++ replicate (size - length words) spare

-- The spare one is 0 of words,
abbrev pub padded : ℕ → List ℕ → List ℕ
padded = topped 0

-- and the filler of units.
abbrev pub filled : ℕ → List ℕ → List ℕ
filled = topped filler

-- The most items, sets and queue entries.
abbrev pub max_items : ℕ
max_items = 4096

abbrev pub max_sets : ℕ
max_sets = 1024

abbrev pub max_queued : ℕ
max_queued = 1024

-- I: a third of the item words.
abbrev pub item_room_of : List ℕ → ℕ
item_room_of items = min max_items (length items / item_words)

abbrev pub item_room : Words → ℕ
item_room w = item_room_of w.items

-- E: the starts less one, the row words by rows.
abbrev pub set_room_of : List ℕ → List ℕ → ℕ
set_room_of starts rows = min max_sets (min (length starts - 1) (length rows / row_words))

abbrev pub set_room : Words → ℕ
set_room w = set_room_of w.starts w.rows

-- Q: half the queue's words.
abbrev pub queue_room_of : List ℕ → ℕ
queue_room_of queue = min max_queued (length queue / entry_words)

abbrev pub queue_room : Words → ℕ
queue_room w = queue_room_of w.queue

-- U: the usable units.
abbrev pub store_room_of : List ℕ → ℕ
store_room_of store = min usable_units (length store)

abbrev pub store_room : Words → ℕ
store_room w = store_room_of w.store

-- The words within the capacities. Only they belong to the parse.
abbrev pub within : Words → Words
within w =
    record {
      items = take (item_words * item_room w) w.items;
      starts = take (set_room w + 1) w.starts;
      rows = take (row_words * set_room w) w.rows;
      queue = take (entry_words * queue_room w) w.queue;
      store = take (store_room w) w.store;
    }

-- The words past the capacities, which no call touches.
abbrev pub beyond : Words → Words
beyond w =
    record {
      items = drop (item_words * item_room w) w.items;
      starts = drop (set_room w + 1) w.starts;
      rows = drop (row_words * set_room w) w.rows;
      queue = drop (entry_words * queue_room w) w.queue;
      store = drop (store_room w) w.store;
    }

-- Words, and other words behind them.
abbrev pub behind : Words → Words → Words
behind v b =
    record {
      items = v.items ++ b.items;
      starts = v.starts ++ b.starts;
      rows = v.rows ++ b.rows;
      queue = v.queue ++ b.queue;
      store = v.store ++ b.store;
    }

-- Of words within their capacities: the place behind the last item of set `k - 1`, where those of set `k` start.
abbrev pub start_of : Words → ℕ → ℕ
start_of v k = get_or v.starts k 0
