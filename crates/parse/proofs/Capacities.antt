-- Laws of the capacities.
use mathlib.Core.Path.{◌≡◌}
use Prim.Native.Nat.{◌+◌, ◌*◌, ◌/◌, ◌≤◌}
use native.Mathlib.Omega.{arith}
use lib.ListN.{length, take-append-drop}
use lib.Seq.{length-take-le, length_front, take_at, drop_at}
use Rattle.item.specs.Item.{item_words}
use Rattle.bits.specs.Width.{row_words}
use Rattle.binary_heap.specs.Entry.{entry_words}
use Rattle.node.specs.Writing.{usable_units}
use Rattle.parse.specs.Words.{Words, item_room, set_room, queue_room, store_room, within, beyond, behind}

module _ (w : Words) where
  -- Within the capacities there are three words for each of I items ..
  pub items-within : length (within w).items ≡ item_words * item_room w
  items-within = length-take-le (item_words * item_room w) w.items (omega arith)

  -- .. with room for a set, a start more than E ..
  pub starts-within : 1 ≤ set_room w → length (within w).starts ≡ set_room w + 1
  starts-within some = length-take-le (set_room w + 1) w.starts (omega arith)

  -- .. a row for each of E sets ..
  pub rows-within : length (within w).rows ≡ row_words * set_room w
  rows-within = length-take-le (row_words * set_room w) w.rows (omega arith)

  -- .. two words for each of Q queue entries ..
  pub queue-within : length (within w).queue ≡ entry_words * queue_room w
  queue-within = length-take-le (entry_words * queue_room w) w.queue (omega arith)

  -- .. and U units.
  pub store-within : length (within w).store ≡ store_room w
  store-within = length-take-le (store_room w) w.store (omega arith)

  -- These are usable.
  pub store-usable : length (within w).store ≤ usable_units
  store-usable = omega (arith, store-within)

  -- I, E, and Q, read off those words.
  pub items-room : length (within w).items / item_words ≡ item_room w
  items-room = omega (arith, items-within)

  pub sets-room : length (within w).rows / row_words ≡ set_room w
  sets-room = omega (arith, rows-within)

  pub queue_room_lem : length (within w).queue / entry_words ≡ queue_room w
  queue_room_lem = omega (arith, queue-within)

  -- With room for a set there is a start more than rows.
  pub starts-and-rows : 1 ≤ set_room w → length (within w).starts ≡ length (within w).rows / row_words + 1
  starts-and-rows some = omega (arith, starts-within some, sets-room)

  -- The words within the capacities, and those past them behind, are the words.
  pub split-whole : behind (within w) (beyond w) ≡ w
  split-whole = λ k. record {
    items = take-append-drop (item_words * item_room w) w.items k;
    starts = take-append-drop (set_room w + 1) w.starts k;
    rows = take-append-drop (row_words * set_room w) w.rows k;
    queue = take-append-drop (entry_words * queue_room w) w.queue k;
    store = take-append-drop (store_room w) w.store k;
  }

-- Words of the same number of each kind.
pub record SameSizes (v u : Words) : Type 0 where
  pub items : length v.items ≡ length u.items
  pub starts : length v.starts ≡ length u.starts
  pub rows : length v.rows ≡ length u.rows
  pub queue : length v.queue ≡ length u.queue
  pub store : length v.store ≡ length u.store

-- With room for a set, words put in the place of those within the capacities are those within them, and leave those past them.
module _ (w v : Words) (some : 1 ≤ set_room w) (same : SameSizes v (within w)) where
  abbrev new : Words
  new = behind v (beyond w)

  -- What is put in their place does not change a length.
  items-new : length new.items ≡ length w.items
  items-new = length_front w.items v.items (item_words * item_room w) same.items

  starts-new : length new.starts ≡ length w.starts
  starts-new = length_front w.starts v.starts (set_room w + 1) same.starts

  rows_new : length new.rows ≡ length w.rows
  rows_new = length_front w.rows v.rows (row_words * set_room w) same.rows

  queue-new : length new.queue ≡ length w.queue
  queue-new = length_front w.queue v.queue (entry_words * queue_room w) same.queue

  store-new : length new.store ≡ length w.store
  store-new = length_front w.store v.store (store_room w) same.store

  pub within_new : within new ≡ v
  within_new = λ k. record {
    items = take_at v.items (beyond w).items (item_words * item_room new) (omega (arith, same.items, items-within w, items-new)) k;
    starts = take_at v.starts (beyond w).starts (set_room new + 1) (omega (arith, same.starts, starts-within w some, starts-new, rows_new)) k;
    rows = take_at v.rows (beyond w).rows (row_words * set_room new) (omega (arith, same.rows, rows-within w, starts-new, rows_new)) k;
    queue = take_at v.queue (beyond w).queue (entry_words * queue_room new) (omega (arith, same.queue, queue-within w, queue-new)) k;
    store = take_at v.store (beyond w).store (store_room new) (omega (arith, same.store, store-within w, store-new)) k;
  }

  pub beyond-new : beyond new ≡ beyond w
  beyond-new = λ k. record {
    items = drop_at v.items (beyond w).items (item_words * item_room new) (omega (arith, same.items, items-within w, items-new)) k;
    starts = drop_at v.starts (beyond w).starts (set_room new + 1) (omega (arith, same.starts, starts-within w some, starts-new, rows_new)) k;
    rows = drop_at v.rows (beyond w).rows (row_words * set_room new) (omega (arith, same.rows, rows-within w, starts-new, rows_new)) k;
    queue = drop_at v.queue (beyond w).queue (entry_words * queue_room new) (omega (arith, same.queue, queue-within w, queue-new)) k;
    store = drop_at v.store (beyond w).store (store_room new) (omega (arith, same.store, store-within w, store-new)) k;
  }
