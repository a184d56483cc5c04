-- Words within the capacities: few, with whole entries, and a start for each row and one behind.
use mathlib.Core.Path.{◌≡◌, refl, ◌∙◌}
use Prim.Native.Nat.{◌*◌, ◌/◌, ◌≤◌, ◌<◌}
use native.Mathlib.Omega.{arith}
use lib.ListN.{length}
use Rattle.item.specs.Item.{item_words}
use Rattle.binary_heap.specs.Entry.{entry_words}
use Rattle.node.specs.Writing.{usable_units}
use Rattle.parse.specs.Words.{Words, max_items, max_queued, set_room, within}
use Rattle.parse.proofs.Capacities.{SameSizes, queue-within, store-usable, sets-room}
use Rattle.completion.specs.inner.Ready.{Rowed}
use Rattle.completion.proofs.Beginning.{within-few_items, within-few_entries, within-rowed}

pub record Cut (v : Words) : Type 0 where
  pub few_items : length v.items ≤ item_words * max_items
  pub few_entries : length v.queue ≤ entry_words * max_queued
  pub whole_entries : length v.queue ≡ entry_words * (length v.queue / entry_words)
  pub few_units : length v.store ≤ usable_units
  pub rowed : Rowed v.starts v.rows

-- With room for a set the words within the capacities are so.
pub within-cut : (w : Words) → 0 < set_room w → Cut (within w)
within-cut w some = record {
  few_items = within-few_items w;
  few_entries = within-few_entries w;
  whole_entries = omega (arith, queue-within w);
  few_units = store-usable w;
  rowed = within-rowed w (omega (arith, sets-room w));
}

-- So are words of the same sizes.
pub cut-same : {v u : Words} → SameSizes v u → Cut u → Cut v
cut-same {v} {u} same cut = record {
  few_items = omega (arith, same.items, cut.few_items);
  few_entries = omega (arith, same.queue, cut.few_entries);
  whole_entries = omega (arith, same.queue, cut.whole_entries);
  few_units = omega (arith, same.store, cut.few_units);
  rowed = record {
    few_sets = omega (arith, same.rows, cut.rowed.few_sets);
    sets = omega (arith, same.starts, same.rows, cut.rowed.sets);
  };
}

-- Sizes are the same both ways, and on and on.
pub sizes_refl : (v : Words) → SameSizes v v
sizes_refl v = record { items = refl; starts = refl; rows = refl; queue = refl; store = refl }

pub sizes_trans : {v u w : Words} → SameSizes v u → SameSizes u w → SameSizes v w
sizes_trans a b = record {
  items = a.items ∙ b.items;
  starts = a.starts ∙ b.starts;
  rows = a.rows ∙ b.rows;
  queue = a.queue ∙ b.queue;
  store = a.store ∙ b.store;
}
