-- A completion pass on its way: items are stored behind those of the sets, places of items are queued, and nodes are written behind the used
-- units.
use Rattle.std.specs.Prelude.{true, false, List, ℕ, ◌+◌, ◌/◌, length, eqb, ltb}
use Rattle.item.specs.Item.{item_words, stored}
use Rattle.binary_heap.specs.Entry.{Entry, entries_in, entry_key}
use Rattle.binary_heap.specs.Queue.{push_queue}
use Rattle.node.specs.Answers.{Values, nothing, position, node, end, nodes, values_of}
use Rattle.node.specs.Writing.{write_at}
use Rattle.node.specs.declared.Node.{Node}

-- How far a pass has come: the refusal that it met, or 0; the items stored so far, those of the sets included; the entries of the queue; the
-- used units of the store.
pub record Progress : Type 0 where
  pub stopped : ℕ
  pub items : ℕ
  pub queued : ℕ
  pub used : ℕ

pub record Pass : Type 0 where
  pub at : Progress
  pub items : List ℕ
  pub queue : List Entry
  pub units : List ℕ

abbrev pub pass_with : Progress → List ℕ → List Entry → List ℕ → Pass
pass_with at items queue units = record { at = at; items = items; queue = queue; units = units }

-- A pass with the entries that words hold, over a store.
abbrev pub pass_over : Progress → List ℕ → List ℕ → List ℕ → Pass
pass_over at items words units = pass_with at items (entries_in words) units

-- The refusals: no place for an item, no place in the queue, no place for a node.
abbrev pub items_full : ℕ
items_full = 7

abbrev pub queue_full : ℕ
queue_full = 8

abbrev pub store_full : ℕ
store_full = 14

-- A pass that met a refusal stays as it is.
abbrev pub refused : ℕ → Pass → Pass
refused number s =
    record {
      at = record { stopped = number; items = s.at.items; queued = s.at.queued; used = s.at.used };
      items = s.items;
      queue = s.queue;
      units = s.units;
    }

unfoldable pub and_then : Pass → (Pass → Pass) → Pass
and_then s next = elim (eqb s.at.stopped 0) [ true ↦ next s | false ↦ s ]

-- An item is stored behind the others, with the handle of its first symbol's node.
unfoldable pub store : ℕ → ℕ → ℕ → Pass → Pass
store origin rule handle s =
    elim (ltb s.at.items (length s.items / item_words)) [
      | true ↦
          record {
            at = record { stopped = 0; items = s.at.items + 1; queued = s.at.queued; used = s.at.used };
            items = stored s.items s.at.items (record { origin = origin; rule = rule; handle = handle });
            queue = s.queue;
            units = s.units;
          }
      | false ↦ refused items_full s
    ]

-- The place of an item is queued, with the handle of the node of the symbol behind its dot.
unfoldable pub enqueue : ℕ → ℕ → Pass → Pass
enqueue place right s =
    elim (ltb s.at.queued (length s.queue)) [
      | true ↦
          record {
            at = record { stopped = 0; items = s.at.items; queued = s.at.queued + 1; used = s.at.used };
            items = s.items;
            queue = push_queue (entry_key s.items) (length s.queue) s.queue s.at.queued (record { place = place; right = right });
            units = s.units;
          }
      | false ↦ refused queue_full s
    ]

-- What the node writer left, where it tells the position behind the node; else the refusal.
unfoldable pub written : Pass → List ℕ → Values → Pass
written s units (position behind) =
    record {
      at = record { stopped = 0; items = s.at.items; queued = s.at.queued; used = behind };
      items = s.items;
      queue = s.queue;
      units = units;
    }
written s units nothing = refused store_full s
written s units (node n behind) = refused store_full s
written s units end = refused store_full s
written s units (nodes count behind) = refused store_full s

-- A node is written behind the used units.
unfoldable pub append : Node → Pass → Pass
append n s =
    and_then s (λ s. written s (write_at s.units s.at.used n).store (values_of (write_at s.units s.at.used n).answer))
