-- Step 3: pop greatest first; all entries of one origin and left side form one sum; its nodes are written, and then that pair is completed;
-- repeat until empty.
use Rattle.std.specs.Prelude.{Bool, ◌&&◌, not, ◌||◌, List, ℕ, ◌-◌, ◌*◌, length, take, eqb}
use Rattle.laws.specs.Turns.{until}
use Rattle.laws.specs.Counts.{count}
use Rattle.item.specs.Item.{Item, item_at, rule_at, handle_at}
use Rattle.binary_heap.specs.Entry.{Entry, entry_key}
use Rattle.binary_heap.specs.Sift.{entry_at}
use Rattle.binary_heap.specs.Queue.{pop_queue}
use Rattle.node.specs.Reading.{long_right}
use Rattle.node.specs.declared.Node.{Node}
use Rattle.node.specs.declared.Node.TheVariants.{Sum, Product}
use Rattle.grammar.specs.Rules.{Rule}
use Rattle.parse.specs.WellFormed.{left_of}
use Rattle.completion.specs.Pass.{Pass, append}
use Rattle.completion.specs.Complete.{complete}

-- The item of the greatest entry.
abbrev pub greatest : Pass → Item
greatest s = item_at s.items (entry_at s.queue 0).place

-- An item is of one origin and left side.
abbrev pub is_of : List Rule → ℕ → ℕ → Item → Bool
is_of rs k x i = eqb i.origin k && eqb (left_of rs i) x

-- How many entries of the queue are.
abbrev pub summands : List Rule → ℕ → ℕ → Pass → ℕ
summands rs k x s = count (λ (e : Entry). is_of rs k x (item_at s.items e.place)) (take s.at.queued s.queue)

-- The summand of an entry: the rule number for action, the item's handle, and the entry's right factor.
abbrev pub product_node : List ℕ → Entry → Node
product_node items e = Product (rule_at items e.place) (handle_at items e.place) (long_right e.right)

-- The queue is empty, or its greatest entry is of another origin or left side.
abbrev pub sum_ends : List Rule → ℕ → ℕ → Pass → Bool
sum_ends rs k x s = eqb s.at.queued 0 || not (is_of rs k x (greatest s))

-- The greatest entry is popped.
unfoldable pub pop_greatest : Pass → Pass
pop_greatest s =
    record {
      at = record { stopped = s.at.stopped; items = s.at.items; queued = s.at.queued - 1; used = s.at.used };
      items = s.items;
      queue = pop_queue (entry_key s.items) s.queue s.at.queued;
      units = s.units;
    }

-- And its Product is written.
unfoldable pub next_summand : Pass → Pass
next_summand s = append (product_node s.items (entry_at s.queue 0)) (pop_greatest s)

-- All entries of one origin and left side are popped.
unfoldable pub pop_sum : List Rule → ℕ → ℕ → Pass → Pass
pop_sum rs k x s = until s.at.queued (sum_ends rs k x) next_summand s

-- One sum: the Sum is written, and then its Products.
abbrev pub summed : List Rule → ℕ → ℕ → Pass → Pass
summed rs k x s = pop_sum rs k x (append (Sum (summands rs k x s) x) s)

-- And then the pair is completed, with the handle of the Sum.
unfoldable pub complete_sum : List Rule → List ℕ → List ℕ → Pass → Pass
complete_sum rs starts rows s =
    complete rs starts rows (greatest s).origin (left_of rs (greatest s)) s.at.used (summed rs (greatest s).origin (left_of rs (greatest s)) s)

-- The pass rests when the queue is empty, or when something was refused.
abbrev pub rests : Pass → Bool
rests s = not (eqb s.at.stopped 0) || eqb s.at.queued 0

-- Each pair of an origin and a left side is completed once at the most, so as many sums as there are pairs of a set and a rule suffice.
unfoldable pub complete_all_sums : List Rule → List ℕ → List ℕ → Pass → Pass
complete_all_sums rs starts rows s = until (length starts * length rs) rests (complete_sum rs starts rows) s
