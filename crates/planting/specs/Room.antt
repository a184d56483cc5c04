-- A NODE IS NEVER UNFIT: the writer's 10 cannot come in a step, and refusal 14 is for room alone.
use Rattle.std.specs.Prelude.{◌≡◌, false, List, ◌↔◌, ℕ, ◌+◌, ◌<◌, length, get_or, take}
use Rattle.laws.specs.Turns.{until}
use Rattle.binary_heap.specs.Sift.{entry_at}
use Rattle.grammar.specs.Rules.{Grammar}
use Rattle.node.specs.Rows.{unfit, units_at}
use Rattle.node.specs.Writing.{usable}
use Rattle.node.specs.declared.Node.{Node}
use Rattle.node.specs.declared.Node.TheVariants.{Sum, Evaluated}
use Rattle.parse.specs.declared.State.{State}
use Rattle.parse.specs.Words.{Words}
use Rattle.parse.specs.WellFormed.{left_of}
use Rattle.completion.specs.Pass.{Pass, append, store_full}
use Rattle.completion.specs.Sums.{greatest, summands, product_node, sum_ends, pop_greatest, next_summand, rests}
use Rattle.demands.specs.Steps.{scanned, completed}
use Rattle.planting.specs.Unrefused.{InRow}
use Rattle.planting.specs.Pops.{Reached}

-- The Sum of a pass's greatest entry.
abbrev pub sum_node : Grammar → Pass → Node
sum_node g u = Sum (summands g.rules (greatest u).origin (left_of g.rules (greatest u)) u) (left_of g.rules (greatest u))

-- The pass in which the Sum was written, and then `n` summands popped and written, as far as there are.
abbrev pub summands_on : Grammar → Pass → ℕ → Pass
summands_on g u n = until n (sum_ends g.rules (greatest u).origin (left_of g.rules (greatest u))) next_summand (append (sum_node g u) u)

-- The nodes that a position's step writes, each with the pass that is to write it: that of a kind that the latest row has, behind the kinds before
-- it; a Sum; and the Product of a summand.
pub data Due (g : Grammar) (s : State) (v : Words) (kinds : List ℕ) : Pass → Node → Type 0 where
  leaf : (i : ℕ) → i < length kinds → InRow v s.set (get_or kinds i 0)
      → Due g s v kinds (scanned g s v (take i kinds)) (Evaluated (get_or kinds i 0))
  sum : {u : Pass} → Reached g s v kinds u → rests u ≡ false → Due g s v kinds u (sum_node g u)
  product : {u : Pass} (n : ℕ) → Reached g s v kinds u → rests u ≡ false
      → sum_ends g.rules (greatest u).origin (left_of g.rules (greatest u)) (summands_on g u n) ≡ false
      → Due g s v kinds (pop_greatest (summands_on g u n)) (product_node (summands_on g u n).items (entry_at (summands_on g u n).queue 0))

-- A node that was due did not fit: the usable units end before it does.
pub record Lacks (g : Grammar) (s : State) (v : Words) (kinds : List ℕ) : Type 0 where
  pub pass : Pass
  pub node : Node
  pub due : Due g s v kinds pass node
  pub on : pass.at.stopped ≡ 0
  pub full : length (usable pass.units) < pass.at.used + length (units_at pass.at.used node)

-- Each node is fit where it is due, so it is refused exactly where it does not fit; and a step that is refused with 14 met such a node.
pub record RoomAlone (g : Grammar) (s : State) (v : Words) (kinds : List ℕ) : Type 0 where
  pub fit : {u : Pass} {n : Node} → Due g s v kinds u n → unfit u.at.used n ≡ false
  pub room : {u : Pass} {n : Node} → Due g s v kinds u n → u.at.stopped ≡ 0
      → ((append n u).at.stopped ≡ store_full) ↔ (length (usable u.units) < u.at.used + length (units_at u.at.used n))
  pub lacks : (completed g s v kinds).at.stopped ≡ store_full → Lacks g s v kinds
