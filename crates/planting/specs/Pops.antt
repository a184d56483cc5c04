-- The order in which a sum's summands are popped.
use Rattle.std.specs.Prelude.{◌≡◌, true, false, List, [], ◌∷◌, map, ℕ, zero, suc, eqb}
use Rattle.item.specs.Item.{rule_at, handle_at}
use Rattle.binary_heap.specs.Entry.{Entry}
use Rattle.binary_heap.specs.Sift.{entry_at}
use Rattle.grammar.specs.Rules.{Grammar, Rule}
use Rattle.node.specs.Choice.{pick}
use Rattle.node.specs.Rows.{all_ones}
use Rattle.parse.specs.declared.State.{State}
use Rattle.parse.specs.Words.{Words}
use Rattle.parse.specs.WellFormed.{left_of}
use Rattle.completion.specs.Pass.{Pass}
use Rattle.completion.specs.Sums.{greatest, sum_ends, pop_greatest, complete_sum, rests}
use Rattle.demands.specs.Steps.{scanned}
use Rattle.forest.specs.Forests.{Product, alone, paired}

-- A pass that a position's step comes to: behind its kinds, and behind each sum.
pub data Reached (g : Grammar) (s : State) (v : Words) (kinds : List ℕ) : Pass → Type 0 where
  kinds_scanned : Reached g s v kinds (scanned g s v kinds)
  sum : {u : Pass} → Reached g s v kinds u → rests u ≡ false → Reached g s v kinds (complete_sum g.rules v.starts v.rows u)

-- The entries of one origin and left side that a queue gives, greatest first.
unfoldable pub popped_of : List Rule → ℕ → ℕ → ℕ → Pass → List Entry
popped_of rs k x zero u = []
popped_of rs k x (suc n) u = elim (sum_ends rs k x u) [ true ↦ [] | false ↦ entry_at u.queue 0 ∷ popped_of rs k x n (pop_greatest u) ]

-- Those of the greatest entry's pair.
abbrev pub popped : List Rule → Pass → List Entry
popped rs u = popped_of rs (greatest u).origin (left_of rs (greatest u)) u.at.queued u

-- The product of an entry: its item's rule and handle, and its right factor, unless that is all ones.
abbrev pub product_of : List ℕ → Entry → Product
product_of items e =
    pick (eqb e.right all_ones) (alone (rule_at items e.place) (handle_at items e.place))
    (paired (rule_at items e.place) (handle_at items e.place) e.right)

-- The Products of the Sum of (k, x) at `h` are those that the step popped, in the order of its pops, when it came to this pair.
pub record Popped (g : Grammar) (s : State) (v : Words) (kinds : List ℕ) (k x h : ℕ) (products : List Product) : Type 0 where
  pub pass : Pass
  pub reached : Reached g s v kinds pass
  pub set : (greatest pass).origin ≡ k
  pub symbol : left_of g.rules (greatest pass) ≡ x
  pub handle : pass.at.used ≡ h
  pub in_order : products ≡ map (product_of pass.items) (popped g.rules pass)
