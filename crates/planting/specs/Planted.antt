-- THE LAW THAT THE TREES NEED: what a position's step has written where it was not refused.
use Rattle.std.specs.Prelude.{◌≡◌, true, ◌↔◌, ℕ, ◌+◌, ◌≤◌, ◌<◌, length, get_or, take}
use mathlib.Core.List.{List, Memᴰ as Member}
use Rattle.laws.specs.Counts.{count}
use Rattle.item.specs.Item.{origin_at, rule_at, handle_at}
use Rattle.grammar.specs.Rules.{Grammar, rule_at as grammar_rule}
use Rattle.grammar.specs.File.{grammar_of}
use Rattle.node.specs.Rows.{units_at}
use Rattle.node.specs.Writing.{usable}
use Rattle.node.specs.Reading.{stand}
use Rattle.node.specs.declared.Node.{Node as Written}
use Rattle.node.specs.declared.Node.TheVariants.{Sum}
use Rattle.parse.specs.declared.State.{State}
use Rattle.parse.specs.Words.{Words, within}
use Rattle.completion.specs.Complete.{predicted}
use Rattle.demands.specs.Steps.{Outcome, completed}
use Rattle.forest.specs.Lists.{Once}
use Rattle.forest.specs.Forests.{Product, token, sum, FactorOf}
use Rattle.forest.specs.Stores.{node_at}
use Rattle.planting.specs.Unrefused.{InRow}
use Rattle.planting.specs.Pairs.{Completes, Summand}
use Rattle.planting.specs.Pops.{Popped}

-- A pair was completed, with the node at some handle.
pub record HasNode (NodeOf : ℕ → ℕ → ℕ → Type 0) (k x : ℕ) : Type 0 where
  pub handle : ℕ
  pub is : NodeOf k x handle

-- At `h` stands a Sum of x, with the number of its Products, which are exactly the summands of (k, x), each once, in the order of the pops, with
-- factors before the Sum.
pub record SumOf (g : Grammar) (s : State) (v : Words) (kinds : List ℕ) (NodeOf : ℕ → ℕ → ℕ → Type 0) (k x h : ℕ) : Type 0 where
  pub products : List Product
  pub written : stand (usable (completed g s v kinds).units) h (units_at h (Sum (length products) x)) ≡ true
  pub stands : node_at (completed g s v kinds).units h ≡ sum products
  pub exactly : (p : Product) → Member p products ↔ Summand g v NodeOf k x p
  pub once : Once products
  pub popped : Popped g s v kinds k x h products
  pub before : (p : Product) (q : ℕ) → Member p products → FactorOf q p → q < h

-- `NodeOf k x h`: the step completed (k, x), with the node at h.
pub record Planted (g : Grammar) (s : State) (v : Words) (kinds : List ℕ) : Type 1 where
  pub NodeOf : ℕ → ℕ → ℕ → Type 0
  -- each pair that is completed has one node, and no other pair has one
  pub completes : {k x : ℕ} → Completes g s v kinds k x ↔ HasNode NodeOf k x
  pub one_node : {k x h h' : ℕ} → NodeOf k x h → NodeOf k x h' → h ≡ h'
  -- and no node is of two pairs
  pub one_pair : {k x l y h : ℕ} → NodeOf k x h → NodeOf l y h → (k ≡ l) × (x ≡ y)
  -- the node of a kind is its leaf, and that of a nonterminal a Sum
  pub leaf : {k x h : ℕ} → NodeOf k x h → x < g.tokens → node_at (completed g s v kinds).units h ≡ token x
  pub sums : {k x h : ℕ} → NodeOf k x h → g.tokens ≤ x → SumOf g s v kinds NodeOf k x h
  -- the leaves are the first nodes, one behind another in the order of the kinds
  pub leaves : (i : ℕ) → i < length kinds → InRow v s.set (get_or kinds i 0)
      → NodeOf s.set (get_or kinds i 0) (s.used + count (predicted v.rows s.set) (take i kinds))
  -- nodes are only added, behind the used units: what stood stands
  pub behind : {k x h : ℕ} → NodeOf k x h → (s.used ≤ h) × (h < (completed g s v kinds).at.used)
  pub units : (i : ℕ) → i < s.used → get_or (completed g s v kinds).units i 0 ≡ get_or v.store i 0
  pub stays : (h : ℕ) (n : Written) → stand (usable v.store) h (units_at h n) ≡ true → h + length (units_at h n) ≤ s.used
      → stand (usable (completed g s v kinds).units) h (units_at h n) ≡ true
  -- the handle of an item that was stored is the node of its rule's first symbol
  pub stored : (p : ℕ) → s.items ≤ p → p < (completed g s v kinds).at.items
      → NodeOf (origin_at (completed g s v kinds).items p) (grammar_rule g (rule_at (completed g s v kinds).items p)).first (handle_at (completed g s v kinds).items p)

-- Of a call for one position that is answered 0: its steps have planted so, and the store and the used units that it leaves are those of its pass.
pub record PositionPlants (file : List ℕ) (s : State) (w : Words) (kinds : List ℕ) (o : Outcome) : Type 1 where
  pub planted : o.number ≡ 0 → Planted (grammar_of file) s (within w) kinds
  pub store : o.number ≡ 0 → (within o.words).store ≡ (completed (grammar_of file) s (within w) kinds).units
  pub used : o.number ≡ 0 → o.state.used ≡ (completed (grammar_of file) s (within w) kinds).at.used
