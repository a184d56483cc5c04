-- What is read of a store: the Sum or leaf whose head stands at a position, and the Product from a position on.
use Rattle.std.specs.Prelude.{◌≡◌, Option, Some, None, List, ℕ, ◌+◌, ◌<◌, length}
use Rattle.node.specs.Rows.{units_at}
use Rattle.node.specs.Writing.{usable_units, usable}
use Rattle.node.specs.Reading.{head_from, spelt}
use Rattle.node.specs.declared.Node.{Node as Written}
use Rattle.node.specs.declared.Node.TheVariants.{Sum, Product as Factors, NullingLeaf, Evaluated}
use Rattle.forest.specs.Forests.{Product, alone, paired, sum}
use Rattle.forest.specs.Stores.{standing, node_at}
use Rattle.trees.specs.declared.Head.{Head}
use Rattle.trees.specs.declared.Head.TheVariants.{SumOf, Leaf}
use Rattle.trees.specs.declared.Step.{Step}

-- A Sum with the number of its Products and the position behind it, a leaf with its symbol, or neither.
abbrev pub head_of : Written → ℕ → Option Head
head_of (Sum count nonterminal) b = Some (SumOf count b)
head_of (Evaluated x) b = Some (Leaf x)
head_of (NullingLeaf x) b = None
head_of (Factors r l right) b = None

unfoldable pub head_at : List ℕ → ℕ → Option Head
head_at store p = standing (usable store) p (spelt (usable store) p) (λ w. head_of w (p + length (units_at p w))) None

-- A Product with the position behind it, or none.
abbrev pub step_of : Written → ℕ → Option Step
step_of (Factors r l right) b = Some (record { action = r; left = l; right = right; behind = b })
step_of (Sum count nonterminal) b = None
step_of (NullingLeaf x) b = None
step_of (Evaluated x) b = None

abbrev pub step_here : List ℕ → ℕ → Option Step
step_here u q = standing u q (spelt u q) (λ w. step_of w (q + length (units_at q w))) None

unfoldable pub step_at : List ℕ → ℕ → Option Step
step_at store p = step_here (usable store) (head_from (usable store) p)

-- The Product of an action, a left and a right factor.
abbrev pub product_of : ℕ → ℕ → Option ℕ → Product
product_of r l (Some b) = paired r l b
product_of r l None = alone r l

-- A Sum stands at a usable position, with the Products read behind it.
pub record SumAt (store : List ℕ) (h : ℕ) : Type 0 where
  pub products : List Product
  pub is : node_at store h ≡ sum products
  pub inside : h < usable_units
