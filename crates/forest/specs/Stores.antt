-- The nodes of a store of units as a forest: the node that stands at a handle and, of a Sum, the Products behind it.
use Rattle.std.specs.Prelude.{Option, Some, None, List, [], ◌∷◌, ℕ, zero, suc, ◌+◌, length}
use Rattle.node.specs.Choice.{pick}
use Rattle.node.specs.Rows.{units_at}
use Rattle.node.specs.Writing.{usable}
use Rattle.node.specs.Reading.{head_from, stand, spelt}
use Rattle.node.specs.declared.Node.{Node as Written}
use Rattle.node.specs.declared.Node.TheVariants.{Sum, Product as Factors, NullingLeaf, Evaluated}
use Rattle.forest.specs.Trees.{Tree}
use Rattle.forest.specs.Forests.{Product, alone, paired, Node, token, sum, other, listed}

-- What is made of the node whose units stand at q, nothing skipped; or what is said where none stands there.
abbrev pub standing : {A : Type 0} → List ℕ → ℕ → Option Written → (Written → A) → A → A
standing s q (Some n) found none = pick (stand s q (units_at q n)) (found n) none
standing s q None found none = none

-- A Product is put before those behind it; any other node ends them.
abbrev pub with_product : Written → List Product → List Product
with_product (Factors r a (Some b)) l = paired r a b ∷ l
with_product (Factors r a None) l = alone r a ∷ l
with_product (Sum n x) l = []
with_product (NullingLeaf x) l = []
with_product (Evaluated x) l = []

-- So many Products, read one behind another from p on; fillers are skipped.
unfoldable pub products_at : ℕ → List ℕ → ℕ → List Product
products_at zero s p = []
products_at (suc n) s p =
    standing s (head_from s p) (spelt s (head_from s p))
    (λ w. with_product w (products_at n s (head_from s p + length (units_at (head_from s p) w)))) []

-- A Sum with its Products, an Evaluated as a leaf, and no other node.
abbrev pub as_node : Written → (ℕ → List Product) → Node
as_node (Sum n x) behind = sum (behind n)
as_node (Evaluated t) behind = token t
as_node (NullingLeaf x) behind = other
as_node (Factors r a b) behind = other

-- The node at a handle. A handle names the head itself.
unfoldable pub node_at : List ℕ → ℕ → Node
node_at store h =
    standing (usable store) h (spelt (usable store) h) (λ w. as_node w (λ n. products_at n (usable store) (h + length (units_at h w)))) other

-- The trees under a handle of a store.
abbrev pub trees_at : List ℕ → ℕ → List Tree
trees_at store h = listed (node_at store) (suc h) h
