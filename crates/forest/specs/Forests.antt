-- The trees that a forest lists under a handle.
use mathlib.Core.List.{List, [], ◌∷◌, map, flat_map, Memᴰ as Member}
use Rattle.std.specs.Prelude.{ℕ, zero, suc}
use Rattle.forest.specs.Trees.{Tree, leaf, one, two}

-- A Product: its rule and the handles of its factors.
pub data Product : Type 0 where
  alone : ℕ → ℕ → Product
  paired : ℕ → ℕ → ℕ → Product

-- What stands at a handle: a token's leaf, a Sum with its Products, or neither.
pub data Node : Type 0 where
  token : ℕ → Node
  sum : List Product → Node
  other : Node

-- A factor of a product, and of a node: of one of the products of a Sum.
pub data FactorOf (q : ℕ) : Product → Type 0 where
  only : {r : ℕ} → FactorOf q (alone r q)
  left : {r b : ℕ} → FactorOf q (paired r q b)
  right : {r a : ℕ} → FactorOf q (paired r a q)

pub data Under (q : ℕ) : Node → Type 0 where
  of_product_lem : {ps : List Product} {p : Product} → Member p ps → FactorOf q p → Under q (sum ps)

-- Each of the first list with each of the second, the first deciding before the second.
abbrev pub pairs : {A B C : Type 0} → (A → B → C) → List A → List B → List C
pairs f l m = flat_map (λ x. map (f x) m) l

-- The trees of a Product, given those under each handle.
abbrev pub of_product : (ℕ → List Tree) → Product → List Tree
of_product under (alone r a) = map (one r) (under a)
of_product under (paired r a b) = pairs (two r) (under a) (under b)

-- Those of a Sum are those of its Products, one after the other.
abbrev pub of_node : (ℕ → List Tree) → Node → List Tree
of_node under (token t) = leaf t ∷ []
of_node under (sum ps) = flat_map (of_product under) ps
of_node under other = []

-- The trees under a handle, as far as so many rounds down lead. Where factors lie before their Sum, more rounds than the handle are enough.
abbrev pub listed : (ℕ → Node) → ℕ → ℕ → List Tree
listed node zero h = []
listed node (suc rounds) h = of_node (listed node rounds) (node h)
