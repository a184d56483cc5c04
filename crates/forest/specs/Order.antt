-- The order of the trees under a handle: by the summands chosen, in preorder; the first that differs decides.
use Rattle.std.specs.Prelude.{◌≡◌, List, [], ◌∷◌, ◌++◌, map, ℕ, zero, suc, ◌<◌}
use Rattle.forest.specs.Trees.{Tree, leaf, one, two}
use Rattle.forest.specs.Lists.{Ordered}
use Rattle.forest.specs.Forests.{Product, alone, paired, Node, token, sum, other, pairs, listed}

-- A tree, with the numbers of the summands chosen, in preorder.
pub record Marked : Type 0 where
  pub choices : List ℕ
  pub tree : Tree

-- A leaf chooses nothing; under the summand with the number `i` that number comes first, then the choices of the factors.
abbrev pub marked_leaf : ℕ → Marked
marked_leaf t = record { choices = []; tree = leaf t }

abbrev pub marked_one : ℕ → ℕ → Marked → Marked
marked_one i r d = record { choices = i ∷ d.choices; tree = one r d.tree }

abbrev pub marked_two : ℕ → ℕ → Marked → Marked → Marked
marked_two i r d e = record { choices = i ∷ (d.choices ++ e.choices); tree = two r d.tree e.tree }

-- The trees under a handle as `listed` lists them, marked.
abbrev pub marked_product : (ℕ → List Marked) → ℕ → Product → List Marked
marked_product under i (alone r a) = map (marked_one i r) (under a)
marked_product under i (paired r a b) = pairs (marked_two i r) (under a) (under b)

-- Summands are numbered from `i` on.
abbrev pub marked_sum : (ℕ → List Marked) → ℕ → List Product → List Marked
marked_sum under i [] = []
marked_sum under i (p ∷ ps) = marked_product under i p ++ marked_sum under (suc i) ps

abbrev pub marked_node : (ℕ → List Marked) → Node → List Marked
marked_node under (token t) = marked_leaf t ∷ []
marked_node under (sum ps) = marked_sum under 0 ps
marked_node under other = []

abbrev pub marked : (ℕ → Node) → ℕ → ℕ → List Marked
marked node zero h = []
marked node (suc rounds) h = marked_node (marked node rounds) (node h)

-- The first choice that differs is the lower.
pub data Sooner : List ℕ → List ℕ → Type 0 where
  now : {i j : ℕ} {u v : List ℕ} → i < j → Sooner (i ∷ u) (j ∷ v)
  then : {i : ℕ} {u v : List ℕ} → Sooner u v → Sooner (i ∷ u) (i ∷ v)

-- The trees under a handle stand in the order of their choices.
pub record InSummandOrder (node : ℕ → Node) (rounds h : ℕ) : Type 0 where
  pub trees : map (λ (d : Marked). d.tree) (marked node rounds h) ≡ listed node rounds h
  pub ordered : Ordered (λ (d e : Marked). Sooner d.choices e.choices) (marked node rounds h)
