-- The trees under a handle stand in summand order.
use Rattle.std.proofs.Common.{◌≡◌, refl, sym, ◌∙◌, subst, List, [], ◌∷◌, ◌++◌, ⊎_elim, ℕ, zero, suc, ◌≤◌, arith}
use mathlib.Core.List.Memᴰ.{not-nil as no_member}
use mathlib.Core.List.{map, flat_map, map-map, map-append, Memᴰ as Member}
use mathlib.Core.List.Memᴰ.{append_cases as member-either}
use mathlib.Core.List.Memᴰ.{of_map as member-map}
use Rattle.forest.specs.Trees.{Tree, one, two}
use Rattle.forest.specs.Lists.{Ordered, none, more}
use Rattle.forest.specs.Forests.{Product, alone, paired, Node, token, sum, other, pairs, of_product, of_node, listed}
use Rattle.forest.specs.Order.{Marked, marked_one, marked_two, marked_product, marked_sum, marked_node, marked, Sooner, InSummandOrder}
use Rattle.forest.proofs.Lists.{member_pairs, ordered-append, ordered-map, ordered-pairs}

-- One marked tree comes sooner than another.
abbrev Earlier : Marked → Marked → Type 0
Earlier d e = Sooner d.choices e.choices

-- What comes sooner does so whatever comes behind, and behind the same beginning.
sooner_left : {u v : List ℕ} (w z : List ℕ) → Sooner u v → Sooner (u ++ w) (v ++ z)
sooner_left w z (Sooner.now l) = Sooner.now l
sooner_left w z (Sooner.then s) = Sooner.then (sooner_left w z s)

sooner_right : (u : List ℕ) {v w : List ℕ} → Sooner v w → Sooner (u ++ v) (u ++ w)
sooner_right [] s = s
sooner_right (i ∷ u) s = Sooner.then (sooner_right u s)

-- The first choice of what a summand lists is the summand's number.
data First (P : ℕ → Type 0) : List ℕ → Type 0 where
  first : {i : ℕ} {u : List ℕ} → P i → First P (i ∷ u)

product-first : (under : ℕ → List Marked) (i : ℕ) (p : Product) (d : Marked) → Member d (marked_product under i p) → First (λ j. j ≡ i) d.choices
product-first under i (alone r a) d m =
    let o = member-map (marked_one i r) (under a) m in
    subst (λ (e : Marked). First (λ j. j ≡ i) e.choices) o.2 (first refl)
product-first under i (paired r a b) d m =
    let o = member_pairs (marked_two i r) (under a) (under b) m in
    subst (λ (e : Marked). First (λ j. j ≡ i) e.choices) o.is (first refl)

-- Of the summands from number `i` on it is `i` or greater.
sum_first : (under : ℕ → List Marked) (i : ℕ) (ps : List Product) (d : Marked) → Member d (marked_sum under i ps) → First (λ j. i ≤ j) d.choices
sum_first under i [] d m = absurd (no_member m)
sum_first under i (p ∷ ps) d m =
    ⊎_elim
    (λ a. equal (product-first under i p d a))
    (λ b. greater (sum_first under (suc i) ps d b))
    (member-either (marked_product under i p) m)
  where
    equal : {u : List ℕ} → First (λ j. j ≡ i) u → First (λ j. i ≤ j) u
    equal (first {i = n} e) = first {i = n} (omega arith)

    greater : {u : List ℕ} → First (λ j. suc i ≤ j) u → First (λ j. i ≤ j) u
    greater (first {i = n} l) = first {i = n} (omega arith)

-- So a tree of one summand comes sooner than one of a later summand.
earlier_summand : {i : ℕ} {u v : List ℕ} → First (λ j. j ≡ i) u → First (λ j. suc i ≤ j) v → Sooner u v
earlier_summand (first {i = n} e) (first {i = m} l) = Sooner.now {i = n} {j = m} (omega arith)

-- In order: products, sums, nodes.
product-order : (under : ℕ → List Marked) (i : ℕ) (p : Product) → ((h : ℕ) → Ordered Earlier (under h)) → Ordered Earlier (marked_product under i p)
product-order under i (alone r a) o = ordered-map (marked_one i r) (λ d e m n s. Sooner.then s) (o a)
product-order under i (paired r a b) o =
    ordered-pairs (marked_two i r)
    (λ d e u v s. Sooner.then (sooner_left u.choices v.choices s))
    (λ d u v s. Sooner.then (sooner_right d.choices s)) (o a) (o b)

sum-order : (under : ℕ → List Marked) (i : ℕ) (ps : List Product) → ((h : ℕ) → Ordered Earlier (under h)) → Ordered Earlier (marked_sum under i ps)
sum-order under i [] o = none
sum-order under i (p ∷ ps) o =
    ordered-append (product-order under i p o) (sum-order under (suc i) ps o)
    (λ d e a b. earlier_summand (product-first under i p d a) (sum_first under (suc i) ps e b))

node-order : (under : ℕ → List Marked) (n : Node) → ((h : ℕ) → Ordered Earlier (under h)) → Ordered Earlier (marked_node under n)
node-order under (token t) o = more (λ e m. absurd (no_member m)) none
node-order under (sum ps) o = sum-order under 0 ps o
node-order under other o = none

marked-order : (node : ℕ → Node) (rounds h : ℕ) → Ordered Earlier (marked node rounds h)
marked-order node zero h = none
marked-order node (suc rounds) h = node-order (marked node rounds) (node h) (marked-order node rounds)

-- Without their marks they are the trees that are listed: of pairs, products, sums, nodes.
abbrev tree_of : Marked → Tree
tree_of d = d.tree

trees-pairs : (i r : ℕ) (l m : List Marked) → map tree_of (pairs (marked_two i r) l m) ≡ pairs (two r) (map tree_of l) (map tree_of m)
unfolding flat_map
trees-pairs i r [] m = refl
trees-pairs i r (d ∷ l) m =
    map-append tree_of (map (marked_two i r d) m) (pairs (marked_two i r) l m)
    ∙ (λ k. (map-map tree_of (marked_two i r d) m ∙ sym (map-map (two r d.tree) tree_of m)) k ++ trees-pairs i r l m k)

trees-product : (under : ℕ → List Marked) (i : ℕ) (p : Product) → map tree_of (marked_product under i p) ≡ of_product (λ h. map tree_of (under h)) p
trees-product under i (alone r a) = map-map tree_of (marked_one i r) (under a) ∙ sym (map-map (one r) tree_of (under a))
trees-product under i (paired r a b) = trees-pairs i r (under a) (under b)

trees-sum : (under : ℕ → List Marked) (i : ℕ) (ps : List Product) → map tree_of (marked_sum under i ps) ≡ flat_map (of_product (λ h. map tree_of (under h))) ps
unfolding flat_map
trees-sum under i [] = refl
trees-sum under i (p ∷ ps) =
    map-append tree_of (marked_product under i p) (marked_sum under (suc i) ps) ∙ (λ k. trees-product under i p k ++ trees-sum under (suc i) ps k)

trees-node : (under : ℕ → List Marked) (n : Node) → map tree_of (marked_node under n) ≡ of_node (λ h. map tree_of (under h)) n
trees-node under (token t) = refl
trees-node under (sum ps) = trees-sum under 0 ps
trees-node under other = refl

marked-trees : (node : ℕ → Node) (rounds h : ℕ) → map tree_of (marked node rounds h) ≡ listed node rounds h
marked-trees node zero h = refl
marked-trees node (suc rounds) h = trees-node (marked node rounds) (node h) ∙ (λ k. of_node (λ a. marked-trees node rounds a k) (node h))

-- THE TREES STAND IN SUMMAND ORDER, THE FIRST DIFFERING CHOICE IN PREORDER DECIDING.
pub in_order : (node : ℕ → Node) (rounds h : ℕ) → InSummandOrder node rounds h
in_order node rounds h = record { trees = marked-trees node rounds h; ordered = marked-order node rounds h }
