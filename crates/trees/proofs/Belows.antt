-- What is below what is below, and the first step down.
use Rattle.std.proofs.Common.{◌≡◌, sym, subst, List, ℕ, ◌<◌}
use mathlib.Core.List.{Memᴰ as Member}
use Rattle.forest.specs.Forests.{Product, Node, sum, FactorOf, Under}
use Rattle.forest.specs.Stores.{node_at}
use Rattle.trees.specs.Faults.{Below}
use Rattle.trees.specs.Faults.Below.{itself, factor}

-- Below what is below a handle is below it.
pub below_through : {store : List ℕ} {h s q : ℕ} → Below store h s → Below store s q → Below store h q
below_through a itself = a
below_through a (factor b u l e) = factor (below_through a b) u l e

-- The handle itself, or below one of its factors.
pub data Down (store : List ℕ) (h : ℕ) : ℕ → Type 0 where
  here : Down store h h
  further : {q s : ℕ} {ps : List Product} → Under q (node_at store h) → q < h → node_at store q ≡ sum ps → Below store q s → Down store h s

down_on : {store : List ℕ} {h s q : ℕ} {ps : List Product} → Down store h s → Under q (node_at store s) → q < s → node_at store q ≡ sum ps → Down store h q
down_on Down.here u l e = Down.further u l e itself
down_on (Down.further v m f b) u l e = Down.further v m f (factor b u l e)

pub below_down : {store : List ℕ} {h s : ℕ} → Below store h s → Down store h s
below_down itself = Down.here
below_down (factor b u l e) = down_on (below_down b) u l e

-- A factor of a Sum is one of one of its Products.
pub record FactorIn (q : ℕ) (ps : List Product) : Type 0 where
  pub product : Product
  pub member : Member product ps
  pub factor : FactorOf q product

pub under_sum : {q : ℕ} {n : Node} {ps : List Product} → Under q n → n ≡ sum ps → FactorIn q ps
under_sum {q} {ps = ps} (Under.of_product_lem {ps = qs} m f) e =
    let same : qs ≡ ps = cc in subst (FactorIn q) same (record { product = _; member = m; factor = f })

pub sum_under : {q : ℕ} {n : Node} {ps : List Product} → FactorIn q ps → n ≡ sum ps → Under q n
sum_under {q} f e = subst (Under q) (sym e) (Under.of_product_lem f.member f.factor)
