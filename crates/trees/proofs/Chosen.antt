-- The trees under a sound handle, one Sum at a time: how a walker chooses.
use Rattle.std.proofs.Common.{◌≡◌, refl, sym, ap, subst, ◌∙◌, List, [], ◌∷◌, ◌++◌, ℕ, zero, suc, ◌+◌, ◌-◌, ◌≤◌, ◌<◌, arith, length}
use mathlib.Core.List.{map, flat_map}
use mathlib.Core.List.Memᴰ.{head as here}
use mathlib.Core.List.Memᴰ.{tail as there}
use native.Mathlib.Decide.{dec_lt}
use Rattle.forest.specs.Trees.{Tree, one, two}
use Rattle.forest.specs.Lists.{At, first, later}
use Rattle.forest.specs.Forests.{Product, alone, paired, Node, token, sum, other, FactorOf, pairs, of_product, of_node, listed}
use Rattle.forest.specs.Stores.{node_at, trees_at}
use Rattle.forest.proofs.Choosing.{at_left, at_right}
use Rattle.trees.specs.Faults.{Faulty, Below, Sound}
use Rattle.trees.specs.inner.Walks.{Walkable}
use Rattle.trees.proofs.Belows.{below_through, FactorIn, sum_under}

-- A factor of a sound Sum lies before it, and can be walked.
module _ {store : List ℕ} {h : ℕ} (sound : Sound store h) {ps : List Product} (is : node_at store h ≡ sum ps) where
  pub factor-before : {q : ℕ} → FactorIn q ps → q < h
  factor-before {q} f = elim (dec_lt q h) [
    | yes less ↦ less
    | no not ↦ (let late : h ≤ q = omega arith in absurd (sound.sound h Below.itself (Faulty.late_factor (sum_under f is) late)))
  ]

  pub factor-walkable : {q : ℕ} → FactorIn q ps → Walkable store q
  factor-walkable {q} f = on (node_at store q) refl
    where
      on : (n : Node) → node_at store q ≡ n → Walkable store q
      on (token t) e = Walkable.leaf e
      on (sum qs) e =
          Walkable.sums e (record { sound = λ s b wrong. sound.sound s (below_through (Below.factor Below.itself (sum_under f is) (factor-before f) e) b) wrong })
      on other e = absurd (sound.sound h Below.itself (Faulty.no_factor (sum_under f is) e))

-- Where the factors list the same, so does a Product, and so do Products.
pub product-same : (u v : ℕ → List Tree) (p : Product) → ((q : ℕ) → FactorOf q p → u q ≡ v q) → of_product u p ≡ of_product v p
product-same u v (alone r a) same = ap (map (one r)) (same a FactorOf.only)
product-same u v (paired r a b) same =
    ap (λ l. pairs (two r) (u a) l) (same b FactorOf.right) ∙ ap (λ l. pairs (two r) l (v b)) (same a FactorOf.left)

products-same : (u v : ℕ → List Tree) (ps : List Product) → ((q : ℕ) → FactorIn q ps → u q ≡ v q) → flat_map (of_product u) ps ≡ flat_map (of_product v) ps
unfolding flat_map
products-same u v [] same = refl
products-same u v (p ∷ ps) same =
    ap (λ l. l ++ flat_map (of_product u) ps) (product-same u v p (λ q f. same q (record { product = p; member = here refl; factor = f })))
    ∙ ap (λ l. of_product v p ++ l)
    (products-same u v ps (λ q f. same q (record { product = f.product; member = there f.member; factor = f.factor })))

-- However many rounds, if they are more than the handle, list the same.
pub rounds_enough : (store : List ℕ) (r q h : ℕ) → Walkable store h → h < r → h < q → listed (node_at store) r h ≡ listed (node_at store) q h
rounds_enough store zero q h w l m = absurd (omega arith)
rounds_enough store (suc r) zero h w l m = absurd (omega arith)
rounds_enough store (suc r) (suc q) h (Walkable.leaf is) l m =
    ap (of_node (listed (node_at store) r)) is ∙ sym (ap (of_node (listed (node_at store) q)) is)
rounds_enough store (suc r) (suc q) h (Walkable.sums {ps = ps} is sound) l m =
    ap (of_node (listed (node_at store) r)) is
    ∙ products-same (listed (node_at store) r) (listed (node_at store) q) ps
    (λ p f. rounds_enough store r q p (factor-walkable sound is f) (omega (arith, factor-before sound is f)) (omega (arith, factor-before sound is f)))
    ∙ sym (ap (of_node (listed (node_at store) q)) is)

-- THE TREES OF A SOUND SUM are those of its Products, over the trees under their factors.
pub sum-trees : (store : List ℕ) (h : ℕ) (ps : List Product) → Sound store h → node_at store h ≡ sum ps
    → trees_at store h ≡ flat_map (of_product (trees_at store)) ps
sum-trees store h ps sound is =
    ap (of_node (listed (node_at store) h)) is
    ∙ products-same (listed (node_at store) h) (trees_at store) ps
    (λ q f. rounds_enough store h (suc q) q (factor-walkable sound is f) (factor-before sound is f) (omega arith))

-- There is a k-th member before the end.
pub record Kth {A : Type 0} (l : List A) (k : ℕ) : Type 0 where
  pub member : A
  pub at : At l k member

pub kth : {A : Type 0} (l : List A) (k : ℕ) → k < length l → Kth l k
kth [] k less = absurd (omega arith)
kth (x ∷ l) zero less = record { member = x; at = first }
kth (x ∷ l) (suc k) less = let rest = kth l k (omega arith) in record { member = rest.member; at = later rest.at }

-- A Product's trees come before those of the Products behind it.
pub at_first : {A B : Type 0} (f : A → List B) (x : A) (l : List A) {k : ℕ} {b : B} → At (f x) k b → At (flat_map f (x ∷ l)) k b
unfolding flat_map
at_first f x l a = at_left (flat_map f l) a

pub at_behind : {A B : Type 0} (f : A → List B) (x : A) (l : List A) {k : ℕ} {b : B} → length (f x) ≤ k → At (flat_map f l) (k - length (f x)) b
    → At (flat_map f (x ∷ l)) k b
unfolding flat_map
at_behind f x l {k} {b} past a =
    let e : length (f x) + (k - length (f x)) ≡ k = omega arith in subst (λ n. At (f x ++ flat_map f l) n b) e (at_right (f x) a)
