-- The walker's choice by weights: the Product of the k-th tree, and the numbers of its factors' trees.
use Rattle.trees.specs.declared.table.Table.{Table}
use Rattle.std.proofs.Common.{◌≡◌, refl, sym, ap, subst, ◌∙◌, true, false, List, [], ◌∷◌, ◌≢◌, ℕ, zero, suc, ◌-◌, ◌*◌, ◌/◌, ◌%◌, ◌≤◌, ◌<◌, mul-zero, mod-eq_of_lt, mod-lt, div-lt_iff_lt-mul, arith, length, length-append, ltb-true, ltb-false, Option, Some, None}
use mathlib.Core.List.{flat_map}
use mathlib.Core.List.Memᴰ.{head as here}
use mathlib.Core.List.Memᴰ.{tail as there}
use mathlib.Core.List.{Memᴰ as Member}
use native.Mathlib.Nat.{div-eq_of_lt}
use lib.ListN.{length-map}
use Rattle.node.specs.Writing.{usable_units, usable}
use Rattle.forest.specs.Trees.{Tree, one, two}
use Rattle.forest.specs.Lists.{At}
use Rattle.forest.specs.Forests.{Product, sum, other, FactorOf, of_product, listed}
use Rattle.forest.specs.Stores.{products_at, node_at, trees_at}
use Rattle.forest.proofs.Choosing.{at_map, at_divided, length_pairs}
use Rattle.trees.specs.Faults.{Sound}
use Rattle.trees.specs.Answers.{tree_limit}
use Rattle.trees.specs.inner.Heads.{head_at, step_at, product_of}
use Rattle.trees.specs.inner.Weights.{factor_weight, product_weight}
use Rattle.trees.specs.inner.Tables.{tabled, Filled}
use Rattle.trees.specs.inner.Walks.{chooses, passed_over, left_number, right_number, choice_in, Divides, Walkable, Walks, Choosing, FrontWalks, FrontWords, Reached, Picks}
use Rattle.trees.specs.declared.Weight.{Weight}
use Rattle.trees.specs.declared.Weight.TheVariants.{Number}
use Rattle.trees.specs.declared.Step.{Step}
use Rattle.trees.specs.declared.Choice.{Choice}
use Rattle.trees.specs.declared.Choice.TheVariants.{Word}
use Rattle.trees.specs.declared.Head.TheVariants.{SumOf, Leaf}
use Rattle.trees.proofs.Belows.{FactorIn}
use Rattle.trees.proofs.Means.{Means, means_same}
use Rattle.trees.proofs.Weighing.{Weighs, entry_weighs, sound-factor, sound-product}
use Rattle.trees.proofs.Chosen.{factor-before, factor-walkable, product-same, rounds_enough, sum-trees, at_first, at_behind}
use Rattle.trees.proofs.Heads.{from_step, products_step, node_of, node-head}
use Rattle.trees.proofs.Tabled.{same_weight}

-- A number of trees, where nothing is faulty.
abbrev pub Weighed_as : ℕ → Weight → Type 0
Weighed_as n w = Means (λ v. ⊥) n w

-- A weight chooses the numbers that are below it, and passes over as many as there are.
pub chooses-inside : {n : ℕ} {w : Weight} (k : ℕ) → Weighed_as n w → k < tree_limit → chooses w k ≡ true → k < n
unfolding chooses
chooses-inside k (Means.faulty p low) small one_of_lem = absurd p
chooses-inside k (Means.number none is bound) small one_of_lem = omega (arith, ltb-true k _ one_of_lem)
chooses-inside k (Means.over none big) small one_of_lem = omega arith

pub passed_is : {n : ℕ} {w : Weight} (k : ℕ) → Weighed_as n w → chooses w k ≡ false → passed_over w ≡ n
unfolding chooses passed_over
passed_is k (Means.faulty p low) past = absurd p
passed_is k (Means.number none is bound) past = sym is
passed_is k (Means.over none big) past = let z : ◌≡◌ {A = ℕ} 0 1 = cc in absurd (omega arith)

pub passed_low : {n : ℕ} {w : Weight} (k : ℕ) → Weighed_as n w → chooses w k ≡ false → n ≤ k
unfolding chooses
passed_low k (Means.faulty p low) past = absurd p
passed_low k (Means.number none is bound) past = omega (arith, ltb-false k _ past)
passed_low k (Means.over none big) past = let z : ◌≡◌ {A = ℕ} 0 1 = cc in absurd (omega arith)

-- The numbers of the factors' trees are quotient and remainder.
pub left_divides : {c : ℕ} {w : Weight} (k : ℕ) → Weighed_as c w → k < tree_limit → left_number w k ≡ k / c
unfolding left_number
left_divides k (Means.faulty p low) small = absurd p
left_divides k (Means.number none is bound) small = ap (λ c. k / c) (sym is)
left_divides {c} k (Means.over none big) small = let less : k < c = omega arith in sym (div-eq_of_lt less)

pub right_divides : {c : ℕ} {w : Weight} (k : ℕ) → Weighed_as c w → k < tree_limit → right_number w k ≡ k % c
unfolding right_number
right_divides k (Means.faulty p low) small = absurd p
right_divides k (Means.number none is bound) small = ap (λ c. k % c) (sym is)
right_divides {c} k (Means.over none big) small = let less : k < c = omega arith in sym (mod-eq_of_lt less)

-- Where there is a pair, there is a second.
pub second-some : (n m k : ℕ) → k < n * m → 0 < m
second-some n zero k less = absurd (omega (arith, mul-zero n))
second-some n (suc m) k less = omega arith

pub filled-before : {store : List ℕ} {table : Table} {h q : ℕ} → Filled store h table → q < h → Filled store q table
filled-before filled less = record { tells = λ p before. filled.tells p (omega arith) }

-- Of a sound Sum each factor and each Product weighs the number of its trees.
module _ {store : List ℕ} {table : Table} {s : ℕ} {ps : List Product} (sound : Sound store s) (is : node_at store s ≡ sum ps)
    (filled : Filled store s table) where
  abbrev under : ℕ → Option Weight
  under = tabled table

  told : (q : ℕ) → q < s → Weighs store s q (under q)
  told q less = subst (Weighs store s q) (sym (filled.tells q less)) (entry_weighs store s q less)

  enough : (q : ℕ) → FactorIn q ps → listed (node_at store) s q ≡ trees_at store q
  enough q f = rounds_enough store s (suc q) q (factor-walkable sound is f) (factor-before sound is f) (omega arith)

  pub factor_weighs : (q : ℕ) → FactorIn q ps → Weighed_as (length (trees_at store q)) (factor_weight under s q)
  factor_weighs q f =
      means_same (λ v x. x) (λ v x. x) (ap length (enough q f)) (sound-factor store s s (omega arith) under told ps is sound q f)

  pub product_weighs : (p : Product) → Member p ps → Weighed_as (length (of_product (trees_at store) p)) (product_weight under s p)
  product_weighs p m =
      means_same (λ v x. x) (λ v x. x)
      (ap length (product-same (listed (node_at store) s) (trees_at store) p (λ q f. enough q (record { product = p; member = m; factor = f }))))
      (sound-product store s s (omega arith) under told ps is sound p m)

  -- The k-th tree of one of its Products.
  module _ (inside : s < usable_units) (k rest : ℕ) (small : rest < tree_limit) where
    walks_on : {q number : ℕ} → FactorIn q ps → number < length (trees_at store q) → Walks store table q number
    walks_on {q} f less = record {
      inside = omega (arith, factor-before sound is f);
      walkable = factor-walkable sound is f;
      number = less;
      filled = filled-before filled (factor-before sound is f);
    }

    pub divides : (action a : ℕ) (right : Option ℕ) → Member (product_of action a right) ps → rest < length (of_product (trees_at store) (product_of action a right))
        → Divides under s right
    divides action a (Some b) m less c e zero-weight = none (factor_weighs b (record { product = _; member = m; factor = FactorOf.right }))
      where
        none : Weighed_as (length (trees_at store b)) (factor_weight under s b) → ⊥
        none weighs = no (factor_weight under s b) weighs (let same : b ≡ c = cc in ap (factor_weight under s) same ∙ zero-weight)
          where
            no : (w : Weight) → Weighed_as (length (trees_at store b)) w → w ≡ Number 0 → ⊥
            no w (Means.faulty p low) z = p
            no w (Means.number {k = n} x is y) z =
                let none : n ≡ 0 = cc in
                omega (arith, second-some (length (trees_at store a)) (length (trees_at store b)) rest (omega (arith, length_pairs (two action) (trees_at store a) (trees_at store b))))
            no w (Means.over x y) z = let z : ◌≡◌ {A = ℕ} 0 1 = cc in omega arith
    divides action a None m less c e zero-weight = let z : ◌≡◌ {A = ℕ} 0 1 = cc in omega arith

    pub choice_picks : (action a : ℕ) (right : Option ℕ) → Member (product_of action a right) ps
        → rest < length (of_product (trees_at store) (product_of action a right))
        → ((d : Tree) → At (of_product (trees_at store) (product_of action a right)) rest d → At (trees_at store s) k d)
        → Picks store table s k (choice_in under s action a right rest)
    unfolding choice_in
    choice_picks action a None m less reaches =
        let f : FactorIn a ps = record { product = _; member = m; factor = FactorOf.only } in
        let below : rest < length (trees_at store a) = omega (arith, length-map (trees_at store a) (one action)) in
        Picks.chosen {front = None} (omega arith) (factor-before sound is f) FrontWalks.empty (walks_on f below) (λ words d w at. reach words d w at)
      where
        reach : (words : List ℕ) (d : Tree) → FrontWords store None words → At (trees_at store a) rest d → Reached store s k (action ∷ words) d
        reach words d FrontWords.empty at = record { tree = one action d; chosen = reaches (one action d) (at_map (one action) at); spells = refl }
    choice_picks action a (Some b) m less reaches =
        let f : FactorIn a ps = record { product = _; member = m; factor = FactorOf.left } in
        let g : FactorIn b ps = record { product = _; member = m; factor = FactorOf.right } in
        let weighs = factor_weighs b g in
        let trees : rest < length (trees_at store a) * length (trees_at store b) = omega (arith, length_pairs (two action) (trees_at store a) (trees_at store b)) in
        let some = second-some (length (trees_at store a)) (length (trees_at store b)) rest trees in
        let quotient : rest / length (trees_at store b) < length (trees_at store a) =
        (div-lt_iff_lt-mul {k = length (trees_at store b)} {x = rest} {y = length (trees_at store a)} some).1 trees in
        let i = left_divides rest weighs small in
        let j = right_divides rest weighs small in
        let i-low : left_number (factor_weight under s b) rest < length (trees_at store a) = omega (arith, i, quotient) in
        let j-low : right_number (factor_weight under s b) rest < length (trees_at store b) = omega (arith, j, mod-lt rest some) in
        Picks.chosen {front = Some (a, left_number (factor_weight under s b) rest)} (factor-before sound is f) (factor-before sound is g)
        (FrontWalks.left (walks_on f i-low))
        (walks_on g j-low)
        (λ words d w at. reach words d i j w at)
      where
        reach : (words : List ℕ) (d : Tree) → left_number (factor_weight under s b) rest ≡ rest / length (trees_at store b)
            → right_number (factor_weight under s b) rest ≡ rest % length (trees_at store b)
            → FrontWords store (Some (a, left_number (factor_weight under s b) rest)) words
            → At (trees_at store b) (right_number (factor_weight under s b) rest) d → Reached store s k (action ∷ words) d
        reach words d i j (FrontWords.left {d = e} at_left) at = record {
          tree = two action e d;
          chosen = reaches (two action e d) (at_divided (two action) (trees_at store b) rest (subst (λ n. At (trees_at store a) n e) i at_left) (subst (λ n. At (trees_at store b) n d) j at));
          spells = refl;
        }

-- The k-th tree of the Sum at s is the one with the number `rest` of the Products qs, which are the last of its Products ps.
pub record Passing (store : List ℕ) (s k rest : ℕ) (ps qs : List Product) : Type 0 where
  pub small : rest < tree_limit
  pub members : (p : Product) → Member p qs → Member p ps
  pub inside : rest < length (flat_map (of_product (trees_at store)) qs)
  pub reaches : (d : Tree) → At (flat_map (of_product (trees_at store)) qs) rest d → At (trees_at store s) k d

pub passing-starts : {store : List ℕ} {table : Table} {s k from count : ℕ} → Choosing store table s k from count → k < tree_limit
    → Passing store s k k (products_at count (usable store) from) (products_at count (usable store) from)
passing-starts {store} {s = s} {k = k} {from = from} {count = count} c bound =
    let listing = sum-trees store s (products_at count (usable store) from) c.sound c.is in
    record {
      small = bound;
      members = λ p m. m;
      inside = subst (λ l. k < length l) listing c.number;
      reaches = λ d at. subst (λ l. At l k d) (sym listing) at;
    }

-- There is a Product where there is a tree.
pub passing-some : {store : List ℕ} {s k rest : ℕ} {ps qs : List Product} → Passing store s k rest ps qs → qs ≢ []
unfolding flat_map
passing-some {store} {rest = rest} passing none =
    let less : rest < 0 = subst (λ qs. rest < length (flat_map (of_product (trees_at store)) qs)) none passing.inside in omega arith

module _ {store : List ℕ} {s k rest : ℕ} {ps qs : List Product} (p : Product) where
  -- It is of the first of them where its number is below that of its trees,
  pub passing-here : Passing store s k rest ps (p ∷ qs) → (d : Tree) → At (of_product (trees_at store) p) rest d → At (trees_at store s) k d
  passing-here passing d at = passing.reaches d (at_first (of_product (trees_at store)) p qs at)

  pub passing_member : Passing store s k rest ps (p ∷ qs) → Member p ps
  passing_member passing = passing.members p (here refl)

  -- and otherwise of those behind it.
  pub passing_on : (w : Weight) → Passing store s k rest ps (p ∷ qs) → Weighed_as (length (of_product (trees_at store) p)) w → chooses w rest ≡ false
      → Passing store s k (rest - passed_over w) ps qs
  unfolding flat_map
  passing_on w passing weighs past =
      let passed = passed_is rest weighs past in
      let low = passed_low rest weighs past in
      let parts = length-append (of_product (trees_at store) p) (flat_map (of_product (trees_at store)) qs) in
      let inside = passing.inside in
      let same : rest - passed_over w ≡ rest - length (of_product (trees_at store) p) = omega arith in
      record {
        small = omega (arith, passing.small);
        members = λ q m. passing.members q (there m);
        inside = omega arith;
        reaches = λ d at. passing.reaches d (at_behind (of_product (trees_at store)) p qs low (subst (λ n. At (flat_map (of_product (trees_at store)) qs) n d) same at));
      }

-- The Products read from a position on: none, or the first and those behind it.
module _ (store : List ℕ) (left n at : ℕ) (is : left ≡ suc n) where
  pub reads_none : None ≡ step_at store at → products_at left (usable store) at ≡ []
  reads_none e =
      ap (λ m. products_at m (usable store) at) is ∙ products_step n store at ∙ ap (from_step n (usable store)) (sym e)

  pub reads_first : (x : Step) → Some x ≡ step_at store at
      → products_at left (usable store) at ≡ product_of x.action x.left x.right ∷ products_at n (usable store) x.behind
  reads_first x e =
      ap (λ m. products_at m (usable store) at) is ∙ products_step n store at ∙ ap (from_step n (usable store)) (sym e)

pub no_products : (store : List ℕ) (left at : ℕ) → left ≡ 0 → products_at left (usable store) at ≡ []
unfolding products_at
no_products store left at none = ap (λ n. products_at n (usable store) at) none

-- A turn of the loop that chooses: the Product read is the one, or is passed over.
module _ {store : List ℕ} {table : Table} {s k from count : ℕ} (asked : Choosing store table s k from count) (at left n : ℕ) {rest : ℕ}
    (passing : Passing store s k rest (products_at count (usable store) from) (products_at left (usable store) at)) (one : left ≡ suc n)
    {x : Step} (read : Some x ≡ step_at store at)
    {w : Weight} (weighed : w ≡ product_weight (tabled table) s (product_of 0 x.left x.right)) where
  first_read : Passing store s k rest (products_at count (usable store) from) (product_of x.action x.left x.right ∷ products_at n (usable store) x.behind)
  first_read = subst (Passing store s k rest (products_at count (usable store) from)) (reads_first store left n at one x read) passing

  member : Member (product_of x.action x.left x.right) (products_at count (usable store) from)
  member = passing_member (product_of x.action x.left x.right) first_read

  weighs : Weighed_as (length (of_product (trees_at store) (product_of x.action x.left x.right))) w
  weighs =
      subst (Weighed_as (length (of_product (trees_at store) (product_of x.action x.left x.right)))) (sym (weighed ∙ same_weight (tabled table) s store x.action x.left x.right))
      (product_weighs asked.sound asked.is asked.filled (product_of x.action x.left x.right) member)

  pub turn_divides : chooses w rest ≡ true → Divides (tabled table) s x.right
  turn_divides one_of_lem =
      divides asked.sound asked.is asked.filled asked.inside k rest passing.small x.action x.left x.right member (chooses-inside rest weighs passing.small one_of_lem)

  pub turn_picks : {choice : Choice} → chooses w rest ≡ true → choice ≡ choice_in (tabled table) s x.action x.left x.right rest
      → Picks store table s k choice
  turn_picks one_of_lem is =
      subst (Picks store table s k) (sym is)
      (choice_picks asked.sound asked.is asked.filled asked.inside k rest passing.small x.action x.left x.right member (chooses-inside rest weighs passing.small one_of_lem)
      (passing-here (product_of x.action x.left x.right) first_read))

  pub turn_low : {m : ℕ} → chooses w rest ≡ false → m ≡ passed_over w → m ≤ rest
  turn_low past is = omega (arith, passed_is rest weighs past, passed_low rest weighs past)

  pub turn_on : {m : ℕ} → chooses w rest ≡ false → m ≡ passed_over w
      → Passing store s k (rest - m) (products_at count (usable store) from) (products_at n (usable store) x.behind)
  turn_on {m} past is =
      subst (λ m. Passing store s k (rest - m) (products_at count (usable store) from) (products_at n (usable store) x.behind)) (sym is)
      (passing_on (product_of x.action x.left x.right) w first_read weighs past)

-- What is chosen at a head: at a Sum of a Product, at a leaf its symbol; and one of the two is where there is a tree.
module _ {store : List ℕ} {table : Table} {h k : ℕ} where
  pub choosing_sum : {n b : ℕ} → Walks store table h k → Some (SumOf n b) ≡ head_at store h → Choosing store table h k b n
  choosing_sum {n} {b} walks e = record {
    inside = walks.inside;
    is = is;
    sound = sound is walks.walkable;
    number = walks.number;
    filled = walks.filled;
  }
    where
      is : node_at store h ≡ sum (products_at n (usable store) b)
      is = node-head store h ∙ ap (node_of (usable store)) (sym e)

      sound : node_at store h ≡ sum (products_at n (usable store) b) → Walkable store h → Sound store h
      sound j (Walkable.leaf i) = let z : ◌≡◌ {A = ℕ} 0 1 = cc in absurd (omega arith)
      sound j (Walkable.sums i s) = s

  pub leaf_picks : {t : ℕ} → Some (Leaf t) ≡ head_at store h → Picks store table h k (Word t)
  leaf_picks e = Picks.word (node-head store h ∙ ap (node_of (usable store)) (sym e))

  pub neither_walks : Walks store table h k → None ≡ head_at store h → ⊥
  neither_walks walks e = on (node-head store h ∙ ap (node_of (usable store)) (sym e)) walks.walkable
    where
      on : node_at store h ≡ other → Walkable store h → ⊥
      on is (Walkable.leaf i) = let z : ◌≡◌ {A = ℕ} 0 1 = cc in omega arith
      on is (Walkable.sums i s) = let z : ◌≡◌ {A = ℕ} 0 1 = cc in omega arith
