-- The table as rows of numbers, filled position by position.
use Rattle.trees.specs.declared.table.Table.{Table}
use Rattle.std.proofs.Common.{◌≡◌, refl, sym, ap, ◌∙◌, List, [], ◌∷◌, ℕ, suc, ◌+◌, ◌-◌, ◌≤◌, ◌<◌, arith, length, ltb, lt-ltb, le-ltb, Option, Some, None, unwrap_or}
use native.Mathlib.Decide.{dec_lt}
use Rattle.node.specs.Choice.{pick}
use Rattle.node.specs.Writing.{usable}
use Rattle.forest.specs.Forests.{Product, alone, paired, Node, token, sum, other}
use Rattle.forest.specs.Stores.{products_at, node_at}
use Rattle.trees.specs.Faults.{asked_at}
use Rattle.trees.specs.inner.Heads.{step_at, product_of}
use Rattle.trees.specs.inner.Weights.{plus, times, of_entry, factor_weight, product_weight, sum_from, closed, weigh_node, entry_in, weights, entry_at}
use Rattle.trees.specs.inner.Tables.{tabled, Filled}
use Rattle.trees.specs.declared.Step.{Step}
use Rattle.trees.specs.declared.Weight.{Weight}
use Rattle.trees.specs.declared.Weight.TheVariants.{Fault, Number}
use Rattle.trees.proofs.Heads.{from_step, products_step}
use Rattle.trees.proofs.Weighing.{weights_at}

-- A factor weighs what its entry tells, and is a fault of the Sum where that tells nothing or lies not before it.
pub factor_late : (under : ℕ → Option Weight) (s q : ℕ) → s ≤ q → Fault s ≡ factor_weight under s q
unfolding factor_weight
factor_late under s q late = sym (ap (λ t. pick t (of_entry s (under q)) (Fault s)) (le-ltb q s late))

pub factor-tells : (under : ℕ → Option Weight) (s q : ℕ) (e : Option Weight) → q < s → e ≡ under q → of_entry s e ≡ factor_weight under s q
unfolding factor_weight
factor-tells under s q e less is =
    ap (of_entry s) is ∙ sym (ap (λ t. pick t (of_entry s (under q)) (Fault s)) (lt-ltb q s less))

pub entry-or : (s : ℕ) (e : Option Weight) → unwrap_or e (Fault s) ≡ of_entry s e
unfolding of_entry
entry-or s None = refl
entry-or s (Some w) = refl

-- A Product weighs what its factors do.
pub alone_weighs : (under : ℕ → Option Weight) (s l : ℕ) (right : Option ℕ) (w : Weight) → right ≡ None → w ≡ factor_weight under s l
    → w ≡ product_weight under s (product_of 0 l right)
unfolding product_weight
alone_weighs under s l right w none is = is ∙ sym (ap (λ r. product_weight under s (product_of 0 l r)) none)

pub paired_weighs : (under : ℕ → Option Weight) (s l q : ℕ) (right : Option ℕ) (w x y : Weight) → right ≡ Some q → x ≡ factor_weight under s l
    → y ≡ factor_weight under s q → w ≡ times x y → w ≡ product_weight under s (product_of 0 l right)
unfolding product_weight
paired_weighs under s l q right w x y some is_x is_y is =
    is ∙ ap (λ z. times z y) is_x ∙ ap (times (factor_weight under s l)) is_y ∙ sym (ap (λ r. product_weight under s (product_of 0 l r)) some)

-- What is weighed at s depends on the entries before s alone.
module _ (f g : ℕ → Option Weight) (s : ℕ) (same : (q : ℕ) → q < s → f q ≡ g q) where
  factor-front : (q : ℕ) → factor_weight f s q ≡ factor_weight g s q
  unfolding factor_weight
  factor-front q = elim (dec_lt q s) [
    | yes less ↦ ap (λ e. pick (ltb q s) (of_entry s e) (Fault s)) (same q less)
    | no not ↦
        (let behind : ltb q s ≡ _ = le-ltb q s (omega arith) in
        ap (λ t. pick t (of_entry s (f q)) (Fault s)) behind ∙ sym (ap (λ t. pick t (of_entry s (g q)) (Fault s)) behind))
  ]

  product-front : (p : Product) → product_weight f s p ≡ product_weight g s p
  unfolding product_weight
  product-front (alone r a) = factor-front a
  product-front (paired r a b) = ap (λ w. times w (factor_weight f s b)) (factor-front a) ∙ ap (times (factor_weight g s a)) (factor-front b)

  sum-front : (w : Weight) (ps : List Product) → sum_from f s w ps ≡ sum_from g s w ps
  unfolding sum_from
  sum-front w [] = refl
  sum-front w (p ∷ ps) = ap (λ x. sum_from f s (plus w x) ps) (product-front p) ∙ sum-front (plus w (product_weight g s p)) ps

  pub node-front : (count : ℕ) (n : Node) → weigh_node f s count n ≡ weigh_node g s count n
  unfolding weigh_node
  node-front count (token t) = refl
  node-front count (sum ps) = ap (λ w. Some (closed s count ps w)) (sum-front (Number 0) ps)
  node-front count other = refl

-- One entry more, from those before it: the table tells the entries up to it.
pub filled-more :
    {store : List ℕ} {p : ℕ} {table next : Table} (e : Option Weight) → Filled store p table
    → e ≡ weigh_node (tabled table) p (asked_at store p) (node_at store p) → tabled next p ≡ e
    → ((q : ℕ) → q < p → tabled next q ≡ tabled table q) → Filled store (p + 1) next
filled-more {store} {p} {table} {next} e filled weighed new old = record { tells = tells }
  where
    tells : (q : ℕ) → q < p + 1 → tabled next q ≡ entry_at store q
    tells q less = elim (dec_lt q p) [
      | yes before ↦ old q before ∙ filled.tells q before
      | no not ↦
          (let is : q ≡ p = omega arith in
          ap (tabled next) is ∙ new ∙ weighed
          ∙ node-front (tabled table) (entry_in (weights store p)) p (λ i b. filled.tells i b ∙ sym (weights_at store p i b))
          (asked_at store p) (node_at store p)
          ∙ ap (entry_at store) (sym is))
    ]

-- What a Sum weighs from a Product on, of which so many are left.
abbrev pub rest : (ℕ → Option Weight) → ℕ → List ℕ → Weight → ℕ → ℕ → Weight
rest under s u w left at = closed s left (products_at left u at) (sum_from under s w (products_at left u at))

module _ (under : ℕ → Option Weight) (s : ℕ) (store : List ℕ) where
  pub rest_done : (w : Weight) (at : ℕ) → rest under s (usable store) w 0 at ≡ w
  unfolding products_at closed sum_from
  rest_done w at = refl

  pub rest_ended : (w : Weight) (left at : ℕ) → 0 < left → None ≡ step_at store at → plus w (Fault s) ≡ rest under s (usable store) w left at
  unfolding closed sum_from
  rest_ended w left at some e =
      let n : ℕ = left - 1 in
      let is : left ≡ suc n = omega arith in
      let none : products_at (suc n) (usable store) at ≡ [] = products_step n store at ∙ ap (from_step n (usable store)) (sym e) in
      sym (ap (λ k. rest under s (usable store) w k at) is
      ∙ ap (λ ps. closed s (suc n) ps (sum_from under s w ps)) none
      ∙ ap (λ t. pick t (plus w (Fault s)) w) (lt-ltb 0 (suc n) (omega arith)))

  pub same_weight : (r l : ℕ) (right : Option ℕ) → product_weight under s (product_of 0 l right) ≡ product_weight under s (product_of r l right)
  unfolding product_weight
  same_weight r l (Some b) = refl
  same_weight r l None = refl

  closed_on : (n : ℕ) (p : Product) (ps : List Product) (w : Weight) → closed s (suc n) (p ∷ ps) w ≡ closed s n ps w
  unfolding closed
  closed_on n p ps w = elim (dec_lt (length ps) n) [
    | yes less ↦
        ap (λ t. pick t (plus w (Fault s)) w) (lt-ltb (suc (length ps)) (suc n) (omega arith)) ∙ sym (ap (λ t. pick t (plus w (Fault s)) w) (lt-ltb (length ps) n less))
    | no not ↦
        ap (λ t. pick t (plus w (Fault s)) w) (le-ltb (suc (length ps)) (suc n) (omega arith))
        ∙ sym (ap (λ t. pick t (plus w (Fault s)) w) (le-ltb (length ps) n (omega arith)))
  ]

  pub rest_step : (w v y : Weight) (left n at : ℕ) (x : Step) → left ≡ suc n → Some x ≡ step_at store at
      → v ≡ product_weight under s (product_of 0 x.left x.right) → y ≡ plus w v
      → rest under s (usable store) y n x.behind ≡ rest under s (usable store) w left at
  unfolding sum_from
  rest_step w v y left n at x is e is-v is-y =
      let p : Product = product_of x.action x.left x.right in
      let ps : List Product = products_at n (usable store) x.behind in
      let first : products_at (suc n) (usable store) at ≡ p ∷ ps = products_step n store at ∙ ap (from_step n (usable store)) (sym e) in
      ap (λ z. rest under s (usable store) z n x.behind) is-y
      ∙ sym (ap (λ k. rest under s (usable store) w k at) is
      ∙ ap (λ ps. closed s (suc n) ps (sum_from under s w ps)) first
      ∙ closed_on n p ps (sum_from under s (plus w (product_weight under s p)) ps)
      ∙ ap (λ z. closed s n ps (sum_from under s (plus w z) ps)) (sym (is-v ∙ same_weight x.action x.left x.right)))
