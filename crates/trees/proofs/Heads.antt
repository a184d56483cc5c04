-- What is read of a store is what stands in it.
use Rattle.std.proofs.Common.{◌≡◌, refl, sym, ap, subst, ◌∙◌, Bool, true, false, List, [], ◌∷◌, ◌≢◌, ℕ, suc, ◌+◌, ◌<◌, arith, length, get_or, get_or-take, Option, Some, None}
use native.Mathlib.Decide.{dec_lt}
use Rattle.node.specs.Choice.{pick}
use Rattle.node.specs.Rows.{units_at}
use Rattle.node.specs.Writing.{usable_units, usable}
use Rattle.node.specs.Reading.{filler, head_from, holds, stand, spelt, read_at}
use Rattle.node.specs.Answers.{Answer, answer, refused, done, node, end, nothing, no_node}
use Rattle.node.specs.declared.Node.{Node as Written}
use Rattle.node.specs.declared.Node.TheVariants.{Sum, Product as Factors, NullingLeaf, Evaluated}
use Rattle.node.proofs.Fillers.{head_past, head-here}
use Rattle.node.proofs.Runs.{length-usable}
use Rattle.node.proofs.Stands.{held, hold}
use Rattle.node.proofs.Exact.{Taken, within, read_taken, read-stands}
use Rattle.node.proofs.RoundTrip.{no_filler, read-standing}
use Rattle.forest.specs.Forests.{Product, Node, token, sum, other}
use Rattle.forest.specs.Stores.{standing, with_product, products_at, as_node, node_at}
use Rattle.forest.proofs.Units.{standing_is}
use Rattle.trees.specs.Faults.{asked, asked_at}
use Rattle.trees.specs.inner.Heads.{head_of, head_at, step_of, step_at, product_of, SumAt}
use Rattle.trees.specs.inner.Weights.{sum_weight, weigh_node}
use Rattle.trees.specs.declared.Head.{Head}
use Rattle.trees.specs.declared.Head.TheVariants.{SumOf, Leaf}
use Rattle.trees.specs.declared.Step.{Step}
use Rattle.trees.specs.declared.Weight.TheVariants.{Number}
use Rattle.trees.specs.declared.Weight.{Weight}

-- Where no node's units stand, nothing is found.
standing_none : {A : Type 0} (s : List ℕ) (q : ℕ) (found : Written → A) (none : A) → ((n : Written) → stand s q (units_at q n) ≡ true → ⊥)
    → standing s q (spelt s q) found none ≡ none
standing_none s q found none never = spelt_case (spelt s q)
  where
    stand_case : (n : Written) (t : Bool) → stand s q (units_at q n) ≡ t → pick t (found n) none ≡ none
    stand_case n true st = absurd (never n st)
    stand_case n false st = refl

    spelt_case : (x : Option Written) → standing s q x found none ≡ none
    spelt_case (Some n) = stand_case n (stand s q (units_at q n)) refl
    spelt_case None = refl

-- At a filler nothing stands.
pub filler-head : (store : List ℕ) (p : ℕ) → holds store p filler ≡ true → None ≡ head_at store p
unfolding head_at
filler-head store p is =
    sym (standing_none (usable store) p _ _ (λ n st.
    let w = within (usable store) p (units_at p n) st in
    let less : p < usable_units = omega (arith, w.some, w.inside, length-usable store) in
    no_filler (usable store) p n st (get_or-take usable_units store p 0 less ∙ (held store p filler is).there)))

-- Where no filler is, reading begins at the position itself.
no_filler_head : (store : List ℕ) (p : ℕ) → holds store p filler ≡ false → head_from (usable store) p ≡ p
no_filler_head store p not = elim (dec_lt p (length (usable store))) [
  | yes less ↦
      head-here (usable store) p less (λ is.
      let inside : p < usable_units = omega (arith, length-usable store) in
      let within-store : p < length store = omega (arith, length-usable store) in
      let there : get_or store p 0 ≡ filler = sym (get_or-take usable_units store p 0 inside) ∙ is in
      let t : holds store p filler ≡ true = hold store p filler within-store there in
      let z : ◌≡◌ {A = ℕ} 0 1 = cc in omega arith)
  | no past ↦ head_past (usable store) p (omega arith)
]

-- What is read there stands there,
pub read_head : (store : List ℕ) (p : ℕ) (n : Written) (b : ℕ) → holds store p filler ≡ false → answer done (node n b) ≡ read_at store p
    → head_of n b ≡ head_at store p
unfolding head_at
read_head store p n b not e =
    let taken : Taken (usable store) p n b =
    subst (λ h. Taken (usable store) h n b) (no_filler_head store p not) (read_taken (usable store) p n b (sym e)).taken in
    ap (head_of n) taken.behind ∙ sym (standing_is (usable store) p n (λ w. head_of w (p + length (units_at p w))) None taken.stands)

-- and where none is read, none stands.
pub none_head : (store : List ℕ) (p : ℕ) (r : Answer) → r ≡ read_at store p → ((n : Written) (b : ℕ) → r ≢ answer done (node n b))
    → None ≡ head_at store p
unfolding head_at
none_head store p r e never =
    sym (standing_none (usable store) p _ _ (λ n st. never n (p + length (units_at p n)) (e ∙ read-standing (usable store) p n st)))

pub read_step : (store : List ℕ) (p : ℕ) (n : Written) (b : ℕ) → answer done (node n b) ≡ read_at store p → step_of n b ≡ step_at store p
unfolding step_at
read_step store p n b e =
    let h : ℕ = head_from (usable store) p in
    let taken : Taken (usable store) h n b = (read_taken (usable store) p n b (sym e)).taken in
    ap (step_of n) taken.behind ∙ sym (standing_is (usable store) h n (λ w. step_of w (h + length (units_at h w))) None taken.stands)

pub none_step : (store : List ℕ) (p : ℕ) (r : Answer) → r ≡ read_at store p → ((n : Written) (b : ℕ) → r ≢ answer done (node n b))
    → None ≡ step_at store p
unfolding step_at
none_step store p r e never =
    let h : ℕ = head_from (usable store) p in
    sym (standing_none (usable store) h _ _ (λ n st. never n (h + length (units_at h n)) (e ∙ read-stands (usable store) p n st)))

-- The end, and a 12, are no node.
pub end_none : (n : Written) (b : ℕ) → answer done end ≢ answer done (node n b)
end_none n b e = let z : ◌≡◌ {A = ℕ} 0 1 = cc in omega arith

pub fault_none : (unit : ℕ) (n : Written) (b : ℕ) → refused no_node unit nothing ≢ answer done (node n b)
fault_none unit n b e = let z : ◌≡◌ {A = ℕ} 0 1 = cc in omega arith

-- The Products behind a Sum, one after the other.
abbrev pub from_step : ℕ → List ℕ → Option Step → List Product
from_step n u (Some x) = product_of x.action x.left x.right ∷ products_at n u x.behind
from_step n u None = []

module _ (n : ℕ) (u : List ℕ) (h : ℕ) where
  product_case : (w : Written) (t : Bool)
      → pick t (with_product w (products_at n u (h + length (units_at h w)))) [] ≡ from_step n u (pick t (step_of w (h + length (units_at h w))) None)
  product_case w false = refl
  product_case (Factors r a (Some b)) true = refl
  product_case (Factors r a None) true = refl
  product_case (Sum c x) true = refl
  product_case (NullingLeaf x) true = refl
  product_case (Evaluated x) true = refl

  product-here : (x : Option Written)
      → standing u h x (λ w. with_product w (products_at n u (h + length (units_at h w)))) []
      ≡ from_step n u (standing u h x (λ w. step_of w (h + length (units_at h w))) None)
  product-here (Some w) = product_case w (stand u h (units_at h w))
  product-here None = refl

pub products_step : (n : ℕ) (store : List ℕ) (p : ℕ) → products_at (suc n) (usable store) p ≡ from_step n (usable store) (step_at store p)
unfolding products_at step_at
products_step n store p =
    product-here n (usable store) (head_from (usable store) p) (spelt (usable store) (head_from (usable store) p))

-- What is weighed of a head.
abbrev pub of_head : (ℕ → Option Weight) → ℕ → List ℕ → Option Head → Option Weight
of_head under p u (Some (SumOf n b)) = Some (sum_weight under p n (products_at n u b))
of_head under p u (Some (Leaf x)) = Some (Number 1)
of_head under p u None = None

pub weigh-head : (under : ℕ → Option Weight) (store : List ℕ) (p : ℕ)
    → weigh_node under p (asked_at store p) (node_at store p) ≡ of_head under p (usable store) (head_at store p)
unfolding weigh_node asked_at node_at head_at
weigh-head under store p = spelt_case (spelt (usable store) p)
  where
    stand_case : (w : Written) (t : Bool)
        → weigh_node under p (pick t (asked w) 0) (pick t (as_node w (λ n. products_at n (usable store) (p + length (units_at p w)))) other)
        ≡ of_head under p (usable store) (pick t (head_of w (p + length (units_at p w))) None)
    stand_case w false = refl
    stand_case (Sum c x) true = refl
    stand_case (Factors r a b) true = refl
    stand_case (NullingLeaf x) true = refl
    stand_case (Evaluated x) true = refl

    spelt_case : (x : Option Written)
        → weigh_node under p (standing (usable store) p x asked 0) (standing (usable store) p x (λ w. as_node w (λ n. products_at n (usable store) (p + length (units_at p w)))) other)
        ≡ of_head under p (usable store) (standing (usable store) p x (λ w. head_of w (p + length (units_at p w))) None)
    spelt_case (Some w) = stand_case w (stand (usable store) p (units_at p w))
    spelt_case None = refl

pub head_weighs : (under : ℕ → Option Weight) (store : List ℕ) (p : ℕ) (x : Option Head) → x ≡ head_at store p
    → of_head under p (usable store) x ≡ weigh_node under p (asked_at store p) (node_at store p)
head_weighs under store p x e = ap (of_head under p (usable store)) e ∙ sym (weigh-head under store p)

-- The node of a head is the node that stands there.
abbrev pub node_of : List ℕ → Option Head → Node
node_of u (Some (SumOf n b)) = sum (products_at n u b)
node_of u (Some (Leaf t)) = token t
node_of u None = other

pub node-head : (store : List ℕ) (p : ℕ) → node_at store p ≡ node_of (usable store) (head_at store p)
unfolding node_at head_at
node-head store p = spelt_case (spelt (usable store) p)
  where
    stand_case : (w : Written) (t : Bool)
        → pick t (as_node w (λ n. products_at n (usable store) (p + length (units_at p w)))) other
        ≡ node_of (usable store) (pick t (head_of w (p + length (units_at p w))) None)
    stand_case w false = refl
    stand_case (Sum c x) true = refl
    stand_case (Factors r a b) true = refl
    stand_case (NullingLeaf x) true = refl
    stand_case (Evaluated x) true = refl

    spelt_case : (x : Option Written)
        → standing (usable store) p x (λ w. as_node w (λ n. products_at n (usable store) (p + length (units_at p w)))) other
        ≡ node_of (usable store) (standing (usable store) p x (λ w. head_of w (p + length (units_at p w))) None)
    spelt_case (Some w) = stand_case w (stand (usable store) p (units_at p w))
    spelt_case None = refl

-- A Sum is found exactly where one stands.
pub head-sum : (store : List ℕ) (p n b : ℕ) → Some (SumOf n b) ≡ head_at store p → SumAt store p
unfolding head_at node_at
head-sum store p n b e = spelt_case (spelt (usable store) p) refl e
  where
    stand_case : (w : Written) (t : Bool) → spelt (usable store) p ≡ Some w → stand (usable store) p (units_at p w) ≡ t
        → Some (SumOf n b) ≡ pick t (head_of w (p + length (units_at p w))) None → SumAt store p
    stand_case w false like st e = let z : ◌≡◌ {A = ℕ} 0 1 = cc in absurd (omega arith)
    stand_case (Sum c x) true like st e =
        let w = within (usable store) p (units_at p (Sum c x)) st in
        record {
          products = products_at c (usable store) (p + length (units_at p (Sum c x)));
          is = standing_is (usable store) p (Sum c x) (λ w. as_node w (λ n. products_at n (usable store) (p + length (units_at p w)))) other st;
          inside = omega (arith, w.some, w.inside, length-usable store);
        }
    stand_case (Factors r a right) true like st e = let z : ◌≡◌ {A = ℕ} 0 1 = cc in absurd (omega arith)
    stand_case (NullingLeaf x) true like st e = let z : ◌≡◌ {A = ℕ} 0 1 = cc in absurd (omega arith)
    stand_case (Evaluated x) true like st e = let z : ◌≡◌ {A = ℕ} 0 1 = cc in absurd (omega arith)

    spelt_case : (x : Option Written) → spelt (usable store) p ≡ x → Some (SumOf n b) ≡ standing (usable store) p x (λ w. head_of w (p + length (units_at p w))) None
        → SumAt store p
    spelt_case (Some w) like e = stand_case w (stand (usable store) p (units_at p w)) like refl e
    spelt_case None like e = let z : ◌≡◌ {A = ℕ} 0 1 = cc in absurd (omega arith)

-- Whether a Sum is found.
abbrev pub sums : Option Head → ℕ
sums (Some (SumOf n b)) = 1
sums (Some (Leaf x)) = 0
sums None = 0

pub no_sum : (store : List ℕ) (p : ℕ) (ps : List Product) → sums (head_at store p) ≡ 0 → node_at store p ≢ sum ps
unfolding head_at node_at
no_sum store p ps none e = spelt_case (spelt (usable store) p) none e
  where
    stand_case : (w : Written) (t : Bool) → sums (pick t (head_of w (p + length (units_at p w))) None) ≡ 0
        → pick t (as_node w (λ n. products_at n (usable store) (p + length (units_at p w)))) other ≡ sum ps → ⊥
    stand_case w false none e = let z : ◌≡◌ {A = ℕ} 0 1 = cc in omega arith
    stand_case (Sum c x) true none e = omega arith
    stand_case (Factors r a right) true none e = let z : ◌≡◌ {A = ℕ} 0 1 = cc in omega arith
    stand_case (NullingLeaf x) true none e = let z : ◌≡◌ {A = ℕ} 0 1 = cc in omega arith
    stand_case (Evaluated x) true none e = let z : ◌≡◌ {A = ℕ} 0 1 = cc in omega arith

    spelt_case : (x : Option Written) → sums (standing (usable store) p x (λ w. head_of w (p + length (units_at p w))) None) ≡ 0
        → standing (usable store) p x (λ w. as_node w (λ n. products_at n (usable store) (p + length (units_at p w)))) other ≡ sum ps → ⊥
    spelt_case (Some w) none e = stand_case w (stand (usable store) p (units_at p w)) none e
    spelt_case None none e = let z : ◌≡◌ {A = ℕ} 0 1 = cc in omega arith
