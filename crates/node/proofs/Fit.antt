-- What it means that a node is not unfit.
use Rattle.std.proofs.Common.{ℕ, ◌<◌, ◌≤◌, ◌≡◌, refl, sym, ap, subst, ◌∙◌, Bool, true, false, List, [], arith, length, leb, ltb, eqb, leb-false, Option, Some, None}
use borrow.Author.Tests.{lt-leb}
use Rattle.node.specs.Choice.{pick, both, either, both_below}
use Rattle.node.specs.Rows.{unfit, unfit_factor, unfit_right, unfit_product, units_at, row_of}
use Rattle.node.specs.Rows.{sum_row, long_product, alone_row, pair_row, product_row, leaf_row, distance}
use Rattle.node.specs.Rows.{count_limit, action_limit, all_ones}
use Rattle.node.specs.declared.Node.{Node}
use Rattle.node.specs.declared.Node.TheVariants.{Sum, Product, NullingLeaf, Evaluated}

pub either_first : (s t : Bool) → either s t ≡ false → s ≡ false
either_first true t e = e
either_first false t e = refl

pub either_second : (s t : Bool) → either s t ≡ false → t ≡ false
either_second true true e = e
either_second true false e = refl
either_second false t e = e

-- A fit Sum has a count below its limit.
pub fit-sum : (p : ℕ) {node : Node} {count nonterminal : ℕ} → node ≡ Sum count nonterminal → unfit p node ≡ false → count < count_limit
unfolding unfit
fit-sum p {count = count} is fit = leb-false count_limit count (sym (ap (unfit p) is) ∙ fit)

-- A fit Product has an action below its limit, and its factors lie before it; a present right factor is not all ones.
pub record FitProduct (p action left : ℕ) (right : Option ℕ) : Type 0 where
  pub action_small : action < action_limit
  pub left-before : left < p
  pub right-fit : unfit_right p right ≡ false

pub fit-product : {p action left : ℕ} {right : Option ℕ} → unfit_product p action left right ≡ false → FitProduct p action left right
unfolding unfit_product
fit-product {p} {action} {left} {right} fit =
    let factors : either (unfit_factor p left) (unfit_right p right) ≡ false = either_second (leb action_limit action) _ fit in
    record {
      action_small = leb-false action_limit action (either_first _ _ fit);
      left-before = leb-false p left (either_first _ (unfit_right p right) factors);
      right-fit = either_second (unfit_factor p left) _ factors;
    }

pub record FitRight (p factor : ℕ) : Type 0 where
  pub before : factor < p
  pub present : eqb factor all_ones ≡ false

pub fit-right : {p factor : ℕ} → unfit_right p (Some factor) ≡ false → FitRight p factor
unfolding unfit_right
fit-right {p} {factor} fit = record {
  before = leb-false p factor (either_first _ (eqb factor all_ones) fit);
  present = either_second (unfit_factor p factor) _ fit;
}

-- The other way round: such a Product is fit.
pub product-fit : {p action left : ℕ} {right : Option ℕ} → FitProduct p action left right → unfit_product p action left right ≡ false
unfolding unfit_product
product-fit {p} {action} {left} {right} fit =
    simp (lt-leb action_limit action fit.action_small, lt-leb p left fit.left-before, fit.right-fit)

pub right-fit : {p factor : ℕ} → factor < p → eqb factor all_ones ≡ false → unfit_right p (Some factor) ≡ false
unfolding unfit_right
right-fit {p} {factor} before present = simp (lt-leb p factor before, present)

-- A fit node has the units of its row.
pub fit_row : (p : ℕ) (node : Node) → unfit p node ≡ false → units_at p node ≡ row_of p node
unfolding units_at
fit_row p node fit = rw fit

-- A fit node has a unit at least, and none has more than six.
pub record Size (us : List ℕ) : Type 0 where
  pub some : 0 < length us
  pub few : length us ≤ 6

size-pick : (t : Bool) {us vs : List ℕ} → Size us → Size vs → Size (pick t us vs)
size-pick true a b = a
size-pick false a b = b

size-long : (a l r : ℕ) → Size (long_product a l r)
unfolding long_product
size-long a l r = record { some = omega arith; few = omega arith }

pub row-size : (p : ℕ) (node : Node) → Size (row_of p node)
unfolding row_of sum_row product_row alone_row pair_row leaf_row
row-size p (Sum c n) =
    size-pick (both_below c 32 n 256) (record { some = omega arith; few = omega arith }) (record { some = omega arith; few = omega arith })
row-size p (Product a l None) =
    size-pick (both_below (distance p l) 32 a 256) (record { some = omega arith; few = omega arith })
    (size-pick (both_below (distance p l) 8192 a 65536) (record { some = omega arith; few = omega arith }) (size-long a l all_ones))
row-size p (Product a l (Some r)) =
    size-pick (both (ltb a 65536) (both_below (distance p r) 32 (distance p l) 256)) (record { some = omega arith; few = omega arith })
    (size-long a l r)
row-size p (NullingLeaf n) =
    size-pick (ltb n 4096) (record { some = omega arith; few = omega arith }) (record { some = omega arith; few = omega arith })
row-size p (Evaluated n) =
    size-pick (ltb n 4096) (record { some = omega arith; few = omega arith }) (record { some = omega arith; few = omega arith })

-- The units of a node, where it is fit, and none where it is not.
pub record Fitting (p : ℕ) (node : Node) (us : List ℕ) : Type 0 where
  pub is : us ≡ units_at p node
  pub size : Size us

pub fitting : (p : ℕ) (node : Node) (us : List ℕ) → Some us ≡ pick (unfit p node) None (Some (row_of p node)) → Fitting p node us
unfolding units_at
fitting p node us e = on (unfit p node) refl e
  where
    on : (t : Bool) → unfit p node ≡ t → Some us ≡ pick t None (Some (row_of p node)) → Fitting p node us
    on true h e = cc
    on false h e =
        let same : us ≡ row_of p node = cc in
        record { is = same ∙ sym (fit_row p node h); size = subst Size (sym same) (row-size p node) }

pub own-units :
    (p : ℕ) (node : Node) (us vs : List ℕ) → vs ≡ us → Some us ≡ pick (unfit p node) None (Some (row_of p node)) → Fitting p node vs
own-units p node us vs same e = subst (Fitting p node) (sym same) (fitting p node us e)

pub none-fitting :
    (p : ℕ) (node : Node) → ◌≡◌ {A = Option (List ℕ)} None (pick (unfit p node) None (Some (row_of p node)))
    → [] ≡ units_at p node
unfolding units_at
none-fitting p node e = on (unfit p node) e
  where
    on : (t : Bool) → ◌≡◌ {A = Option (List ℕ)} None (pick t None (Some (row_of p node))) → [] ≡ pick t [] (row_of p node)
    on true e = refl
    on false e = cc
