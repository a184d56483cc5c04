-- The units of a node store as a store of the forest: a Sum written with its Products stands, and stays however much is written behind it.
use Rattle.std.proofs.Common.{◌≡◌, refl, sym, ◌∙◌, ap, true, List, [], ◌∷◌, ℕ, ◌+◌, ◌≤◌, ◌<◌, arith, length, get_or, Some, None}
use mathlib.Core.List.{map}
use Rattle.node.specs.Choice.{pick}
use Rattle.node.specs.Rows.{units_at}
use Rattle.node.specs.Writing.{usable}
use Rattle.node.specs.Reading.{stand, spelt}
use Rattle.node.specs.declared.Node.{Node as Written}
use Rattle.node.specs.declared.Node.TheVariants.{Sum, Product as Factors, Evaluated}
use Rattle.node.proofs.Stands.{Holds, all_held, all-stand}
use Rattle.node.proofs.Spells.{units_spell}
use Rattle.node.proofs.Exact.{within}
use Rattle.node.proofs.RoundTrip.{did_write, head-standing, stand_all_lem, all_of_stand, written_stands}
use Rattle.node.proofs.InOrder.{WrittenFrom, Same, write_keeps}
use Rattle.forest.specs.Forests.{Product, alone, paired, Node, token, sum, other}
use Rattle.forest.specs.Stores.{standing, with_product, products_at, as_node, node_at}
use Rattle.forest.proofs.Rooted.{Store, Onward}

-- Where a node's units stand, it is what is found.
pub standing_is : {A : Type 0} (s : List ℕ) (q : ℕ) (n : Written) (found : Written → A) (none : A) → stand s q (units_at q n) ≡ true
    → standing s q (spelt s q) found none ≡ found n
standing_is s q n found none st =
    ap (λ x. standing s q x found none) (units_spell s q n st) ∙ ap (λ b. pick b (found n) none) st

-- Units that are the same below b: what stands before b stands.
pub stand-keeps : {b : ℕ} (s t : List ℕ) (h : ℕ) (us : List ℕ) → Same b s t → stand s h us ≡ true → h + length us ≤ b → stand t h us ≡ true
stand-keeps s t h us same st le =
    stand_all_lem t h us (within s h us st).some
    (all-stand t h us
    (λ k low.
    let held : Holds s (h + k) (get_or us k 0) = all_held s h us (all_of_stand s h us st) k low in
    record { within = omega (arith, held.within, same.size); there = same.below (h + k) (omega arith) ∙ held.there }))

-- Nodes that stand one behind another from p on, and b is behind the last.
pub data Row (s : List ℕ) : ℕ → List Written → ℕ → Type 0 where
  none : {p : ℕ} → Row s p [] p
  more : {p q b : ℕ} {n : Written} {ns : List Written} → stand (usable s) p (units_at p n) ≡ true → q ≡ p + length (units_at p n) → Row s q ns b
      → Row s p (n ∷ ns) b

-- Their positions rise.
row_rises : {s : List ℕ} {p b : ℕ} {ns : List Written} → Row s p ns b → p ≤ b
row_rises none = omega arith
row_rises (more st is rest) = omega (arith, row_rises rest)

-- They stand still after a write behind them,
row_keeps : {s t : List ℕ} {q p b : ℕ} {ns : List Written} → Same q (usable s) (usable t) → Row s p ns b → b ≤ q → Row t p ns b
row_keeps same none le = none
row_keeps {s} {t} same (more {p = p} {n = n} st is rest) le =
    more (stand-keeps (usable s) (usable t) p (units_at p n) same st (omega (arith, row_rises rest))) is (row_keeps same rest le)

-- and after any number of writes from there on.
row_stays : {s t : List ℕ} {p b q c : ℕ} {ns ms : List Written} → WrittenFrom s q ms t c → Row s p ns b → b ≤ q → Row t p ns b
row_stays WrittenFrom.none r le = r
row_stays {s} (WrittenFrom.more {t = t} {p = q} {q = d} {n = m} w rest) r le =
    row_stays rest (row_keeps (write_keeps s q m d t w) r le) (omega (arith, (did_write s q (units_at q m) d t w).behind))

-- What is written one behind another stands so.
written_row : {s t : List ℕ} {p b : ℕ} {ns : List Written} → WrittenFrom s p ns t b → Row t p ns b
written_row WrittenFrom.none = none
written_row {s} (WrittenFrom.more {t = t} {p = p} {q = q} {n = n} w rest) =
    first (row_stays rest (more (written_stands s p n q t w) (did_write s p (units_at p n) q t w).behind none) (omega arith)) (written_row rest)
  where
    first : {u : List ℕ} {b : ℕ} {ns : List Written} → Row u p (n ∷ []) q → Row u q ns b → Row u p (n ∷ ns) b
    first (more st is none) rest = more st is rest

-- The units used do not become fewer.
used-more : {s t : List ℕ} {used c : ℕ} {ms : List Written} → WrittenFrom s used ms t c → used ≤ c
used-more w = row_rises (written_row w)

-- The node of a product.
abbrev pub spell : Product → Written
spell (alone r a) = Factors r a None
spell (paired r a b) = Factors r a (Some b)

with_spelt : (p : Product) (l : List Product) → with_product (spell p) l ≡ p ∷ l
with_spelt (alone r a) l = refl
with_spelt (paired r a b) l = refl

-- Products that stand one behind another are those that are read.
products-row : {s : List ℕ} {p b : ℕ} (ps : List Product) → Row s p (map spell ps) b → products_at (length ps) (usable s) p ≡ ps
unfolding products_at
products-row [] r = refl
products-row {s} {p} (x ∷ ps) (more {q = q} st is rest) =
    let u : List ℕ = usable s in
    let at : ℕ → List Product = λ h. standing u h (spelt u h) (λ w. with_product w (products_at (length ps) u (h + length (units_at h w)))) [] in
    ap at (head-standing u p (spell x) st)
    ∙ standing_is u p (spell x) (λ w. with_product w (products_at (length ps) u (p + length (units_at p w)))) [] st
    ∙ with_spelt x (products_at (length ps) u (p + length (units_at p (spell x))))
    ∙ ap (λ k. x ∷ products_at (length ps) u k) (sym is)
    ∙ ap (λ l. x ∷ l) (products-row ps rest)

-- A Sum with its Products, or a leaf, stands from h up to b.
pub data Standing (s : List ℕ) (h b : ℕ) : Node → Type 0 where
  sums : {x : ℕ} (ps : List Product) → Row s h (Sum (length ps) x ∷ map spell ps) b → Standing s h b (sum ps)
  leaf : {t : ℕ} → Row s h (Evaluated t ∷ []) b → Standing s h b (token t)

pub standing-read : {s : List ℕ} {h b : ℕ} {n : Node} → Standing s h b n → node_at s h ≡ n
unfolding node_at
standing-read {s} {h} (Standing.sums {x = x} ps (more st is rest)) =
    standing_is (usable s) h (Sum (length ps) x) (λ w. as_node w (λ n. products_at n (usable s) (h + length (units_at h w)))) other st
    ∙ ap (λ k. sum (products_at (length ps) (usable s) k)) (sym is)
    ∙ ap sum (products-row ps rest)
standing-read {s} {h} (Standing.leaf {t = t} (more st is rest)) =
    standing_is (usable s) h (Evaluated t) (λ w. as_node w (λ n. products_at n (usable s) (h + length (units_at h w)))) other st

-- A node takes a unit at least.
row-some : {s : List ℕ} {p b : ℕ} {n : Written} {ns : List Written} → Row s p (n ∷ ns) b → p < b
row-some {s} {p} {n = n} (more st is rest) = omega (arith, row_rises rest, (within (usable s) p (units_at p n) st).some)

pub standing_rises : {s : List ℕ} {h b : ℕ} {n : Node} → Standing s h b n → h < b
standing_rises (Standing.sums ps r) = row-some r
standing_rises (Standing.leaf r) = row-some r

-- A store of units is a store of the forest.
abbrev pub unit_store : List ℕ → Store
unit_store s = record { Stands = Standing s; node_at = node_at s; rises = standing_rises; reads = standing-read }

-- NODES ARE ONLY ADDED: what stands before `used` stands there still, whatever is written from `used` on.
pub stands_stay : {s t : List ℕ} {h b used c : ℕ} {n : Node} {ms : List Written} → WrittenFrom s used ms t c → Standing s h b n → b ≤ used
    → Standing t h b n
stands_stay w (Standing.sums ps r) le = Standing.sums ps (row_stays w r le)
stands_stay w (Standing.leaf r) le = Standing.leaf (row_stays w r le)

pub written_onward : {s t : List ℕ} {used c : ℕ} {ms : List Written} → WrittenFrom s used ms t c → Onward (unit_store s) used (unit_store t) c
written_onward w = record { more = used-more w; stays = λ st le. stands_stay w st le }

-- A Sum written with its Products stands where the units were used up to, and ends where they are used up to now; so does a leaf.
pub sum-stands : {s t : List ℕ} {used b x : ℕ} (ps : List Product) → WrittenFrom s used (Sum (length ps) x ∷ map spell ps) t b
    → Standing t used b (sum ps)
sum-stands ps w = Standing.sums ps (written_row w)

pub leaf-stands : {s t : List ℕ} {used b x : ℕ} → WrittenFrom s used (Evaluated x ∷ []) t b → Standing t used b (token x)
leaf-stands w = Standing.leaf (written_row w)
