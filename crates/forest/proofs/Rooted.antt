-- Nodes are only added: a handle whose factors all stand lists the same trees, however much is written behind.
use Rattle.std.proofs.Common.{◌≡◌, refl, sym, ◌∙◌, ap, subst, List, [], ◌∷◌, ◌++◌, ℕ, zero, suc, ◌≤◌, ◌<◌, arith}
use mathlib.Core.List.Memᴰ.{head as here}
use mathlib.Core.List.Memᴰ.{tail as there}
use mathlib.Core.List.{map, flat_map, Memᴰ as Member}
use Rattle.grammar.specs.Rules.{Grammar}
use Rattle.earley.specs.Positions.{Positions}
use Rattle.forest.specs.Trees.{Tree, one, two}
use Rattle.forest.specs.Forests.{Product, alone, paired, Node, token, sum, other, FactorOf, Under, pairs, of_product, of_node, listed}
use Rattle.forest.proofs.Forests.{Exact, ExactAt}

-- A store as the forest sees it: the node that stands at a handle, with the position behind it, is the one that is read there.
pub record Store : Type 1 where
  pub Stands : ℕ → ℕ → Node → Type 0
  pub node_at : ℕ → Node
  pub rises : {h b : ℕ} {n : Node} → Stands h b n → h < b
  pub reads : {h b : ℕ} {n : Node} → Stands h b n → node_at h ≡ n

-- From `used` up to `now` something was written, and what stood before it stands still.
pub record Onward (s : Store) (used : ℕ) (t : Store) (now : ℕ) : Type 0 where
  pub more : used ≤ now
  pub stays : {h b : ℕ} {n : Node} → s.Stands h b n → b ≤ used → t.Stands h b n

-- A node stands at the handle, before `used`; its factors lie before it, and so do they stand, and theirs.
pub data Rooted (s : Store) (used : ℕ) : ℕ → Type 0 where
  rooted : {h b : ℕ} {n : Node} → s.Stands h b n → b ≤ used → ((q : ℕ) → Under q n → q < h) → ((q : ℕ) → Under q n → Rooted s used q)
      → Rooted s used h

-- A rooted handle lies before `used`, and stays rooted.
pub rooted_before : {s : Store} {used h : ℕ} → Rooted s used h → h < used
rooted_before {s} (Rooted.rooted st le low down) = omega (arith, s.rises st)

pub rooted_stays : {s t : Store} {used now h : ℕ} → Onward s used t now → Rooted s used h → Rooted t now h
rooted_stays on (Rooted.rooted st le low down) =
    Rooted.rooted (on.stays st le) (omega (arith, on.more)) low (λ q u. rooted_stays on (down q u))

-- Where the factors list the same, so does the node.
joined_same : {A B : Type 0} (f f' : A → List B) (l : List A) → ((a : A) → Member a l → f a ≡ f' a) → flat_map f l ≡ flat_map f' l
unfolding flat_map
joined_same f f' [] same = refl
joined_same f f' (a ∷ l) same = ap (λ m. m ++ flat_map f l) (same a (here refl)) ∙ ap (λ m. f' a ++ m) (joined_same f f' l (λ b m. same b (there m)))

product-same : (u v : ℕ → List Tree) (p : Product) → ((q : ℕ) → FactorOf q p → u q ≡ v q) → of_product u p ≡ of_product v p
product-same u v (alone r a) same = ap (map (one r)) (same a FactorOf.only)
product-same u v (paired r a b) same =
    ap (λ l. pairs (two r) (u a) l) (same b FactorOf.right) ∙ ap (λ l. pairs (two r) l (v b)) (same a FactorOf.left)

node-same : (u v : ℕ → List Tree) (n : Node) → ((q : ℕ) → Under q n → u q ≡ v q) → of_node u n ≡ of_node v n
node-same u v (token t) same = refl
node-same u v (sum ps) same = joined_same (of_product u) (of_product v) ps (λ p m. product-same u v p (λ q f. same q (Under.of_product_lem m f)))
node-same u v other same = refl

-- THE TREES STAY.
pub listed-stays : {s t : Store} {used now : ℕ} → Onward s used t now → (rounds h : ℕ) → Rooted s used h
    → listed s.node_at rounds h ≡ listed t.node_at rounds h
listed-stays on zero h r = refl
listed-stays {s} {t} on (suc rounds) h (Rooted.rooted {n = n} st le low down) =
    ap (of_node (listed s.node_at rounds)) (s.reads st)
    ∙ node-same (listed s.node_at rounds) (listed t.node_at rounds) n (λ q u. listed-stays on rounds q (down q u))
    ∙ ap (of_node (listed t.node_at rounds)) (sym (t.reads (on.stays st le)))

pub exact_at_stays : {g : Grammar} {a : Positions} {x i j h : ℕ} {s t : Store} {used now : ℕ} → Onward s used t now → Rooted s used h
    → ExactAt g a s.node_at x i j h → ExactAt g a t.node_at x i j h
exact_at_stays {g} {a} {x} {i} {j} {h} on r e =
    record { exact = λ rounds enough. subst (Exact g a x i j) (listed-stays on rounds h r) (e.exact rounds enough) }

-- More rounds than the handle are enough: however many, they list the same.
pub rounds_enough : {s : Store} {used : ℕ} (r q h : ℕ) → Rooted s used h → h < r → h < q → listed s.node_at r h ≡ listed s.node_at q h
rounds_enough zero q h root l m = absurd (omega arith)
rounds_enough (suc r) zero h root l m = absurd (omega arith)
rounds_enough {s} (suc r) (suc q) h (Rooted.rooted {n = n} st le low down) l m =
    ap (of_node (listed s.node_at r)) (s.reads st)
    ∙ node-same (listed s.node_at r) (listed s.node_at q) n
    (λ p u. rounds_enough r q p (down p u) (omega (arith, low p u)) (omega (arith, low p u)))
    ∙ ap (of_node (listed s.node_at q)) (sym (s.reads st))
