-- What a pass writes, turn by turn: handles rise, every node stands at the end, every handle is rooted, and what was rooted before stays so.
use Rattle.std.proofs.Common.{◌≡◌, refl, sym, ◌∙◌, ap, subst, List, [], ◌∷◌, ℕ, zero, suc, ◌≤◌, ◌<◌, arith}
use mathlib.Core.List.{map}
use mathlib.Core.List.Memᴰ.{head as here}
use mathlib.Core.List.Memᴰ.{not-nil as no_member}
use mathlib.Core.List.Memᴰ.{tail as there}
use mathlib.Core.List.{Memᴰ as Member}
use native.Mathlib.Decide.{dec_lt}
use Rattle.grammar.specs.Rules.{Grammar}
use Rattle.earley.specs.Positions.{Positions}
use Rattle.earley.proofs.Charts.{Chart}
use Rattle.forest.specs.Forests.{Product, Node, token, sum, FactorOf, Under}
use Rattle.forest.proofs.Forests.{ExactAt, Handles, Summand, Before, SumOf}
use Rattle.forest.proofs.Tied.{Turn, Tied}
use Rattle.binary_heap.specs.Entry.{Entry}
use Rattle.forest.proofs.Entries.{Pair, Items, product_of, Order, terms, CallingFor, Charted, Rising, Linked}
use Rattle.forest.proofs.Sums.{handles, sums}
use Rattle.forest.proofs.Rooted.{Store, Onward, Rooted, rooted_stays, exact_at_stays}

-- The node of a turn: a leaf for a token, a Sum of its products for a nonterminal.
pub record NodeOf (g : Grammar) (is : Items) (t : Turn Entry Pair) (n : Node) : Type 0 where
  pub leaf : t.pair.symbol < g.tokens → n ≡ token t.pair.symbol
  pub sums : g.tokens ≤ t.pair.symbol → n ≡ sum (map (product_of is) t.products)

-- It stands at the turn's handle, before `used`.
pub record Planted (g : Grammar) (is : Items) (s : Store) (used : ℕ) (t : Turn Entry Pair) : Type 0 where
  pub behind : ℕ
  pub node : Node
  pub stands : s.Stands t.handle behind node
  pub inside : behind ≤ used
  pub is_node : NodeOf g is t node

-- From the store and the used units at the start: each turn writes its node at `used`, and then `used` is behind it.
pub data Writing (g : Grammar) (is : Items) (s₀ : Store) (used₀ : ℕ) : List (Turn Entry Pair) → Store → ℕ → Type 1 where
  start : Writing g is s₀ used₀ [] s₀ used₀
  writes : {past : List (Turn Entry Pair)} {s u : Store} {used b : ℕ} {t : Turn Entry Pair} {n : Node} → Writing g is s₀ used₀ past s used
      → NodeOf g is t n → t.handle ≡ used → Onward s used u b → u.Stands used b n → Writing g is s₀ used₀ (t ∷ past) u b

planted-stays : {g : Grammar} {is : Items} {s u : Store} {used b : ℕ} {t : Turn Entry Pair} → Onward s used u b → Planted g is s used t → Planted g is u b t
planted-stays on p = record {
  behind = p.behind;
  node = p.node;
  stands = on.stays p.stands p.inside;
  inside = omega (arith, p.inside, on.more);
  is_node = p.is_node;
}

module _ {g : Grammar} {is : Items} {s₀ : Store} {used₀ : ℕ} where
  -- Every node of the pass stands in the store that it leaves.
  pub planted : {past : List (Turn Entry Pair)} {s : Store} {used : ℕ} → Writing g is s₀ used₀ past s used → (t : Turn Entry Pair) → Member t past
      → Planted g is s used t
  planted Writing.start t m = absurd (no_member m)
  planted (Writing.writes {u = u} {b = b} {t = latest} {n = n} before is_node at on stands) t (here same) =
      subst (Planted g is u b) (sym same)
      (record { behind = b; node = n; stands = subst (λ h. u.Stands h b n) (sym at) stands; inside = omega arith; is_node = is_node })
  planted (Writing.writes before is_node at on stands) t (there m) = planted-stays on (planted before t m)

  -- Handles lie before `used`, so the next turn's is above them,
  pub handles-before : {past : List (Turn Entry Pair)} {s : Store} {used : ℕ} → Writing g is s₀ used₀ past s used → (t : Turn Entry Pair)
      → Member t past → t.handle < used
  handles-before {s = s} w t m = let p = planted w t m in omega (arith, s.rises p.stands, p.inside)

  used_grows : {past : List (Turn Entry Pair)} {s : Store} {used : ℕ} → Writing g is s₀ used₀ past s used → used₀ ≤ used
  used_grows Writing.start = omega arith
  used_grows (Writing.writes before is_node at on stands) = omega (arith, used_grows before, on.more)

  -- and not before what was used at the start.
  pub handles_from : {past : List (Turn Entry Pair)} {s : Store} {used : ℕ} → Writing g is s₀ used₀ past s used → (t : Turn Entry Pair)
      → Member t past → used₀ ≤ t.handle
  handles_from Writing.start t m = absurd (no_member m)
  handles_from (Writing.writes before is_node at on stands) t (here same) =
      omega (arith, used_grows before, ap (λ (u : Turn Entry Pair). u.handle) same)
  handles_from (Writing.writes before is_node at on stands) t (there m) = handles_from before t m

  -- What was rooted at the start is so at the end,
  pub old_rooted : {past : List (Turn Entry Pair)} {s : Store} {used h : ℕ} → Rooted s₀ used₀ h → Writing g is s₀ used₀ past s used → Rooted s used h
  old_rooted r Writing.start = r
  old_rooted r (Writing.writes before is_node at on stands) = rooted_stays on (old_rooted r before)

  -- and what was exact.
  pub old_exact : {a : Positions} {x i j h : ℕ} {past : List (Turn Entry Pair)} {s : Store} {used : ℕ} → Rooted s₀ used₀ h
      → ExactAt g a s₀.node_at x i j h → Writing g is s₀ used₀ past s used → ExactAt g a s.node_at x i j h
  old_exact r e Writing.start = e
  old_exact r e (Writing.writes before is_node at on stands) = exact_at_stays on (old_rooted r before) (old_exact r e before)

-- A factor of a product that lies before a handle lies before it.
pub factor-low : {h q : ℕ} {p : Product} → Before h p → FactorOf q p → q < h
factor-low (Before.one_before l) FactorOf.only = l
factor-low (Before.both-before l m) FactorOf.left = l
factor-low (Before.both-before l m) FactorOf.right = m

-- A factor of a summand is a linked handle or a held one.
factor_is : {g : Grammar} {c : Chart} {hs : Handles c} {k x q : ℕ} {p : Product} {R : Type 0} → Summand g c hs k x p → FactorOf q p
    → ((k x : ℕ) → hs.linked k x q → R) → ((s o r : ℕ) → hs.held s o r q → R) → R
factor_is (Summand.unary {y = y} says l ry rx) FactorOf.only linked held = linked _ y l
factor_is (Summand.closed {r = r} says l rz h) FactorOf.left linked held = held _ _ r h
factor_is (Summand.closed {z = z} {s = s} says l rz h) FactorOf.right linked held = linked s z l

leafless : {q t : ℕ} → Under q (token t) → ⊥
leafless = elim [ ]

module _ (g : Grammar) (c : Chart) (is : Items) (o : Order) {past : List (Turn Entry Pair)} {passes : ℕ → Type 0} (charted : Charted g c is)
    (tied : Tied (terms g is o) past []) (rising : Rising is past) (calling : CallingFor g c is passes past)
    (passed : (t : Turn Entry Pair) → Member t past → g.tokens ≤ t.pair.symbol → passes t.pair.symbol) (store : Store) (used : ℕ)
    (stand : (t : Turn Entry Pair) → Member t past → Planted g is store used t)
    (old : (s p : ℕ) → is.Inside s p → Rooted store used (is.handle p)) where
  abbrev hs : Handles c
  hs = handles g c is o charted tied

  node-sums : (k x h : ℕ) → Linked past k x h → g.tokens ≤ x → SumOf store.node_at h (Summand g c hs k x)
  node-sums =
      sums g c is o charted tied rising calling store.node_at g.tokens passed
      (λ t m big. store.reads (stand t m).stands ∙ (stand t m).is_node.sums big)

  -- A factor of a Sum lies before it, and is rooted where those before it are.
  module _ (t : Turn Entry Pair) (m : Member t past) (big : g.tokens ≤ t.pair.symbol)
      (below : (k x q : ℕ) → Linked past k x q → q < t.handle → Rooted store used q) where
    abbrev its : SumOf store.node_at t.handle (Summand g c hs t.pair.set t.pair.symbol)
    its = node-sums t.pair.set t.pair.symbol t.handle (record { turn = t; member = m; set = refl; symbol = refl; handle = refl }) big

    same-products : sum its.products ≡ sum (map (product_of is) t.products)
    same-products = sym its.stands ∙ store.reads (stand t m).stands ∙ (stand t m).is_node.sums big

    under_low : (q : ℕ) → Under q (sum its.products) → q < t.handle
    under_low q (Under.of_product_lem {p = p} n f) = factor-low (its.before p n) f

    under_rooted : (q : ℕ) → Under q (sum its.products) → Rooted store used q
    under_rooted q (Under.of_product_lem {p = p} n f) =
        factor_is {hs = hs} ((its.all p).0 n) f (λ k x l. below k x q l (factor-low (its.before p n) f))
        (λ s o r h. subst (Rooted store used) h.handle (old s h.place h.inside))

  turn_rooted : (n : ℕ) (t : Turn Entry Pair) → Member t past → t.handle < n → Rooted store used t.handle
  turn_rooted zero t m less = absurd (omega arith)
  turn_rooted (suc n) t m less =
      let further : (u : Turn Entry Pair) → Member u past → u.handle < n → Rooted store used u.handle = turn_rooted n in
      let below : (k x q : ℕ) → Linked past k x q → q < t.handle → Rooted store used q =
      λ k x q l low. subst (Rooted store used) l.handle (further l.turn l.member (omega (arith, l.handle))) in
      let p = stand t m in
      elim (dec_lt t.pair.symbol g.tokens) [
        | yes small ↦
            Rooted.rooted (subst (store.Stands t.handle p.behind) (p.is_node.leaf small) p.stands) p.inside (λ q u. absurd (leafless u))
            (λ q u. absurd (leafless u))
        | no not ↦
            (let big : g.tokens ≤ t.pair.symbol = omega arith in
            let is-it : p.node ≡ sum (its t m big below).products = p.is_node.sums big ∙ sym (same-products t m big below) in
            Rooted.rooted (subst (store.Stands t.handle p.behind) is-it p.stands) p.inside (under_low t m big below) (under_rooted t m big below))
      ]

  -- EVERY HANDLE OF THE PASS IS ROOTED.
  pub link_rooted : (k x h : ℕ) → Linked past k x h → Rooted store used h
  link_rooted k x h l = subst (Rooted store used) l.handle (turn_rooted (suc l.turn.handle) l.turn l.member (omega arith))
