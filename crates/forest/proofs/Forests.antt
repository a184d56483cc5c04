-- What it is that a list, and a handle, has exactly the derivations; and what the pass over one position leaves of nodes and handles.
use Rattle.std.proofs.Common.{◌≡◌, List, ◌↔◌, ℕ, ◌<◌}
use mathlib.Core.List.{Memᴰ as Member}
use Rattle.grammar.specs.Rules.{Grammar, Says, none}
use Rattle.earley.specs.Positions.{Positions}
use Rattle.earley.proofs.Charts.{Chart}
use Rattle.forest.specs.Trees.{Tree}
use Rattle.forest.specs.Lists.{Once}
use Rattle.forest.specs.Forests.{Product, alone, paired, Node, sum, listed}
use Rattle.forest.proofs.Trees.{Grows}

-- Exactly the derivations from `x` over the positions behind `i` up to `j`, each once.
pub record Exact (g : Grammar) (a : Positions) (x i j : ℕ) (l : List Tree) : Type 0 where
  pub sound : (d : Tree) → Member d l → Grows g a d x i j
  pub complete : (d : Tree) → Grows g a d x i j → Member d l
  pub once : Once l

-- The same of a handle, for any number of rounds that is enough.
pub record ExactAt (g : Grammar) (a : Positions) (node : ℕ → Node) (x i j h : ℕ) : Type 0 where
  pub exact : (rounds : ℕ) → h < rounds → Exact g a x i j (listed node rounds h)

-- The handles of a pass. `linked k x h`: the pair of set `k` and symbol `x` was completed with the node at `h`. `held s o r h`: the item of
-- set `s`, origin `o` and rule `r` has the handle `h`. One pair has one handle, one item has one.
pub record Handles (c : Chart) : Type 1 where
  pub linked : ℕ → ℕ → ℕ → Type 0
  pub held : ℕ → ℕ → ℕ → ℕ → Type 0
  pub one_link : {k x h h' : ℕ} → linked k x h → linked k x h' → h ≡ h'
  pub one_held : {s o r h h' : ℕ} → held s o r h → held s o r h' → h ≡ h'
  pub is_item : {s o r h : ℕ} → held s o r h → c.item s o r

-- A completed pair, with its handle.
pub record Completed {c : Chart} (hs : Handles c) (k x : ℕ) : Type 0 where
  pub handle : ℕ
  pub linked : hs.linked k x handle

-- An item, with its handle.
pub record Holding {c : Chart} (hs : Handles c) (s o r : ℕ) : Type 0 where
  pub handle : ℕ
  pub held : hs.held s o r handle

-- The summands of a pair: the products that the completed pairs and the items give it.
pub data Summand (g : Grammar) (c : Chart) (hs : Handles c) (k x : ℕ) : Product → Type 0 where
  unary : {r y a : ℕ} → Says g r x y none → hs.linked k y a → c.row k y → c.row k x → Summand g c hs k x (alone r a)
  closed : {r y z s a b : ℕ} → Says g r x y z → hs.linked s z b → c.row s z → hs.held s k r a → Summand g c hs k x (paired r a b)

-- The factors of a product lie before a handle.
pub data Before (h : ℕ) : Product → Type 0 where
  one_before : {r a : ℕ} → a < h → Before h (alone r a)
  both-before : {r a b : ℕ} → a < h → b < h → Before h (paired r a b)

pub before_one : {h r a : ℕ} → Before h (alone r a) → a < h
before_one (Before.one_before l) = l

pub before-left : {h r a b : ℕ} → Before h (paired r a b) → a < h
before-left (Before.both-before l m) = l

pub before-right : {h r a b : ℕ} → Before h (paired r a b) → b < h
before-right (Before.both-before l m) = m

-- A Sum has these products, each once, and its factors lie before it.
pub record SumOf (node : ℕ → Node) (h : ℕ) (P : Product → Type 0) : Type 0 where
  pub products : List Product
  pub stands : node h ≡ sum products
  pub all : (p : Product) → Member p products ↔ P p
  pub once : Once products
  pub before : (p : Product) → Member p products → Before h p
