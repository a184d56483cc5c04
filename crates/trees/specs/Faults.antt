-- What stands below a handle of a store, and what is wrong with a Sum there.
use Rattle.std.specs.Prelude.{◌≡◌, List, ◌≢◌, ℕ, ◌≤◌, ◌<◌, length}
use Rattle.node.specs.Writing.{usable}
use Rattle.node.specs.Reading.{spelt}
use Rattle.node.specs.declared.Node.{Node as Written}
use Rattle.node.specs.declared.Node.TheVariants.{Sum, Product as Factors, NullingLeaf, Evaluated}
use Rattle.forest.specs.Forests.{Product, sum, other, Under}
use Rattle.forest.specs.Stores.{standing, node_at}

-- How many Products a Sum asks for.
abbrev pub asked : Written → ℕ
asked (Sum count nonterminal) = count
asked (Factors r a b) = 0
asked (NullingLeaf x) = 0
asked (Evaluated x) = 0

unfoldable pub asked_at : List ℕ → ℕ → ℕ
asked_at store s = standing (usable store) s (spelt (usable store) s) asked 0

-- What is wrong at s: no Sum stands there; the Sum is not followed by as many Products as it asks for; a factor of one of them, as far as they can
-- be read, is at or past the Sum, or is at neither Sum nor Evaluated.
pub data Faulty (store : List ℕ) (s : ℕ) : Type 0 where
  no_sum : ((ps : List Product) → node_at store s ≢ sum ps) → Faulty store s
  cut_off : {ps : List Product} → node_at store s ≡ sum ps → length ps < asked_at store s → Faulty store s
  late_factor : {q : ℕ} → Under q (node_at store s) → s ≤ q → Faulty store s
  no_factor : {q : ℕ} → Under q (node_at store s) → node_at store q ≡ other → Faulty store s

-- Below a handle are the handle and, of every Sum below it, each factor that lies before that Sum and has a Sum. A faulty Sum is looked through as far
-- as its Products can be read.
pub data Below (store : List ℕ) (h : ℕ) : ℕ → Type 0 where
  itself : Below store h h
  factor : {s q : ℕ} {ps : List Product} → Below store h s → Under q (node_at store s) → q < s → node_at store q ≡ sum ps → Below store h q

-- The lowest of those below a handle that are faulty.
pub record LowestFault (store : List ℕ) (h s : ℕ) : Type 0 where
  pub below : Below store h s
  pub faulty : Faulty store s
  pub lowest : (q : ℕ) → Below store h q → Faulty store q → s ≤ q

-- Nothing below a handle is faulty.
pub record Sound (store : List ℕ) (h : ℕ) : Type 0 where
  pub sound : (s : ℕ) → Below store h s → Faulty store s → ⊥
