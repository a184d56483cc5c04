-- What the walkers choose, what they are asked, and what they promise.
use Rattle.trees.specs.declared.table.Table.{Table}
use Rattle.std.specs.Prelude.{◌≡◌, Option, Some, None, Bool, true, false, List, [], ◌∷◌, ◌++◌, ◌≢◌, ℕ, suc, ◌+◌, ◌/◌, ◌%◌, ◌≤◌, ◌<◌, min, length, ltb}
use Rattle.std.proofs.lemmas.List.Edits.{sets}
use Rattle.node.specs.Writing.{usable_units, usable}
use Rattle.forest.specs.Trees.{Tree, preorder}
use Rattle.forest.specs.Lists.{At}
use Rattle.forest.specs.Forests.{Product, token, sum}
use Rattle.forest.specs.Stores.{products_at, node_at, trees_at}
use Rattle.trees.specs.Faults.{Sound}
use Rattle.trees.specs.inner.Weights.{factor_weight}
use Rattle.trees.specs.inner.Tables.{Filled}
use Rattle.trees.specs.declared.Weight.{Weight}
use Rattle.trees.specs.declared.Weight.TheVariants.{Fault, Number, Many}
use Rattle.trees.specs.declared.Choice.{Choice}
use Rattle.trees.specs.declared.Choice.TheVariants.{Word, Chosen}

-- Whether the k-th tree is one of so many, and how many are passed over where it is not.
unfoldable pub chooses : Weight → ℕ → Bool
chooses (Fault u) k = false
chooses (Number n) k = ltb k n
chooses Many k = true

unfoldable pub passed_over : Weight → ℕ
passed_over (Fault u) = 0
passed_over (Number n) = n
passed_over Many = 0

-- The number of the left factor's tree and of the right's, by what the right weighs. Every number is below too many.
unfoldable pub left_number : Weight → ℕ → ℕ
left_number (Fault u) k = 0
left_number (Number c) k = k / c
left_number Many k = 0

unfoldable pub right_number : Weight → ℕ → ℕ
right_number (Fault u) k = k
right_number (Number c) k = k % c
right_number Many k = k

-- The k-th tree of a Product: its action, its left factor's tree where it has two, and where its last factor's tree is.
unfoldable pub choice_in : (ℕ → Option Weight) → ℕ → ℕ → ℕ → Option ℕ → ℕ → Choice
choice_in under s action a None k = Chosen action None a k
choice_in under s action a (Some b) k = Chosen action (Some (a, left_number (factor_weight under s b) k)) b
    (right_number (factor_weight under s b) k)

-- The trees of a right factor can be counted by: there is one, and none of them is faulty.
abbrev pub Divides : (ℕ → Option Weight) → ℕ → Option ℕ → Type 0
Divides under s right = (b : ℕ) → right ≡ Some b → factor_weight under s b ≢ Number 0

-- Under a handle at a leaf, or at a sound Sum, every tree can be walked.
pub data Walkable (store : List ℕ) (h : ℕ) : Type 0 where
  leaf : {t : ℕ} → node_at store h ≡ token t → Walkable store h
  sums : {ps : List Product} → node_at store h ≡ sum ps → Sound store h → Walkable store h

-- There is a k-th tree under a handle, and rows tell the entries before the handle.
pub record Walks (store : List ℕ) (table : Table) (h k : ℕ) : Type 0 where
  pub inside : h < usable_units
  pub walkable : Walkable store h
  pub number : k < length (trees_at store h)
  pub filled : Filled store h table

-- The same of a sound Sum whose Products, so many, are read from `from` on.
pub record Choosing (store : List ℕ) (table : Table) (s k from count : ℕ) : Type 0 where
  pub inside : s < usable_units
  pub is : node_at store s ≡ sum (products_at count (usable store) from)
  pub sound : Sound store s
  pub number : k < length (trees_at store s)
  pub filled : Filled store s table

pub data FrontWalks (store : List ℕ) (table : Table) : Option (ℕ × ℕ) → Type 0 where
  empty : FrontWalks store table None
  left : {h k : ℕ} → Walks store table h k → FrontWalks store table (Some (h, k))

-- The words of the tree in front.
pub data FrontWords (store : List ℕ) : Option (ℕ × ℕ) → List ℕ → Type 0 where
  empty : FrontWords store None []
  left : {h k : ℕ} {d : Tree} → At (trees_at store h) k d → FrontWords store (Some (h, k)) (preorder d)

-- The handles in front lie before this one.
abbrev pub front_end : Option (ℕ × ℕ) → ℕ
front_end None = 0
front_end (Some front) = suc front.0

-- The k-th tree under a handle has such words, and then those of d.
pub record Reached (store : List ℕ) (h k : ℕ) (words : List ℕ) (d : Tree) : Type 0 where
  pub tree : Tree
  pub chosen : At (trees_at store h) k tree
  pub spells : preorder tree ≡ words ++ preorder d

-- What is chosen of the k-th tree under a handle: a leaf's symbol; or a Product's action, what is in front, and a handle and a number to go on with,
-- each before the handle.
pub data Picks (store : List ℕ) (table : Table) (h k : ℕ) : Choice → Type 0 where
  word : {t : ℕ} → node_at store h ≡ token t → Picks store table h k (Word t)
  chosen : {action from number : ℕ} {front : Option (ℕ × ℕ)} → front_end front ≤ h → from < h → FrontWalks store table front
      → Walks store table from number
      → ((words : List ℕ) (d : Tree) → FrontWords store front words → At (trees_at store from) number d → Reached store h k (action ∷ words) d)
      → Picks store table h k (Chosen action front from number)

-- Words are laid down from `at` on, as far as the place reaches, and counted as far as the limit.
pub record Laid (place : List ℕ) (at limit : ℕ) (words : List ℕ) (next : ℕ) (left : List ℕ) : Type 0 where
  pub next_is : next ≡ min (at + length words) limit
  pub left_is : left ≡ sets place at words

-- There is room for the count: the place ends before the limit.
pub record Limited (place : List ℕ) (at limit : ℕ) : Type 0 where
  pub within : at ≤ limit
  pub reaches : length place ≤ limit

-- The k-th tree under a handle was walked; a Product's action was, and what is in front.
pub record Walked (store : List ℕ) (h k : ℕ) (place : List ℕ) (at limit next : ℕ) (left : List ℕ) : Type 0 where
  pub tree : Tree
  pub chosen : At (trees_at store h) k tree
  pub laid : Laid place at limit (preorder tree) next left

pub record FrontWalked (store : List ℕ) (action : ℕ) (front : Option (ℕ × ℕ)) (place : List ℕ) (at limit next : ℕ) (left : List ℕ) : Type 0 where
  pub words : List ℕ
  pub front_words : FrontWords store front words
  pub laid : Laid place at limit (action ∷ words) next left
