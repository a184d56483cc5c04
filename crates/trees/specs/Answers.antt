-- What count and tree answer: the number of a refusal or 0, and what comes with it.
use Rattle.std.specs.Prelude.{Result, Ok, Err, List, ◌++◌, ℕ, ◌≤◌, ◌<◌, length, drop, leb}
use Rattle.laws.specs.Fills.{too_short}
use Rattle.node.specs.Choice.{pick}
use Rattle.node.specs.Writing.{usable_units}
use Rattle.node.specs.Answers.{done, no_node}
use Rattle.forest.specs.Trees.{Tree, preorder}
use Rattle.forest.specs.Lists.{At}
use Rattle.forest.specs.Stores.{trees_at}
use Rattle.trees.specs.Faults.{LowestFault, Sound}
use Rattle.trees.specs.declared.Uncounted.{Uncounted}
use Rattle.trees.specs.declared.Uncounted.TheVariants.{Faulty, TooMany}
use Rattle.trees.specs.declared.Untold.{Untold}
use Rattle.trees.specs.declared.Untold.TheVariants.{Faulty as FaultyBelow, NoSuch, TooShort}

-- The number of trees exceeds 64 bits; there is no tree with the number asked for.
abbrev pub too_many_trees : ℕ
too_many_trees = 23

abbrev pub no_such_tree : ℕ
no_such_tree = 24

-- Numbers of trees from here on exceed 64 bits.
abbrev pub tree_limit : ℕ
tree_limit = 0x1_0000_0000_0000_0000

-- What comes with a number: nothing, the position of a Sum or handle, a number of trees, or a number of words.
pub data Values : Type 0 where
  nothing : Values
  position : ℕ → Values
  trees : ℕ → Values
  words : ℕ → Values

pub data Answer : Type 0 where
  answer : ℕ → Values → Answer

abbrev pub counted : Result ℕ Uncounted → Answer
counted (Ok n) = answer done (trees n)
counted (Err (Faulty s)) = answer no_node (position s)
counted (Err TooMany) = answer too_many_trees nothing

-- Count: 12 at the lowest fault below the handle, then 23, then the number of trees under it.
pub data Counts (store : List ℕ) (h : ℕ) : Answer → Type 0 where
  fault : {s : ℕ} → LowestFault store h s → Counts store h (answer no_node (position s))
  over : Sound store h → tree_limit ≤ length (trees_at store h) → Counts store h (answer too_many_trees nothing)
  number : Sound store h → length (trees_at store h) < tree_limit → Counts store h (answer done (trees (length (trees_at store h))))

abbrev pub told : Result ℕ Untold → Answer
told (Ok n) = answer done (words n)
told (Err (FaultyBelow s)) = answer no_node (position s)
told (Err NoSuch) = answer no_such_tree nothing
told (Err (TooShort n)) = answer too_short (words n)

-- A needed number of words above the usable units is told as all ones: no tree of a parse has so many.
abbrev pub all_ones : ℕ
all_ones = 0xFFFF_FFFF_FFFF_FFFF

abbrev pub needed : ℕ → ℕ
needed n = pick (leb n usable_units) n all_ones

-- Tree: 12 at the lowest fault below the handle, then 24 where k is at or past the number of trees, then 13 with the number of words needed, and
-- otherwise the words of the k-th tree in preorder, in front of the place, the rest as it was. Nothing is written by a refusal.
pub data Tells (store : List ℕ) (h k : ℕ) (place : List ℕ) : Answer → List ℕ → Type 0 where
  fault : {s : ℕ} → LowestFault store h s → Tells store h k place (answer no_node (position s)) place
  none : Sound store h → length (trees_at store h) ≤ k → Tells store h k place (answer no_such_tree nothing) place
  short : {d : Tree} → Sound store h → At (trees_at store h) k d → length place < length (preorder d)
      → Tells store h k place (answer too_short (words (needed (length (preorder d))))) place
  written : {d : Tree} → Sound store h → At (trees_at store h) k d → length (preorder d) ≤ length place
      → Tells store h k place (answer done (words (length (preorder d)))) (preorder d ++ drop (length (preorder d)) place)
