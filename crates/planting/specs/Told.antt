-- WHAT COUNT AND TREE TELL OF A PARSE, under a handle that finished has told; and that it stays so until the next start.
use Rattle.std.specs.Prelude.{◌≡◌, Bool, true, List, ◌++◌, ℕ, suc, ◌≤◌, ◌<◌, length, drop}
use Rattle.laws.specs.Fills.{too_short}
use Rattle.grammar.specs.Rules.{Grammar}
use Rattle.grammar.specs.File.{grammar_of}
use Rattle.node.specs.Answers.{done}
use Rattle.parse.specs.declared.State.{State}
use Rattle.parse.specs.Words.{Words}
use Rattle.earley.specs.Positions.{Positions}
use Rattle.demands.specs.Steps.{Outcome, Ended}
use Rattle.demands.specs.Calls.{Starts, Takes, Runs}
use Rattle.demands.specs.Histories.{History}
use Rattle.forest.specs.Trees.{Tree, preorder}
use Rattle.forest.specs.Lists.{At}
use Rattle.forest.specs.Order.{InSummandOrder}
use Rattle.forest.specs.Stores.{node_at, trees_at}
use Rattle.trees.specs.Answers.{Answer, answer, nothing, trees, words, too_many_trees, no_such_tree, tree_limit, needed, Counts, Tells}
use Rattle.planting.specs.Finished.{TreesOf}

-- Count's answer to a list of trees: how many they are, or 23.
pub data CountsAll (l : List Tree) : Answer → Type 0 where
  over : tree_limit ≤ length l → CountsAll l (answer too_many_trees nothing)
  number : length l < tree_limit → CountsAll l (answer done (trees (length l)))

-- Tree's answer, and the place that it leaves: 24 past the last, 13, or the words of the k-th.
pub data TellsOne (l : List Tree) (k : ℕ) (place : List ℕ) : Answer → List ℕ → Type 0 where
  none : length l ≤ k → TellsOne l k place (answer no_such_tree nothing) place
  short : {d : Tree} → At l k d → length place < length (preorder d) → TellsOne l k place (answer too_short (words (needed (length (preorder d))))) place
  written : {d : Tree} → At l k d → length (preorder d) ≤ length place
      → TellsOne l k place (answer done (words (length (preorder d)))) (preorder d ++ drop (length (preorder d)) place)

-- The trees under a handle are exactly the derivations from S of the positions, some kind chosen at each, each once, in the order of the summands. Count
-- tells how many derivations there are, in whatever order they are listed, and tree the k-th of this list. Neither answers 12.
pub record Told (g : Grammar) (a : Positions) (store : List ℕ) (handle : ℕ) : Type 0 where
  pub derivations : TreesOf g a (trees_at store handle)
  pub in_order : InSummandOrder (node_at store) (suc handle) handle
  pub counts : {l : List Tree} {told : Answer} → TreesOf g a l → Counts store handle told → CountsAll l told
  pub tells : {k : ℕ} {place out : List ℕ} {told : Answer} → Tells store handle k place told out → TellsOne (trees_at store handle) k place told out

-- What comes after in a parse: positions and runs, accepted or not, and starts that are refused.
pub data Later (file : List ℕ) (s : State) (w : Words) : State → Words → Type 0 where
  itself : Later file s w s w
  position : {s' : State} {w' : Words} {kinds : List ℕ} {o : Outcome} → Later file s w s' w' → Takes file s' w' kinds o → Later file s w o.state o.words
  run : {s' : State} {w' : Words} {b : Positions} {e : Ended} → Later file s w s' w' → Runs file s' w' b e
      → Later file s w e.outcome.state e.outcome.words
  not_started : {s' : State} {w' : Words} {o : Outcome} → Later file s w s' w' → Starts file s' w' o → (o.number ≡ 0 → ⊥)
      → Later file s w o.state o.words

-- Where finished says yes, its handle tells the trees of the positions accepted since the start, in the words that it read and in all that come later.
pub record FinishedTold (file : List ℕ) (s : State) (w : Words) (yes : Bool) (handle : ℕ) : Type 0 where
  pub now : (a : Positions) → History file s w a → yes ≡ true → Told (grammar_of file) a w.store handle
  pub later : (a : Positions) → History file s w a → yes ≡ true → {s' : State} {w' : Words} → Later file s w s' w'
      → Told (grammar_of file) a w'.store handle
  pub same : (a : Positions) → History file s w a → yes ≡ true → {s' : State} {w' : Words} → Later file s w s' w'
      → trees_at w'.store handle ≡ trees_at w.store handle
