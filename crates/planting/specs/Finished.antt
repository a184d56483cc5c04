-- EVERY TREE, EACH ONCE: what stands under the handle that finished tells.
use Rattle.std.specs.Prelude.{◌≡◌, Bool, true, ◌↔◌, ℕ}
use mathlib.Core.List.{List, map, Memᴰ as Member}
use Rattle.grammar.specs.Rules.{Grammar, start}
use Rattle.grammar.specs.File.{grammar_of}
use Rattle.parse.specs.declared.State.{State}
use Rattle.parse.specs.Words.{Words}
use Rattle.earley.specs.Positions.{Positions}
use Rattle.demands.specs.Histories.{History}
use Rattle.forest.specs.Lists.{Once}
use Rattle.forest.specs.Trees.{Tree, Derivation, preorder}
use Rattle.forest.specs.Every.{EveryTree}
use Rattle.forest.specs.Stores.{trees_at}

-- A list has exactly the derivations from S of the words that have one kind of each position, each once, and no two of its trees have the same
-- words in preorder.
abbrev pub TreesOf : Grammar → Positions → List Tree → Type 0
TreesOf g a trees = EveryTree g a trees

-- Where finished says yes, the trees under its handle are those of the positions accepted since the start.
pub record FinishedTrees (file : List ℕ) (s : State) (w : Words) (yes : Bool) (handle : ℕ) : Type 0 where
  pub trees : (a : Positions) → History file s w a → yes ≡ true → TreesOf (grammar_of file) a (trees_at w.store handle)

-- Of positions of one kind each: a list has exactly the derivations of the tokens from S, in the same way.
pub record TokenTrees (g : Grammar) (ts : List ℕ) (trees : List Tree) : Type 0 where
  pub all : (d : Tree) → Member d trees ↔ Derivation g d (start g) ts
  pub once : Once trees
  pub words : Once (map preorder trees)
