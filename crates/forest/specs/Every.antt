-- Every tree, each once.
use mathlib.Core.List.{List, map, Memᴰ as Member}
use Rattle.std.specs.Prelude.{◌↔◌, ℕ, length}
use Rattle.grammar.specs.Rules.{Grammar, start}
use Rattle.earley.specs.Positions.{Positions, Spelt}
use Rattle.forest.specs.Trees.{Tree, Derivation, preorder}
use Rattle.forest.specs.Lists.{Once}

-- A word that the positions from `i` up to `j` spell, some kind chosen at each, and of which the tree is a derivation from `x`.
pub record Derived (g : Grammar) (a : Positions) (d : Tree) (x i j : ℕ) : Type 0 where
  pub word : List ℕ
  pub spelt : Spelt a i word j
  pub derivation : Derivation g d x word

-- A list has exactly the derivations from S of the words that the positions spell, each once, and no two of its trees have the same words in preorder.
pub record EveryTree (g : Grammar) (a : Positions) (l : List Tree) : Type 0 where
  pub all : (d : Tree) → Member d l ↔ Derived g a d (start g) 0 (length a)
  pub once : Once l
  pub words : Once (map preorder l)
