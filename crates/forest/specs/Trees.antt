-- Derivation trees.
use Rattle.std.specs.Prelude.{List, [], ◌∷◌, ◌++◌, ◌≢◌, ℕ, ◌<◌}
use Rattle.grammar.specs.Rules.{Grammar, Says, none}

-- A leaf is a token; any other tree has a rule at its root, and below it a tree for each symbol on the rule's right.
pub data Tree : Type 0 where
  leaf : ℕ → Tree
  one : ℕ → Tree → Tree
  two : ℕ → Tree → Tree → Tree

-- `Derivation g d x w`: the tree `d` is a derivation of the word `w` from the symbol `x`.
pub data Derivation (g : Grammar) : Tree → ℕ → List ℕ → Type 0 where
  token : {t : ℕ} → t < g.tokens → Derivation g (leaf t) t (t ∷ [])
  unary : {r x y : ℕ} {d : Tree} {w : List ℕ} → Says g r x y none → Derivation g d y w → Derivation g (one r d) x w
  binary : {r x y z : ℕ} {d e : Tree} {u v : List ℕ} → Says g r x y z → z ≢ none → Derivation g d y u → Derivation g e z v
      → Derivation g (two r d e) x (u ++ v)

-- A tree in preorder: rule numbers, and the tokens of leaves.
abbrev pub preorder : Tree → List ℕ
preorder (leaf t) = t ∷ []
preorder (one r d) = r ∷ preorder d
preorder (two r d e) = r ∷ (preorder d ++ preorder e)
