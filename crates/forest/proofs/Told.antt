-- The words of a tree in preorder tell the tree: no tree's words are a beginning of another's from the same symbol.
use Rattle.std.proofs.Common.{◌≡◌, sym, ◌∙◌, ap, List, ◌++◌, append_assoc, ℕ, arith}
use mathlib.Core.List.{head-eq_of_cons-eq, tail-eq_of_cons-eq}
use Rattle.grammar.specs.Rules.{Grammar}
use Rattle.grammar.specs.Accepted.{Accepted}
use Rattle.forest.specs.Trees.{Tree, leaf, one, two, Derivation, preorder}
use Rattle.forest.proofs.Rules.{no_token_lem, same_first, same_second}

-- Two trees of one symbol, each with words behind it: the same words, so the same tree and the same words behind it.
pub record Told (d e : Tree) (s u : List ℕ) : Type 0 where
  pub tree : d ≡ e
  pub behind : s ≡ u

-- THE WORDS TELL THE TREE.
pub told : {g : Grammar} {d e : Tree} {x y : ℕ} {w v : List ℕ} (s u : List ℕ) → Accepted g → Derivation g d x w → Derivation g e y v → x ≡ y
    → preorder d ++ s ≡ preorder e ++ u → Told d e s u
told s u acc (Derivation.token b) (Derivation.token b') is same =
    record { tree = ap leaf (head-eq_of_cons-eq same); behind = tail-eq_of_cons-eq same }
told s u acc (Derivation.token b) (Derivation.unary r d) is same = let k = no_token_lem acc r in absurd (omega arith)
told s u acc (Derivation.token b) (Derivation.binary r t d f) is same = let k = no_token_lem acc r in absurd (omega arith)
told s u acc (Derivation.unary r d) (Derivation.token b) is same = let k = no_token_lem acc r in absurd (omega arith)
told s u acc (Derivation.binary r t d f) (Derivation.token b) is same = let k = no_token_lem acc r in absurd (omega arith)
told s u acc (Derivation.unary r d) (Derivation.unary q e) is same =
    let rule = head-eq_of_cons-eq same in
    let t = told s u acc d e (same_first rule r q) (tail-eq_of_cons-eq same) in
    record { tree = λ i. one (rule i) (t.tree i); behind = t.behind }
told s u acc (Derivation.unary r d) (Derivation.binary q t e f) is same = absurd (t (sym (same_second (head-eq_of_cons-eq same) r q)))
told s u acc (Derivation.binary q t e f) (Derivation.unary r d) is same = absurd (t (same_second (head-eq_of_cons-eq same) q r))
told s u acc (Derivation.binary {d = d} {e = e} r n gd ge) (Derivation.binary {d = d'} {e = e'} q m gd' ge') is same =
    let rule = head-eq_of_cons-eq same in
    let rest : preorder d ++ (preorder e ++ s) ≡ preorder d' ++ (preorder e' ++ u) =
    sym (append_assoc (preorder d) (preorder e) s) ∙ tail-eq_of_cons-eq same ∙ append_assoc (preorder d') (preorder e') u in
    let first = told (preorder e ++ s) (preorder e' ++ u) acc gd gd' (same_first rule r q) rest in
    let second = told s u acc ge ge' (same_second rule r q) first.behind in
    record { tree = λ i. two (rule i) (first.tree i) (second.tree i); behind = second.behind }
