-- Exact lists stay exact when positions come; and one of S over all positions has every tree once.
use Rattle.std.proofs.Common.{refl, sym, ◌∙◌, List, [], ◌∷◌, ◌++◌, append-nil, ℕ, ◌≤◌, length}
use mathlib.Core.List.{map}
use mathlib.Core.List.Memᴰ.{head as here}
use mathlib.Core.List.Memᴰ.{of_map as member-map}
use mathlib.Core.List.Memᴰ.{tail as there}
use mathlib.Core.List.{Memᴰ as Member}
use Rattle.grammar.specs.Rules.{Grammar, start}
use Rattle.grammar.specs.Accepted.{Accepted}
use Rattle.earley.specs.Positions.{Positions}
use Rattle.forest.specs.Trees.{Tree, preorder}
use Rattle.forest.specs.Lists.{none, more, Once}
use Rattle.forest.specs.Every.{Derived, EveryTree}
use Rattle.forest.proofs.Trees.{grows_more, grows_less, grows_derived, derived_grows}
use Rattle.forest.proofs.Told.{told}
use Rattle.forest.proofs.Forests.{Exact}

-- What lies behind a stretch does not matter.
pub exact-stays : {g : Grammar} {a : Positions} {x i j : ℕ} {l : List Tree} (b : Positions) → j ≤ length a → Exact g a x i j l
    → Exact g (a ++ b) x i j l
exact-stays {a} b inside e = record {
  sound = λ d m. grows_more b (e.sound d m);
  complete = λ d gr. e.complete d (grows_less a b gr inside);
  once = e.once;
}

-- Where all are derivations from one symbol, no two have the same words.
once-words : {g : Grammar} {a : Positions} {x i j : ℕ} (l : List Tree) → Accepted g → ((d : Tree) → Member d l → Derived g a d x i j) → Once l
    → Once (map preorder l)
once-words [] acc all o = none
once-words (d ∷ l) acc all (more first rest) =
    more
    (λ w m same.
    let o = member-map preorder l m in
    let t = told [] [] acc (all d (here refl)).derivation (all o.0 (there o.1)).derivation refl (append-nil (preorder d) ∙ same ∙ sym o.2 ∙ sym (append-nil (preorder o.0))) in
    first o.0 o.1 t.tree)
    (once-words l acc (λ e m. all e (there m)) rest)

-- EVERY TREE, EACH ONCE: an exact list of S over all positions has exactly the derivations from S of the words that they spell.
pub every_tree : {g : Grammar} {a : Positions} {l : List Tree} → Accepted g → Exact g a (start g) 0 (length a) l → EveryTree g a l
every_tree {l = l} acc e = record {
  all = λ d. (λ m. grows_derived (e.sound d m), λ p. e.complete d (derived_grows p.derivation p.spelt));
  once = e.once;
  words = once-words l acc (λ d m. grows_derived (e.sound d m)) e.once;
}
