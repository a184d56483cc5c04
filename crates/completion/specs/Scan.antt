-- Step 2 of a position: each of its kinds that is predicted gets its node and is completed with the latest set, in the order of the kinds. A kind that is
-- not predicted is passed over.
use Rattle.std.specs.Prelude.{true, false, List, [], ◌∷◌, ℕ}
use Rattle.node.specs.declared.Node.TheVariants.{Evaluated}
use Rattle.grammar.specs.Rules.{Rule}
use Rattle.completion.specs.Pass.{Pass, append}
use Rattle.completion.specs.Complete.{predicted, complete}

unfoldable pub scan : List Rule → List ℕ → List ℕ → ℕ → ℕ → Pass → Pass
scan rs starts rows e t s =
    elim (predicted rows e t) [
      | true ↦ complete rs starts rows e t s.at.used (append (Evaluated t) s)
      | false ↦ s
    ]

unfoldable pub scan_all : List Rule → List ℕ → List ℕ → ℕ → List ℕ → Pass → Pass
scan_all rs starts rows e [] s = s
scan_all rs starts rows e (t ∷ kinds) s = scan_all rs starts rows e kinds (scan rs starts rows e t s)
