-- `recognizer::within::run_within` meets its contract.
use mathlib.Core.Path.{◌≡◌}
use mathlib.Core.List.{List}
use Prim.Native.Nat.{ℕ, ◌+◌}
use lib.ListN.{length}
use Rattle.grammar.specs.Rules.{Grammar}
use Rattle.grammar.specs.inner.Decoded.{decoded}
use Rattle.parse.specs.declared.State.{State}
use Rattle.parse.specs.Words.{Words, Kept, words_in}
use Rattle.earley.specs.Positions.{Positions}
use Rattle.recognizer.proofs.Turning.{Going}
use Rattle.recognizer.proofs.within.run_within.Given as goal

-- A run over `a` with `rest` left, of which as many were taken as are no more left.
pub record Reading (g : Grammar) (table : List (List ℕ)) (s₀ : State) (w₀ : Words) (a : Positions) (s : State) (w : Words) (taken : ℕ) (rest : Positions) : Type 0 where
  pub counted : taken + length rest ≡ length a
  pub going : Going g table s₀ w₀ a s w taken rest

abbrev pub invariant-loop-kinds : goal.invariant-loop-kinds
invariant-loop-kinds g l =
    Kept l.fn.words l.words
    × Reading (decoded l.grammar) l.table l.fn.state (words_in l.fn.words) (g.P.Positions.left l.fn.positions) l.now (words_in l.words) l.taken
    (g.P.Positions.left l.positions)

abbrev pub decreases-loop-kinds : goal.decreases-loop-kinds
decreases-loop-kinds g l = length (g.P.Positions.left l.positions)
