-- A position of one kind steps as a token does.
use mathlib.Core.Path.{◌≡◌, refl, ap}
use mathlib.Core.Bool.{true, false}
use mathlib.Core.List.{List, [], ◌∷◌}
use Prim.Native.Nat.{ℕ}
use lib.Dec.{eqb, ltb}
use Rattle.laws.proofs.Tests.{either_way}
use Rattle.grammar.specs.Rules.{Grammar}
use Rattle.parse.specs.declared.State.{State}
use Rattle.parse.specs.Words.{Words}
use Rattle.completion.specs.Pass.{Pass}
use Rattle.completion.specs.Complete.{predicted}
use Rattle.completion.specs.Scan.{scan, scan_all}
use Rattle.completion.specs.Sums.{complete_all_sums}
use Rattle.advance.specs.NewItems.{new_items}
use Rattle.demands.specs.Positions.{is_position, any_predicted}
use Rattle.demands.specs.Steps.{Outcome, completed, advanced, stepped}
use Rattle.demands.specs.Tokens.{token_completed, token_stepped}

-- The pass of a kind that is predicted is the token's.
pub completed_one : (g : Grammar) (s : State) (v : Words) (t : ℕ) → predicted v.rows s.set t ≡ true
    → completed g s v (t ∷ []) ≡ token_completed g s v t
unfolding scan_all scan
completed_one g s v t there = ap (complete_all_sums g.rules v.starts v.rows) (rw (scan, there) refl)

module _ (g : Grammar) (table : List (List ℕ)) (s : State) (v : Words) where
  -- What a step makes of its pass.
  abbrev made : Pass → Outcome
  made pass =
      elim (eqb pass.at.stopped 0) [
        | false ↦ record { number = pass.at.stopped; state = s; words = v }
        | true ↦ advanced g table s v (new_items g.rules pass.items s.items pass.at.items) pass.at.used pass.units
      ]

  -- FOR ONE KIND THE STEP IS THE TOKEN'S.
  pub stepped_one : (t : ℕ) → stepped g table s v (t ∷ []) ≡ token_stepped g table s v t
  unfolding stepped token_stepped is_position any_predicted
  stepped_one t =
      either_way (ltb t g.tokens)
      (λ small.
      either_way (predicted v.rows s.set t) (λ there. rw (stepped, token_stepped, small, there) (ap made (completed_one g s v t there)))
      (λ other. rw (stepped, token_stepped, small, other) refl))
      (λ big. rw (stepped, token_stepped, big) refl)
