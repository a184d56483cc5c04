-- Numbers past a u16 are tokens like the greatest u16: no grammar has so many, and all are answered alike.
use Rattle.std.proofs.Common.{◌≡◌, sym, ap, subst, ◌∙◌, List, [], ◌∷◌, ℕ, min, ◌≤◌, arith}
use native.Mathlib.Decide.{dec_lt}
use Rattle.grammar.specs.Rules.{Grammar}
use Rattle.parse.specs.declared.State.{State}
use Rattle.parse.specs.Words.{Words, within}
use Rattle.demands.specs.Steps.{Outcome, stepped}
use Rattle.demands.specs.Calls.{Takes, Ready, in_place}
use Rattle.demands.proofs.Positions.{past_position}
use Rattle.demands.proofs.Ways.{is_no_token}

-- The greatest token that a u16 holds.
abbrev pub greatest : ℕ
greatest = 65535

module _ {file : List ℕ} {s : State} {w : Words} (t : ℕ) where
  same_step : {g : Grammar} {table : List (List ℕ)} → Ready file s w g table
      → stepped g table s (within w) (min t greatest ∷ []) ≡ stepped g table s (within w) (t ∷ [])
  same_step {g} {table} r = elim (dec_lt greatest t) [
    | yes past ↦
        let accepted = r.sound.checked.accepted in
        let few : g.tokens ≤ greatest = omega (arith, accepted.room, accepted.few_symbols) in
        is_no_token g table s (within w) (min t greatest ∷ []) (past_position g.tokens (min t greatest) (omega (arith, few, past)))
        ∙ sym (is_no_token g table s (within w) (t ∷ []) (past_position g.tokens t (omega (arith, few, past))))
    | no small ↦ ap (λ (u : ℕ). stepped g table s (within w) (u ∷ [])) (omega (arith, small))
  ]

  pub takes_wide : {o : Outcome} → Takes file s w (min t greatest ∷ []) o → Takes file s w (t ∷ []) o
  takes_wide (Takes.refused fault) = Takes.refused fault
  takes_wide (Takes.done {g = g} {table = table} ready) =
      subst (λ (o : Outcome). Takes file s w (t ∷ []) (in_place w o)) (sym (same_step ready)) (Takes.done ready)
