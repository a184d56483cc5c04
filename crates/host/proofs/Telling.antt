-- An answer in the host's words is that answer.
use Rattle.std.proofs.Common.{◌≡◌, ℕ, Bool, true, false, List, [], ◌∷◌, subst, min}
use Rattle.laws.specs.Counts.{once}
use Rattle.parse.specs.declared.State.{State}
use Rattle.parse.specs.Words.{Words}
use Rattle.demands.specs.Steps.{Outcome}
use Rattle.demands.specs.Calls.{Takes, Finishes}
use Rattle.demands.specs.Sentences.{FinishedTells}
use Rattle.demands.proofs.Telling.{finished-tells}
use Rattle.host.specs.Reports.{FinishesIn, says_in}
use Rattle.host.proofs.Wide.{greatest, takes_wide}

module _ {file : List ℕ} {s : State} {w : Words} where
  -- A number past a u16 is answered as the greatest u16 is.
  pub token_told : (t : ℕ) {u : ℕ} {o : Outcome} → u ≡ min t greatest → Takes file s w (u ∷ []) o → Takes file s w (t ∷ []) o
  token_told t {o = o} narrow takes = takes_wide t (subst (λ (x : ℕ). Takes file s w (x ∷ []) o) narrow takes)

  -- What finished says, in a word, ..
  pub in_a_word : {n handle : ℕ} (b : Bool) → Finishes file s w n b handle → FinishesIn file s w n (once b) handle
  in_a_word true f = FinishesIn.yes f
  in_a_word false f = FinishesIn.no f

  -- .. tells of sentences, as the call beneath does.
  pub finishes_in_tells : {n word handle : ℕ} → FinishesIn file s w n word handle → FinishedTells file s w n (says_in word)
  finishes_in_tells (FinishesIn.yes f) = finished-tells f
  finishes_in_tells (FinishesIn.no f) = finished-tells f
