-- Two results that meet a report's statement agree, in the host's words too. For the other calls the laws beneath say so.
use Rattle.std.proofs.Common.{◌≡◌, refl, sym, List, ℕ}
use mathlib.Core.Bool.{false≢true}
use Rattle.parse.specs.declared.State.{State}
use Rattle.parse.specs.Words.{Words}
use Rattle.demands.proofs.Agree.{call_number, not_formed, finishes_agree}
use Rattle.host.specs.Reports.{FinishesIn, ReportsIn}

module _ {file : List ℕ} {s : State} {w : Words} where
  pub finishes_in_agree : {n n' yes yes' handle handle' : ℕ} → FinishesIn file s w n yes handle → FinishesIn file s w n' yes' handle'
      → (n ≡ n') × ((yes ≡ yes') × (handle ≡ handle'))
  finishes_in_agree (FinishesIn.yes f) (FinishesIn.yes f') = ((finishes_agree f f').0, (refl, (finishes_agree f f').2))
  finishes_in_agree (FinishesIn.yes f) (FinishesIn.no f') = absurd (false≢true (sym (finishes_agree f f').1))
  finishes_in_agree (FinishesIn.no f) (FinishesIn.yes f') = absurd (false≢true (finishes_agree f f').1)
  finishes_in_agree (FinishesIn.no f) (FinishesIn.no f') = ((finishes_agree f f').0, (refl, (finishes_agree f f').2))

  pub reports_in_agree : {n n' first first' count count' : ℕ} → ReportsIn file s w n first count → ReportsIn file s w n' first' count'
      → (n ≡ n') × ((first ≡ first') × (count ≡ count'))
  reports_in_agree (ReportsIn.refused f) (ReportsIn.refused f') = (call_number f f', (refl, refl))
  reports_in_agree (ReportsIn.refused f) (ReportsIn.done formed) = absurd (not_formed formed f)
  reports_in_agree (ReportsIn.done formed) (ReportsIn.refused f) = absurd (not_formed formed f)
  reports_in_agree (ReportsIn.done formed) (ReportsIn.done formed') = (refl, (refl, refl))
