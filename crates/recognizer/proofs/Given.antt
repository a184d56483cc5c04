-- What a call on a parse may do, and gives, that has found its state well formed and made its table.
use mathlib.Core.Path.{◌≡◌, sym, subst}
use mathlib.Core.List.{List}
use Prim.Native.Nat.{ℕ, ◌<◌}
use native.Mathlib.Omega.{arith}
use Rattle.bits.specs.Width.{row_words}
use Rattle.grammar.specs.Rules.{Grammar}
use Rattle.grammar.specs.Prediction.{Predicts}
use Rattle.parse.specs.declared.State.{State}
use Rattle.parse.specs.Words.{Words, set_room, within}
use Rattle.earley.specs.Positions.{Positions}
use Rattle.demands.specs.Steps.{Outcome, Ended, stepped, ran}
use Rattle.demands.specs.Calls.{Formed, Ready, in_place, in_place_ended, Takes, Runs}
use Rattle.recognizer.specs.inner.Steppable.{Steppable}
use Rattle.recognizer.proofs.Carving.{some-set}
use Rattle.demands.proofs.Cut.{Cut, within-cut}
use Rattle.demands.proofs.Tables.{table_shape}

module _ {file : List ℕ} {s : State} {w : Words} {g : Grammar} {table : List (List ℕ)} (formed : Formed file s w g) (predicts : Predicts g row_words table) where
  -- A step can be taken in the words within the capacities.
  pub can_step : Steppable g table s (within w)
  can_step =
      let some : 0 < set_room w = omega (arith, some-set w formed.well_formed) in
      let cut : Cut (within w) = within-cut w some in
      record {
        accepted = formed.checked.accepted;
        shape = table_shape formed.checked.accepted predicts;
        well_formed = formed.well_formed;
        rowed = cut.rowed;
        few_items = cut.few_items;
        few_entries = cut.few_entries;
        whole_entries = cut.whole_entries;
        few_units = cut.few_units;
      }

  ready : Ready file s w g table
  ready = record { sound = record { checked = formed.checked; predicts = predicts }; well_formed = formed.well_formed }

  -- What a step comes to is what the contract of one position tells, ..
  pub takes : (kinds : List ℕ) {o : Outcome} → o ≡ in_place w (stepped g table s (within w) kinds) → Takes file s w kinds o
  takes kinds came = subst (Takes file s w kinds) (sym came) (Takes.done ready)

  -- .. and what a step a position comes to what a run's tells.
  pub runs : (a : Positions) {e : Ended} → e ≡ in_place_ended w (ran g table s (within w) a) → Runs file s w a e
  runs a came = subst (Runs file s w a) (sym came) (Runs.done ready)
