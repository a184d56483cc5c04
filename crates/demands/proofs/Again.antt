-- A call leaves a state in which the next may follow: no call of a history is refused with 1, 2 or 4.
use mathlib.Core.Path.{◌≡◌, refl, sym, ap, subst}
use mathlib.Core.List.{List, [], ◌∷◌, ◌++◌}
use Prim.Native.Nat.{ℕ, ◌/◌, ◌≤◌, ◌<◌}
use native.Mathlib.Omega.{arith}
use lib.ListN.{length}
use Rattle.bits.specs.Width.{row_words}
use Rattle.grammar.specs.Rules.{Grammar}
use Rattle.parse.specs.declared.State.{State}
use Rattle.parse.specs.Words.{Words, set_room, within, beyond, behind}
use Rattle.parse.specs.WellFormed.{WellFormed}
use Rattle.parse.proofs.Capacities.{SameSizes, sets-room, within_new}
use Rattle.earley.specs.Positions.{Positions}
use Rattle.demands.specs.Steps.{Outcome, started, stepped}
use Rattle.demands.specs.Calls.{Sound, Ready, as_it_was, in_place, Starts, Takes}
use Rattle.demands.specs.Histories.{History}
use Rattle.demands.proofs.Cut.{Cut, within-cut}
use Rattle.demands.proofs.Starting.{started_sizes, started-well}
use Rattle.demands.proofs.Refusing.{step_sizes, step_well}

-- A history behind which a call may follow.
pub record Reading (file : List ℕ) (g : Grammar) (table : List (List ℕ)) (s : State) (w : Words) (a : Positions) : Type 0 where
  pub ready : Ready file s w g table
  pub history : History file s w a

module _ {file : List ℕ} {g : Grammar} {table : List (List ℕ)} where
  -- Well-formed words in the place of those within the capacities.
  ready_in : {s : State} {v : Words} (w : Words) → Sound file g table → 1 ≤ set_room w → SameSizes v (within w) → WellFormed g.symbols g.rules s v
      → Ready file s (behind v (beyond w)) g table
  ready_in {s} {v} w sound some same well =
      record { sound = sound; well_formed = subst (WellFormed g.symbols g.rules s) (sym (within_new w v some same)) well }

  -- After a start,
  pub started_ready : (w : Words) → Sound file g table → 0 < set_room w
      → Ready file (started g table (within w)).state (in_place w (started g table (within w))).words g table
  started_ready w sound some =
      let sets : 0 < length (within w).rows / row_words = omega (arith, sets-room w) in
      ready_in w sound (omega arith) (started_sizes sound.checked.accepted sound.predicts (within w) sets)
      (started-well sound.checked.accepted sound.predicts (within w) sets)

  -- and after a position.
  pub stepped_ready : (s : State) (w : Words) (kinds : List ℕ) → Ready file s w g table
      → Ready file (stepped g table s (within w) kinds).state (in_place w (stepped g table s (within w) kinds)).words g table
  stepped_ready s w kinds ready =
      let some : 0 < set_room w = omega (arith, ready.well_formed.set_fits, sets-room w) in
      let cut : Cut (within w) = within-cut w some in
      ready_in w ready.sound (omega arith)
      (step_sizes ready.sound.checked.accepted ready.well_formed cut kinds ready.sound.predicts)
      (step_well ready.sound.checked.accepted ready.well_formed cut kinds ready.sound.predicts)

  -- One that starts, over any state and words,
  pub reading_start : {s' : State} {w' : Words} (s : State) (w : Words) → Sound file g table → 0 < set_room w → in_place w (started g table (within w)) ≡ as_it_was 0 s' w'
      → Reading file g table s' w' []
  reading_start s w sound some e = record {
    ready = subst (λ (o : Outcome). Ready file o.state o.words g table) e (started_ready w sound some);
    history = subst (λ (o : Outcome). History file o.state o.words []) e (History.fresh {s = s} {w = w} (Starts.done sound some) refl);
  }

  -- and one that goes on.
  pub reading_on : {s s' : State} {w w' : Words} {a : Positions} → Reading file g table s w a → (kinds : List ℕ) → in_place w (stepped g table s (within w) kinds) ≡ as_it_was 0 s' w'
      → Reading file g table s' w' (a ++ (kinds ∷ []))
  reading_on {s} {w = w} {a = a} h kinds e = record {
    ready = subst (λ (o : Outcome). Ready file o.state o.words g table) e (stepped_ready s w kinds h.ready);
    history =
        subst (λ (o : Outcome). History file o.state o.words (a ++ (kinds ∷ []))) e
        (History.accepted h.history (Takes.done h.ready) (ap (λ (o : Outcome). o.number) e));
  }
