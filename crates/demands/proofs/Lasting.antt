-- What lasts along a history: the file is sound, the state well formed, and the chart holds for the accepted positions.
use mathlib.Core.Path.{◌≡◌, refl, sym, subst, subst₂}
use mathlib.Core.Logic.{◌⊎◌, ⊎_elim}
use mathlib.Core.List.{List, [], ◌∷◌, ◌++◌}
use Prim.Native.Nat.{ℕ, ◌/◌, ◌≤◌, ◌<◌}
use native.Mathlib.Omega.{arith}
use lib.ListN.{length, take}
use Rattle.bits.specs.Width.{row_words}
use Rattle.grammar.specs.Rules.{Grammar}
use Rattle.parse.specs.declared.State.{State}
use Rattle.parse.specs.Words.{Words, set_room, within, beyond, behind}
use Rattle.parse.proofs.Capacities.{SameSizes, sets-room, within_new}
use Rattle.earley.specs.Positions.{Positions}
use Rattle.demands.specs.Steps.{Outcome, Ended, stepped, ran}
use Rattle.demands.specs.Calls.{Checked, Sound, FileFault, StartFault, CallFault, Starts, Takes, Runs}
use Rattle.demands.specs.Histories.{History}
use Rattle.demands.proofs.Agree.{checked_grammar, no_file_fault}
use Rattle.demands.proofs.Cut.{within-cut, sizes_refl}
use Rattle.demands.proofs.Starting.{started_sizes}
use Rattle.demands.proofs.Holding.{Holding, Accepts, Refuses, refused-some, start-holds, step_judged}
use Rattle.demands.proofs.Running.{RunHolds, run_holds}

pub record Lasts (file : List ℕ) (s : State) (w : Words) (a : Positions) : Type 0 where
  pub grammar : Grammar
  pub table : List (List ℕ)
  pub sound : Sound file grammar table
  pub holding : Holding grammar a s (within w)

-- It may be said of any grammar that the file gives.
pub lasts_holding : {file : List ℕ} {s : State} {w : Words} {a : Positions} {g : Grammar} → Lasts file s w a → Checked file g → Holding g a s (within w)
lasts_holding {s = s} {w = w} {a = a} l checked =
    subst (λ (k : Grammar). Holding k a s (within w)) (checked_grammar l.sound.checked checked) l.holding

-- There is room for a set.
holding_room : {g : Grammar} {a : Positions} {s : State} (w : Words) → Holding g a s (within w) → 1 ≤ set_room w
holding_room w h = omega (arith, h.well.set_fits, sets-room w)

-- Words of the same sizes, put in the place of those within the capacities, are those within them.
in_place_lem : {file : List ℕ} {g : Grammar} {table : List (List ℕ)} {a : Positions} {s : State} {v : Words} (w : Words) → Sound file g table → 1 ≤ set_room w → SameSizes v (within w)
    → Holding g a s v → Lasts file s (behind v (beyond w)) a
in_place_lem {g = g} {table = table} {a = a} {s = s} {v = v} w sound some same h =
    record { grammar = g; table = table; sound = sound; holding = subst (Holding g a s) (sym (within_new w v some same)) h }

-- A fault of the file is not 0.
fault-some : {file : List ℕ} {n : ℕ} → FileFault file n → n ≡ 0 → ⊥
fault-some (FileFault.malformed m) e = omega arith
fault-some (FileFault.broken w n) e = omega arith

-- A start that is refused is not answered 0.
pub start-some : {file : List ℕ} {w : Words} {n : ℕ} → StartFault file w n → n ≡ 0 → ⊥
start-some (StartFault.file_fault f) e = fault-some f e
start-some (StartFault.no_sets checked none) e = omega arith

-- No call of a history is refused with 1, 2 or 4.
pub no_fault : {file : List ℕ} {s : State} {w : Words} {a : Positions} {n : ℕ} → Lasts file s w a → CallFault file s w n → ⊥
no_fault l (CallFault.file_fault f) = no_file_fault l.sound.checked f
no_fault l (CallFault.ill_formed checked ill) = ill (lasts_holding l checked).well

-- A start answered 0 begins.
lasts_start : {file : List ℕ} {s : State} {w : Words} {o : Outcome} → Starts file s w o → o.number ≡ 0 → Lasts file o.state o.words []
lasts_start (Starts.refused fault) e = absurd (start-some fault e)
lasts_start {w = w} (Starts.done sound some) e =
    let sets : 0 < length (within w).rows / row_words = omega (arith, sets-room w) in
    in_place_lem w sound (omega arith) (started_sizes sound.checked.accepted sound.predicts (within w) sets)
    (start-holds sound.checked.accepted sound.predicts (within w) (within-cut w some) sets)

-- One that is refused changes nothing.
lasts_not_started : {file : List ℕ} {s : State} {w : Words} {a : Positions} {o : Outcome} → Lasts file s w a → Starts file s w o → (o.number ≡ 0 → ⊥)
    → Lasts file o.state o.words a
lasts_not_started l (Starts.refused fault) n = l
lasts_not_started l (Starts.done sound some) n = absurd (n refl)

module _ {file : List ℕ} {s : State} {w : Words} {a : Positions} (l : Lasts file s w a) where
  -- A step in the words of a history accepts its position, or refuses it.
  pub lasts_judged : {g : Grammar} {table : List (List ℕ)} → Sound file g table → (kinds : List ℕ)
      → Accepts g a (within w) kinds (stepped g table s (within w) kinds) ⊎ Refuses g a s (within w) kinds (stepped g table s (within w) kinds)
  lasts_judged sound kinds = step_judged sound.checked.accepted sound.predicts (lasts_holding l sound.checked) kinds

  pub lasts_ran : {g : Grammar} {table : List (List ℕ)} → Sound file g table → (b : Positions) → RunHolds g a (within w) b (ran g table s (within w) b)
  lasts_ran sound b = run_holds sound.checked.accepted sound.predicts b (lasts_holding l sound.checked)

  room : 1 ≤ set_room w
  room = holding_room w l.holding

  lasts_accepted : {kinds : List ℕ} {o : Outcome} → Takes file s w kinds o → o.number ≡ 0 → Lasts file o.state o.words (a ++ (kinds ∷ []))
  lasts_accepted (Takes.refused fault) e = absurd (no_fault l fault)
  lasts_accepted {kinds} (Takes.done {g = g} {table = table} ready) e =
      ⊎_elim
      (λ (first : Accepts g a (within w) kinds (stepped g table s (within w) kinds)). in_place_lem w ready.sound room first.sizes first.holding)
      (λ (r : Refuses g a s (within w) kinds (stepped g table s (within w) kinds)). absurd (refused-some r.why e))
      (lasts_judged ready.sound kinds)

  lasts_not_accepted : {kinds : List ℕ} {o : Outcome} → Takes file s w kinds o → (o.number ≡ 0 → ⊥) → Lasts file o.state o.words a
  lasts_not_accepted (Takes.refused fault) n = l
  lasts_not_accepted {kinds} (Takes.done {g = g} {table = table} ready) n =
      ⊎_elim
      (λ (first : Accepts g a (within w) kinds (stepped g table s (within w) kinds)). absurd (n first.zero))
      (λ (r : Refuses g a s (within w) kinds (stepped g table s (within w) kinds)).
      in_place_lem w ready.sound room (subst (λ (u : Words). SameSizes u (within w)) (sym r.words) (sizes_refl (within w)))
      (subst₂ (Holding g a) (sym r.state) (sym r.words) (lasts_holding l ready.sound.checked)))
      (lasts_judged ready.sound kinds)

  lasts_run : {b : Positions} {e : Ended} → Runs file s w b e → Lasts file e.outcome.state e.outcome.words (a ++ take e.taken b)
  lasts_run (Runs.refused fault) = absurd (no_fault l fault)
  lasts_run {b} (Runs.done {g = g} {table = table} ready) =
      let h : RunHolds g a (within w) b (ran g table s (within w) b) = lasts_ran ready.sound b in
      in_place_lem w ready.sound room h.sizes h.holding

module _ {file : List ℕ} where
  -- EVERY HISTORY HOLDS.
  pub lasts : {s : State} {w : Words} {a : Positions} → History file s w a → Lasts file s w a
  lasts (History.fresh starts zero) = lasts_start starts zero
  lasts (History.accepted h takes zero) = lasts_accepted (lasts h) takes zero
  lasts (History.not_accepted h takes some) = lasts_not_accepted (lasts h) takes some
  lasts (History.run h runs) = lasts_run (lasts h) runs
  lasts (History.not_started h starts some) = lasts_not_started (lasts h) starts some
