-- A run equals one call a position up to the first refusal. With `runs_agree` this leaves a run nothing else to answer.
use mathlib.Core.Path.{◌≡◌, sym, ap, ap₂, ◌∙◌, subst}
use mathlib.Core.List.{List, [], ◌∷◌, ◌++◌}
use Prim.Native.Nat.{ℕ, ◌+◌, ◌≤◌}
use native.Mathlib.Decide.{ℕ_discrete}
use native.Mathlib.Omega.{arith}
use Rattle.grammar.specs.Rules.{Grammar}
use Rattle.parse.specs.declared.State.{State}
use Rattle.parse.specs.Words.{Words, set_room, within, beyond, behind}
use Rattle.parse.proofs.Capacities.{SameSizes, sets-room, split-whole, within_new, beyond-new}
use Rattle.earley.specs.Positions.{Positions}
use Rattle.demands.specs.Steps.{Outcome, Ended, one_more, stepped, ran}
use Rattle.demands.specs.Calls.{Ready, FileFault, CallFault, as_it_was, in_place, in_place_ended, Takes, Runs}
use Rattle.demands.proofs.Agree.{sound-same, not_ready, runs_agree}
use Rattle.demands.proofs.Cut.{within-cut}
use Rattle.demands.proofs.Refusing.{step_sizes}
use Rattle.demands.proofs.Running.{ran_on, ran_off}
use Rattle.demands.proofs.Again.{stepped_ready}

-- A refused call is not answered 0.
pub call_some : {file : List ℕ} {s : State} {w : Words} {n : ℕ} → CallFault file s w n → n ≡ 0 → ⊥
call_some (CallFault.file_fault (FileFault.malformed m)) e = omega arith
call_some (CallFault.file_fault (FileFault.broken m b)) e = omega arith
call_some (CallFault.ill_formed checked ill) e = omega arith

-- What a run came to within the capacities, with the words past them behind.
abbrev ending : Words → Ended → Ended
ending past e = record {
  outcome = record { number = e.outcome.number; state = e.outcome.state; words = behind e.outcome.words past };
  taken = e.taken;
}

-- Behind an accepted position, what is left of the run is a run from what its call left.
module _ {file : List ℕ} {s : State} {w : Words} {g : Grammar} {table : List (List ℕ)} (ready : Ready file s w g table) (kinds : List ℕ) where
  abbrev after : Outcome
  after = stepped g table s (within w) kinds

  abbrev left : Words
  left = behind after.words (beyond w)

  some : 1 ≤ set_room w
  some = omega (arith, ready.well_formed.set_fits, sets-room w)

  sizes : SameSizes after.words (within w)
  sizes = step_sizes ready.sound.checked.accepted ready.well_formed (within-cut w (omega (arith, some))) kinds ready.sound.predicts

  goes_on : {g' : Grammar} {table' : List (List ℕ)} (a : Positions) → after.number ≡ 0 → Ready file after.state left g' table'
      → in_place_ended w (ran g table s (within w) (kinds ∷ a)) ≡ one_more (in_place_ended left (ran g' table' after.state (within left) a))
  goes_on a zero ready' =
      ap (in_place_ended w) (ran_on g table s (within w) kinds a zero)
      ∙ ap₂ (λ (past : Words) (v : Words). one_more (ending past (ran g table after.state v a)))
      (sym (beyond-new w after.words some sizes)) (sym (within_new w after.words some sizes))
      ∙ ap (λ (e : Ended). one_more (in_place_ended left e))
      (sound-same (λ (k : Grammar) (rows : List (List ℕ)). ran k rows after.state (within left) a) ready.sound ready'.sound)

module _ {file : List ℕ} {s : State} {w : Words} where
  -- A run of no position takes 0 and leaves everything as it was.
  pub run_none : {g : Grammar} {table : List (List ℕ)} → Ready file s w g table → Runs file s w [] (record { outcome = as_it_was 0 s w; taken = 0 })
  unfolding ran
  run_none ready =
      subst (λ (u : Words). Runs file s w [] (record { outcome = as_it_was 0 s u; taken = 0 })) (split-whole w) (Runs.done ready)

  -- A run ends at a position that is refused, as that call does, and takes it not.
  pub run_ends : {kinds : List ℕ} {a : Positions} {o : Outcome} → Takes file s w kinds o → (o.number ≡ 0 → ⊥) → Runs file s w (kinds ∷ a) (record { outcome = o; taken = 0 })
  run_ends (Takes.refused f) n = Runs.refused f
  run_ends {kinds} {a} (Takes.done {g = g} {table = table} ready) n =
      subst (λ (e : Ended). Runs file s w (kinds ∷ a) (in_place_ended w e)) (ran_off g table s (within w) kinds a n) (Runs.done ready)

  -- Behind a position that is accepted it goes on as a run from what that call left, with one position more taken.
  pub run-goes_on : {kinds : List ℕ} {a : Positions} {o : Outcome} {e : Ended} → Takes file s w kinds o → o.number ≡ 0 → Runs file o.state o.words a e → Runs file s w (kinds ∷ a) (one_more e)
  run-goes_on (Takes.refused f) zero runs = absurd (call_some f zero)
  run-goes_on {kinds} (Takes.done ready) zero (Runs.refused f) = absurd (not_ready (stepped_ready s w kinds ready) f)
  run-goes_on {kinds} {a} (Takes.done ready) zero (Runs.done ready') = subst (Runs file s w (kinds ∷ a)) (goes_on ready kinds a zero ready') (Runs.done ready)

-- What a run came to, with so many positions taken before it.
abbrev pub further : ℕ → Ended → Ended
further before e = record { outcome = e.outcome; taken = before + e.taken }

module _ (file : List ℕ) (b : Positions) (e' : Ended) where
  -- The run over `b` behind what a run came to.
  abbrev Behind : Ended → Type 0
  Behind e = Runs file e.outcome.state e.outcome.words b e'

  counted : {s : State} {w : Words} (a : Positions) (n k : ℕ) → n ≡ k → Runs file s w a (record { outcome = e'.outcome; taken = n })
      → Runs file s w a (record { outcome = e'.outcome; taken = k })
  counted {s} {w} a n k same runs = subst (λ (m : ℕ). Runs file s w a (record { outcome = e'.outcome; taken = m })) same runs

  join_none : {s : State} {w : Words} {g : Grammar} {table : List (List ℕ)} {e : Ended} → Ready file s w g table → Runs file s w [] e → Behind e
      → Runs file s w b (further e.taken e')
  join_none {e = e} ready runs next =
      let same = runs_agree runs (run_none ready) in
      let none : e.taken ≡ 0 = ap (λ (d : Ended). d.taken) same in
      counted b e'.taken (e.taken + e'.taken) (omega (arith, none)) (subst Behind same next)

  module _ {s : State} {w : Words} {g : Grammar} {table : List (List ℕ)} (ready : Ready file s w g table) (kinds : List ℕ) (a : Positions) where
    abbrev first : Outcome
    first = in_place w (stepped g table s (within w) kinds)

    abbrev others : Ended
    others = in_place_ended first.words (ran g table first.state (within first.words) a)

    join_more : {e : Ended} → Runs file s w (kinds ∷ a) e → e.outcome.number ≡ 0 → Behind e
        → (others.outcome.number ≡ 0 → Behind others → Runs file first.state first.words (a ++ b) (further others.taken e'))
        → Runs file s w (kinds ∷ (a ++ b)) (further e.taken e')
    join_more {e} runs zero next more =
        elim (ℕ_discrete first.number 0) [
          | yes on ↦
              let same = runs_agree runs (run-goes_on (Takes.done ready) on (Runs.done (stepped_ready s w kinds ready))) in
              let taken : e.taken ≡ others.taken + 1 = ap (λ (d : Ended). d.taken) same in
              counted (kinds ∷ (a ++ b)) (others.taken + e'.taken + 1) (e.taken + e'.taken) (omega (arith, taken))
              (run-goes_on (Takes.done ready) on (more (sym (ap (λ (d : Ended). d.outcome.number) same) ∙ zero) (subst Behind same next)))
          | no off ↦
              let same = runs_agree runs (run_ends (Takes.done ready) off) in
              absurd (off (sym (ap (λ (d : Ended). d.outcome.number) same) ∙ zero))
        ]

  join : (a : Positions) {s : State} {w : Words} {g : Grammar} {table : List (List ℕ)} (ready : Ready file s w g table) {e : Ended}
      → Runs file s w a e → e.outcome.number ≡ 0 → Behind e → Runs file s w (a ++ b) (further e.taken e')
  join [] ready runs zero next = join_none ready runs next
  join (kinds ∷ a) {s} {w} ready runs zero next =
      let ready' = stepped_ready s w kinds ready in
      join_more ready kinds a runs zero next (join a ready' (Runs.done ready'))

  -- A RUN THAT TOOK ALL ITS POSITIONS AND ONE BEHIND IT ARE ONE RUN over the positions of both.
  pub runs-join : {s : State} {w : Words} (a : Positions) {e : Ended} → Runs file s w a e → e.outcome.number ≡ 0 → Behind e
      → Runs file s w (a ++ b) (further e.taken e')
  runs-join a (Runs.refused f) zero next = absurd (call_some f zero)
  runs-join a (Runs.done ready) zero next = join a ready (Runs.done ready) zero next
