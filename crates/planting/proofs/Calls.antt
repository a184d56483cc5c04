-- What a call for one position that is answered 0 has planted.
use Rattle.std.proofs.Common.{◌≡◌, refl, sym, ap, ◌∙◌, subst, true, List, ℕ, ◌<◌, arith}
use Rattle.grammar.specs.Rules.{Grammar}
use Rattle.parse.specs.declared.State.{State}
use Rattle.parse.specs.Words.{Words, set_room, within, beyond, behind}
use Rattle.parse.proofs.Capacities.{sets-room, within_new}
use Rattle.demands.specs.Positions.{is_position}
use Rattle.demands.specs.Steps.{Outcome, completed, stepped}
use Rattle.demands.specs.Calls.{FileFault, CallFault, Ready, Takes}
use Rattle.demands.proofs.Cut.{Cut, within-cut}
use Rattle.demands.proofs.Ways.{Ways, ways}
use Rattle.demands.proofs.Refusing.{step_sizes}
use Rattle.planting.specs.Planted.{Planted, PositionPlants}
use Rattle.planting.proofs.Growing.{cut-within}
use Rattle.planting.proofs.Law.{step_planted}

-- A call that is refused for its file or its state is not answered 0.
call_some : {file : List ℕ} {s : State} {w : Words} {n : ℕ} → CallFault file s w n → n ≡ 0 → ⊥
call_some (CallFault.file_fault (FileFault.malformed m)) e = omega arith
call_some (CallFault.file_fault (FileFault.broken w n)) e = omega arith
call_some (CallFault.ill_formed checked ill) e = omega arith

-- A step that is done met no refusal, and leaves the nodes and the used units of its pass.
record Done (g : Grammar) (s : State) (v : Words) (kinds : List ℕ) (o : Outcome) : Type 0 where
  pub position : is_position g.tokens kinds ≡ true
  pub on : (completed g s v kinds).at.stopped ≡ 0
  pub store : o.words.store ≡ (completed g s v kinds).units
  pub used : o.state.used ≡ (completed g s v kinds).at.used

done_by : {g : Grammar} {table : List (List ℕ)} {s : State} {v : Words} {kinds : List ℕ} {o : Outcome} → Ways g table s v kinds o → o.number ≡ 0 → Done g s v kinds o
done_by (Ways.no_token_lem none) e = absurd (omega arith)
done_by (Ways.not_predicted_lem position n) e = absurd (omega arith)
done_by (Ways.full position there n) e = absurd (n e)
done_by (Ways.no_room position there going l) e = absurd (omega arith)
done_by (Ways.done position there going room) e = record { position = position; on = going; store = refl; used = refl }

module _ {file : List ℕ} {s : State} {w : Words} {g : Grammar} {table : List (List ℕ)} (ready : Ready file s w g table) (kinds : List ℕ) where
  abbrev o : Outcome
  o = stepped g table s (within w) kinds

  some : 0 < set_room w
  some = omega (arith, ready.well_formed.set_fits, sets-room w)

  cut : Cut (within w)
  cut = within-cut w some

  is_done : o.number ≡ 0 → Done g s (within w) kinds o
  is_done = done_by (ways g table s (within w) kinds)

  -- The words within the capacities after the step are those that it left.
  after : within (behind o.words (beyond w)) ≡ o.words
  after = within_new w o.words (omega (arith, some)) (step_sizes ready.sound.checked.accepted ready.well_formed cut kinds ready.sound.predicts)

  call_planted : o.number ≡ 0 → Planted g s (within w) kinds
  call_planted zero =
      let d : Done g s (within w) kinds o = is_done zero in
      step_planted (record {
        accepted = ready.sound.checked.accepted;
        well = ready.well_formed;
        within = cut-within cut;
        is_position_lem = d.position;
        on = d.on;
      })

-- A POSITION ANSWERED 0 HAS PLANTED.
pub position_plants : {file : List ℕ} {s : State} {w : Words} {kinds : List ℕ} {o : Outcome} → Takes file s w kinds o → PositionPlants file s w kinds o
position_plants (Takes.refused fault) = record {
  planted = λ zero. absurd (call_some fault zero);
  store = λ zero. absurd (call_some fault zero);
  used = λ zero. absurd (call_some fault zero);
}
position_plants {file} {s} {w} {kinds} (Takes.done {g = g} {table = table} ready) = record {
  planted = λ zero. subst (λ (k : Grammar). Planted k s (within w) kinds) (sym ready.sound.checked.is) (call_planted ready kinds zero);
  store = λ zero.
      ap (λ (u : Words). u.store) (after ready kinds) ∙ (is_done ready kinds zero).store
      ∙ ap (λ (k : Grammar). (completed k s (within w) kinds).units) (sym ready.sound.checked.is);
  used = λ zero. (is_done ready kinds zero).used ∙ ap (λ (k : Grammar). (completed k s (within w) kinds).at.used) (sym ready.sound.checked.is);
}
