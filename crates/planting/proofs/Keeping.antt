-- Nodes are only added: what stands before the used units of a parse stands there until the next start, whatever the calls answer.
use Rattle.std.proofs.Common.{◌≡◌, refl, sym, ap, subst, ◌∙◌, true, List, [], ◌∷◌, ℕ, ◌≤◌, arith}
use native.Mathlib.Decide.{ℕ_discrete}
use Rattle.bits.specs.Width.{row_words}
use Rattle.grammar.specs.Rules.{Grammar}
use Rattle.grammar.specs.Accepted.{Accepted}
use Rattle.grammar.specs.Prediction.{Predicts}
use Rattle.node.specs.Rows.{units_at}
use Rattle.node.specs.Writing.{usable}
use Rattle.node.specs.Reading.{stand}
use Rattle.node.specs.declared.Node.{Node as Written}
use Rattle.parse.specs.declared.State.{State}
use Rattle.parse.specs.Words.{Words, set_room, within, beyond, behind}
use Rattle.parse.specs.WellFormed.{WellFormed}
use Rattle.parse.proofs.Capacities.{SameSizes, sets-room, within_new}
use Rattle.earley.specs.Positions.{Positions}
use Rattle.demands.specs.Steps.{Outcome, Ended, stepped, ran}
use Rattle.demands.specs.Calls.{Ready, Starts, Takes, Runs}
use Rattle.demands.proofs.Cut.{Cut, within-cut, cut-same, sizes_refl, sizes_trans}
use Rattle.demands.proofs.Refusing.{step_sizes, step_well}
use Rattle.demands.proofs.Running.{ran_on, ran_off}
use Rattle.demands.proofs.Ways.{Ways, ways}
use Rattle.binary_heap.specs.Entry.{Entry}
use Rattle.forest.specs.Forests.{Node}
use Rattle.forest.proofs.Entries.{Pair, Items}
use Rattle.forest.proofs.Tied.{Turn}
use Rattle.forest.proofs.Rooted.{Store, Onward}
use Rattle.forest.proofs.Units.{Row, none, more, Standing, unit_store}
use Rattle.forest.proofs.Planted.{Writing}
use Rattle.planting.specs.Unrefused.{Unrefused}
use Rattle.planting.specs.Told.{Later, itself, position, run, not_started}
use Rattle.planting.proofs.Growing.{cut-within}
use Rattle.planting.proofs.Lasting.{within-usable}
use Rattle.planting.proofs.Rest.{so_far}

-- Onward by nothing, and by one stretch after the other.
onward_none : (s : Store) (used : ℕ) → Onward s used s used
onward_none s used = record { more = omega arith; stays = λ st le. st }

onward_both : {s t u : Store} {a b c : ℕ} → Onward s a t b → Onward t b u c → Onward s a u c
onward_both one two = record { more = omega (arith, one.more, two.more); stays = λ st le. two.stays (one.stays st le) (omega (arith, one.more)) }

-- What a pass writes leads onward.
writing_onward : {g : Grammar} {is : Items} {s₀ : Store} {used₀ : ℕ} {s : Store} {used : ℕ} {past : List (Turn Entry Pair)} → Writing g is s₀ used₀ past s used
    → Onward s₀ used₀ s used
writing_onward {s₀ = s₀} {used₀ = used₀} Writing.start = onward_none s₀ used₀
writing_onward (Writing.writes before is_node at on stands) = onward_both (writing_onward before) on

-- Stores of the same usable units hold the same nodes.
row_same : {s t : List ℕ} {p b : ℕ} {ns : List Written} → usable s ≡ usable t → Row s p ns b → Row t p ns b
row_same same none = none
row_same same (more {p = p} {n = n} st is rest) = more (subst (λ u. stand u p (units_at p n) ≡ true) same st) is (row_same same rest)

standing-same : {s t : List ℕ} {h b : ℕ} {n : Node} → usable s ≡ usable t → Standing s h b n → Standing t h b n
standing-same same (Standing.sums ps row) = Standing.sums ps (row_same same row)
standing-same same (Standing.leaf row) = Standing.leaf (row_same same row)

pub same_onward : (s t : List ℕ) (used : ℕ) → usable s ≡ usable t → Onward (unit_store s) used (unit_store t) used
same_onward s t used same = record { more = omega arith; stays = λ st le. standing-same same st }

-- From a state and its words to those that a call leaves.
abbrev pub Adds : State → Words → State → Words → Type 0
Adds s w s' w' = Onward (unit_store w.store) s.used (unit_store w'.store) s'.used

adds_none : (s : State) (w : Words) → Adds s w s w
adds_none s w = onward_none (unit_store w.store) s.used

module _ {g : Grammar} {table : List (List ℕ)} (accepted : Accepted g) (predicts : Predicts g row_words table) where
  by_way : {s : State} {v : Words} {kinds : List ℕ} {o : Outcome} → WellFormed g.symbols g.rules s v → Cut v → Ways g table s v kinds o
      → Adds s v o.state o.words
  by_way {s} {v} well cut (Ways.no_token_lem l) = adds_none s v
  by_way {s} {v} well cut (Ways.not_predicted_lem given n) = adds_none s v
  by_way {s} {v} well cut (Ways.full given there n) = adds_none s v
  by_way {s} {v} well cut (Ways.no_room given there going l) = adds_none s v
  by_way {s} {v} {kinds} well cut (Ways.done given there going room) =
      let unrefused : Unrefused g s v kinds = record { accepted = accepted; well = well; within = cut-within cut; is_position_lem = given; on = going } in
      writing_onward (so_far unrefused).writing

  step_adds : {s : State} {v : Words} → WellFormed g.symbols g.rules s v → Cut v → (kinds : List ℕ)
      → Adds s v (stepped g table s v kinds).state (stepped g table s v kinds).words
  step_adds {s} {v} well cut kinds = by_way well cut (ways g table s v kinds)

  -- A run is one position after the other.
  record RunAdds (s : State) (v : Words) (e : Ended) : Type 0 where
    pub adds : Adds s v e.outcome.state e.outcome.words
    pub sizes : SameSizes e.outcome.words v

  run_adds : (b : Positions) {s : State} {v : Words} → WellFormed g.symbols g.rules s v → Cut v → RunAdds s v (ran g table s v b)
  unfolding ran
  run_adds [] {s} {v} well cut = record { adds = adds_none s v; sizes = sizes_refl v }
  run_adds (kinds ∷ b) {s} {v} well cut =
      let step : Adds s v (stepped g table s v kinds).state (stepped g table s v kinds).words = step_adds well cut kinds in
      let sizes : SameSizes (stepped g table s v kinds).words v = step_sizes accepted well cut kinds predicts in
      let rest : RunAdds (stepped g table s v kinds).state (stepped g table s v kinds).words (ran g table (stepped g table s v kinds).state (stepped g table s v kinds).words b) =
      run_adds b (step_well accepted well cut kinds predicts) (cut-same sizes cut) in
      elim (ℕ_discrete (stepped g table s v kinds).number 0) [
        | yes zero ↦
            subst (RunAdds s v) (sym (ran_on g table s v kinds b zero))
            (record { adds = onward_both step rest.adds; sizes = sizes_trans rest.sizes sizes })
        | no some ↦ subst (RunAdds s v) (sym (ran_off g table s v kinds b some)) (record { adds = step; sizes = sizes })
      ]

-- The words past the capacities stay, and hold no node.
in_place_lem : {used used' : ℕ} {v : Words} (w : Words) → 1 ≤ set_room w → SameSizes v (within w)
    → Onward (unit_store (within w).store) used (unit_store v.store) used' → Onward (unit_store w.store) used (unit_store (behind v (beyond w)).store) used'
in_place_lem {used} {used'} {v} w some same adds =
    let new : Words = behind v (beyond w) in
    onward_both (same_onward w.store (within w).store used (sym (within-usable w)))
    (onward_both adds
    (same_onward v.store new.store used' (ap (λ (u : Words). usable u.store) (sym (within_new w v some same)) ∙ within-usable new)))

module _ {file : List ℕ} {s : State} {w : Words} where
  some : {g : Grammar} {table : List (List ℕ)} → Ready file s w g table → 1 ≤ set_room w
  some ready = omega (arith, ready.well_formed.set_fits, sets-room w)

  cut : {g : Grammar} {table : List (List ℕ)} → Ready file s w g table → Cut (within w)
  cut ready = within-cut w (omega (arith, some ready))

  takes_adds : {kinds : List ℕ} {o : Outcome} → Takes file s w kinds o → Adds s w o.state o.words
  takes_adds (Takes.refused fault) = adds_none s w
  takes_adds {kinds} (Takes.done ready) =
      let accepted = ready.sound.checked.accepted in
      in_place_lem w (some ready) (step_sizes accepted ready.well_formed (cut ready) kinds ready.sound.predicts)
      (step_adds accepted ready.sound.predicts ready.well_formed (cut ready) kinds)

  runs_adds : {b : Positions} {e : Ended} → Runs file s w b e → Adds s w e.outcome.state e.outcome.words
  runs_adds (Runs.refused fault) = adds_none s w
  runs_adds {b} (Runs.done ready) =
      let r = run_adds ready.sound.checked.accepted ready.sound.predicts b ready.well_formed (cut ready) in
      in_place_lem w (some ready) r.sizes r.adds

  refused_adds : {o : Outcome} → Starts file s w o → (o.number ≡ 0 → ⊥) → Adds s w o.state o.words
  refused_adds (Starts.refused fault) n = adds_none s w
  refused_adds (Starts.done sound room) n = absurd (n refl)

-- NODES ARE ONLY ADDED, until the next start.
pub later_adds : {file : List ℕ} {s : State} {w : Words} {s' : State} {w' : Words} → Later file s w s' w' → Adds s w s' w'
later_adds {s = s} {w = w} itself = adds_none s w
later_adds (position l takes) = onward_both (later_adds l) (takes_adds takes)
later_adds (run l runs) = onward_both (later_adds l) (runs_adds runs)
later_adds (not_started l starts n) = onward_both (later_adds l) (refused_adds starts n)
