-- What a step on a well-formed state answers, by number, and what it leaves.
use mathlib.Core.Path.{◌≡◌, refl, sym, ◌∙◌, subst}
use mathlib.Core.Bool.{true, false, false≢true}
use mathlib.Core.Logic.{◌↔◌}
use mathlib.Core.List.{List}
use Prim.Native.Nat.{ℕ}
use native.Mathlib.Omega.{arith}
use Rattle.bits.specs.Width.{row_words}
use Rattle.grammar.specs.Rules.{Grammar}
use Rattle.grammar.specs.Accepted.{Accepted}
use Rattle.grammar.specs.Prediction.{Predicts}
use Rattle.parse.specs.declared.State.{State}
use Rattle.parse.specs.Words.{Words}
use Rattle.parse.specs.WellFormed.{WellFormed}
use Rattle.parse.proofs.Capacities.{SameSizes}
use Rattle.completion.specs.Pass.{Pass}
use Rattle.completion.proofs.Refusals.{Ends}
use Rattle.completion.proofs.Passed.{position_passed}
use Rattle.demands.specs.Positions.{is_position}
use Rattle.demands.specs.Steps.{Outcome, no_token, not_predicted, completed, stepped}
use Rattle.demands.specs.Sentences.{AcceptedOrNoRoom}
use Rattle.demands.proofs.Positions.{position_scannable}
use Rattle.demands.proofs.Cut.{Cut, sizes_refl}
use Rattle.demands.proofs.Ways.{Ways, Predicted, ways}
use Rattle.demands.proofs.NextSet.{following_sizes, following_well}

-- A pass that ended was not refused, or met full items, a full queue or a full store: 0, 7, 8 or 14.
ends-full : {p : Pass} → Ends p → AcceptedOrNoRoom p.at.stopped
ends-full (Ends.empty going none) = subst AcceptedOrNoRoom (sym going) AcceptedOrNoRoom.accepted
ends-full (Ends.full-items stopped full) = subst AcceptedOrNoRoom (sym stopped) AcceptedOrNoRoom.no_item
ends-full (Ends.full-queue stopped full) = subst AcceptedOrNoRoom (sym stopped) AcceptedOrNoRoom.no_entry_lem
ends-full (Ends.full-store stopped) = subst AcceptedOrNoRoom (sym stopped) AcceptedOrNoRoom.no_unit

-- Those are neither 5 nor 6.
pub room-other : {n : ℕ} → AcceptedOrNoRoom n → (n ≡ no_token → ⊥) × (n ≡ not_predicted → ⊥)
room-other AcceptedOrNoRoom.accepted = ((λ e. omega arith), (λ e. omega arith))
room-other AcceptedOrNoRoom.no_item = ((λ e. omega arith), (λ e. omega arith))
room-other AcceptedOrNoRoom.no_entry_lem = ((λ e. omega arith), (λ e. omega arith))
room-other AcceptedOrNoRoom.no_set = ((λ e. omega arith), (λ e. omega arith))
room-other AcceptedOrNoRoom.no_unit = ((λ e. omega arith), (λ e. omega arith))

-- 5 where the kinds are no position; else 6 where none of them is predicted; else 0, 7, 8, 9 or 14.
pub data Answered (g : Grammar) (s : State) (v : Words) (kinds : List ℕ) : ℕ → Type 0 where
  no_token_lem : is_position g.tokens kinds ≡ false → Answered g s v kinds no_token
  not_predicted_lem : is_position g.tokens kinds ≡ true → (Predicted s v kinds → ⊥) → Answered g s v kinds not_predicted
  otherwise : {n : ℕ} → is_position g.tokens kinds ≡ true → Predicted s v kinds → AcceptedOrNoRoom n → Answered g s v kinds n

module _ {g : Grammar} {s : State} {v : Words} {kinds : List ℕ} where
  -- So 5 and 6 tell what they tell, and nothing else.
  pub answered-five : {n : ℕ} → Answered g s v kinds n → (n ≡ no_token) ↔ (is_position g.tokens kinds ≡ false)
  answered-five (Answered.no_token_lem none) = ((λ e. none), (λ m. refl))
  answered-five (Answered.not_predicted_lem position n) = ((λ e. absurd (omega arith)), (λ m. absurd (false≢true (sym m ∙ position))))
  answered-five (Answered.otherwise position there room) = ((λ e. absurd ((room-other room).0 e)), (λ m. absurd (false≢true (sym m ∙ position))))

  pub answered_six : {n : ℕ} → Answered g s v kinds n → (n ≡ not_predicted) ↔ ((is_position g.tokens kinds ≡ true) × (Predicted s v kinds → ⊥))
  answered_six (Answered.no_token_lem none) = ((λ e. absurd (omega arith)), (λ m. absurd (false≢true (sym none ∙ m.0))))
  answered_six (Answered.not_predicted_lem position n) = ((λ e. (position, n)), (λ m. refl))
  answered_six (Answered.otherwise position there room) = ((λ e. absurd ((room-other room).1 e)), (λ m. absurd (m.1 there)))

module _ {g : Grammar} {s : State} {v : Words} (accepted : Accepted g) (well : WellFormed g.symbols g.rules s v) (cut : Cut v) (kinds : List ℕ) where
  -- A position's pass was not refused, or met full items, a full queue or a full store.
  pub stopped-room : is_position g.tokens kinds ≡ true → AcceptedOrNoRoom (completed g s v kinds).at.stopped
  stopped-room position =
      ends-full (position_passed g accepted well cut.few_items cut.few_entries cut.rowed kinds (position_scannable g accepted kinds position)).ends

  module _ {table : List (List ℕ)} (predicts : Predicts g row_words table) where
    by_way : {o : Outcome} → Ways g table s v kinds o → Answered g s v kinds o.number
    by_way (Ways.no_token_lem none) = Answered.no_token_lem none
    by_way (Ways.not_predicted_lem position n) = Answered.not_predicted_lem position n
    by_way (Ways.full position there n) = Answered.otherwise position there (stopped-room position)
    by_way (Ways.no_room position there going l) = Answered.otherwise position there AcceptedOrNoRoom.no_set
    by_way (Ways.done position there going room) = Answered.otherwise position there AcceptedOrNoRoom.accepted

    sizes_by : {o : Outcome} → Ways g table s v kinds o → SameSizes o.words v
    sizes_by (Ways.no_token_lem none) = sizes_refl v
    sizes_by (Ways.not_predicted_lem position n) = sizes_refl v
    sizes_by (Ways.full position there n) = sizes_refl v
    sizes_by (Ways.no_room position there going l) = sizes_refl v
    sizes_by (Ways.done position there going room) = following_sizes accepted predicts well cut kinds position room

    well_by : {o : Outcome} → Ways g table s v kinds o → WellFormed g.symbols g.rules o.state o.words
    well_by (Ways.no_token_lem none) = well
    well_by (Ways.not_predicted_lem position n) = well
    well_by (Ways.full position there n) = well
    well_by (Ways.no_room position there going l) = well
    well_by (Ways.done position there going room) = following_well accepted predicts well cut kinds position room

    kept_by : {o : Outcome} → Ways g table s v kinds o → (o.number ≡ 0 → ⊥) → (o.state ≡ s) × (o.words ≡ v)
    kept_by (Ways.no_token_lem none) n = (refl, refl)
    kept_by (Ways.not_predicted_lem position m) n = (refl, refl)
    kept_by (Ways.full position there m) n = (refl, refl)
    kept_by (Ways.no_room position there going l) n = (refl, refl)
    kept_by (Ways.done position there going room) n = absurd (n refl)

    -- A step answers one of these numbers, ..
    pub step_answered : Answered g s v kinds (stepped g table s v kinds).number
    step_answered = by_way (ways g table s v kinds)

    -- .. leaves as many words as there were, in a well-formed state, ..
    pub step_sizes : SameSizes (stepped g table s v kinds).words v
    step_sizes = sizes_by (ways g table s v kinds)

    pub step_well : WellFormed g.symbols g.rules (stepped g table s v kinds).state (stepped g table s v kinds).words
    step_well = well_by (ways g table s v kinds)

    -- .. and when it is refused everything as it was.
    pub step_kept : ((stepped g table s v kinds).number ≡ 0 → ⊥) → ((stepped g table s v kinds).state ≡ s) × ((stepped g table s v kinds).words ≡ v)
    step_kept = kept_by (ways g table s v kinds)
