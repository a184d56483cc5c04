-- The step of a position keeps what a parse holds, or refuses the position for a reason that sentences give.
use mathlib.Core.Path.{◌≡◌, refl}
use mathlib.Core.Bool.{true, false}
use mathlib.Core.Logic.{◌↔◌, ◌⊎◌, inl, inr}
use mathlib.Core.List.{List, [], ◌∷◌, ◌++◌}
use Prim.Native.Nat.{ℕ, ◌+◌, ◌/◌, ◌<◌}
use native.Mathlib.Omega.{arith}
use lib.ListN.{length}
use Rattle.bits.specs.Width.{row_words}
use Rattle.grammar.specs.Rules.{Grammar}
use Rattle.grammar.specs.Accepted.{Accepted}
use Rattle.grammar.specs.Prediction.{Predicts}
use Rattle.parse.specs.declared.State.{State}
use Rattle.parse.specs.Words.{Words}
use Rattle.parse.specs.WellFormed.{WellFormed}
use Rattle.parse.proofs.Capacities.{SameSizes}
use Rattle.earley.specs.Positions.{Positions, SpellBeginning}
use Rattle.earley.proofs.Charts.{Holds, begin}
use Rattle.earley.proofs.Steps.{Kinds}
use Rattle.earley.proofs.Token.{token}
use Rattle.earley.proofs.Answers.{row_any}
use Rattle.demands.specs.Positions.{is_position}
use Rattle.demands.specs.Steps.{Outcome, no_token, not_predicted, completed, started, stepped}
use Rattle.demands.specs.Sentences.{AcceptedOrNoRoom}
use Rattle.demands.proofs.Positions.{Predicted, position-below}
use Rattle.demands.proofs.Chart.{chart_of, Completed}
use Rattle.demands.proofs.Exact.{completed-exactly}
use Rattle.demands.proofs.Cut.{Cut, cut-same}
use Rattle.demands.proofs.Starting.{started_sizes, started-fresh, started-well}
use Rattle.demands.proofs.Ways.{Ways, kept_of, following, ways}
use Rattle.demands.proofs.Refusing.{stopped-room}
use Rattle.demands.proofs.NextSet.{following_sizes, following_well, following_next}

-- What a parse that has accepted the positions `a` holds, in words within the capacities.
pub record Holding (g : Grammar) (a : Positions) (s : State) (v : Words) : Type 0 where
  pub cut : Cut v
  pub well : WellFormed g.symbols g.rules s v
  pub holds : Holds g a (chart_of s v)

-- Why the kinds are refused behind `a`, by number.
pub data Refused (g : Grammar) (a : Positions) (kinds : List ℕ) : ℕ → Type 0 where
  no_token_lem : is_position g.tokens kinds ≡ false → Refused g a kinds no_token
  impossible : is_position g.tokens kinds ≡ true → (SpellBeginning g (a ++ kinds ∷ []) → ⊥) → Refused g a kinds not_predicted
  no_room : {n : ℕ} → is_position g.tokens kinds ≡ true → SpellBeginning g (a ++ kinds ∷ []) → AcceptedOrNoRoom n → (n ≡ 0 → ⊥) → Refused g a kinds n

-- The position is accepted, ..
pub record Accepts (g : Grammar) (a : Positions) (v : Words) (kinds : List ℕ) (o : Outcome) : Type 0 where
  pub zero : o.number ≡ 0
  pub position : is_position g.tokens kinds ≡ true
  pub begins : SpellBeginning g (a ++ kinds ∷ [])
  pub sizes : SameSizes o.words v
  pub holding : Holding g (a ++ kinds ∷ []) o.state o.words

-- .. or it is refused, and everything is as it was.
pub record Refuses (g : Grammar) (a : Positions) (s : State) (v : Words) (kinds : List ℕ) (o : Outcome) : Type 0 where
  pub why : Refused g a kinds o.number
  pub state : o.state ≡ s
  pub words : o.words ≡ v

-- A refusal is not 0.
pub refused-some : {g : Grammar} {a : Positions} {kinds : List ℕ} {n : ℕ} → Refused g a kinds n → n ≡ 0 → ⊥
refused-some (Refused.no_token_lem none) e = omega arith
refused-some (Refused.impossible position none) e = omega arith
refused-some (Refused.no_room position begins room n) e = n e

module _ {g : Grammar} {table : List (List ℕ)} (accepted : Accepted g) (predicts : Predicts g row_words table) where
  -- A start begins to hold.
  pub start-holds : (v : Words) → Cut v → 0 < length v.rows / row_words → Holding g [] (started g table v).state (started g table v).words
  start-holds v cut some = record {
    cut = cut-same (started_sizes accepted predicts v some) cut;
    well = started-well accepted predicts v some;
    holds = begin (started-fresh accepted predicts v some);
  }

  module _ {a : Positions} {s : State} {v : Words} (h : Holding g a s v) (kinds : List ℕ) where
    are_tokens : is_position g.tokens kinds ≡ true → Kinds g kinds
    are_tokens position = record { tokens = position-below g.tokens kinds position }

    -- The latest row has a kind of the position exactly when some sentence goes on with one.
    viable : is_position g.tokens kinds ≡ true → Predicted s v kinds ↔ SpellBeginning g (a ++ kinds ∷ [])
    viable position =
        let any = row_any accepted h.holds (are_tokens position) in (
          (λ there. any.1 (record { kind = there.kind; of = there.of; held = there.held })),
          (λ begins. let there = any.0 begins in record { kind = there.kind; of = there.of; held = there.held }),
        )

    goes : is_position g.tokens kinds ≡ true → Predicted s v kinds → (completed g s v kinds).at.stopped ≡ 0 → kept_of g s v kinds + 1 < length v.rows / row_words
        → Accepts g a v kinds (following g table s v kinds)
    goes position there going room =
        let exact : Completed g s v kinds = completed-exactly g accepted s v h.well h.cut kinds position going in
        let sizes = following_sizes accepted predicts h.well h.cut kinds position room in
        record {
          zero = refl;
          position = position;
          begins = (viable position).0 there;
          sizes = sizes;
          holding = record {
            cut = cut-same sizes h.cut;
            well = following_well accepted predicts h.well h.cut kinds position room;
            holds = token h.holds (are_tokens position) exact.pass (following_next accepted predicts h.well h.cut kinds position room exact);
          };
        }

    by_way : {o : Outcome} → Ways g table s v kinds o → Accepts g a v kinds o ⊎ Refuses g a s v kinds o
    by_way (Ways.no_token_lem none) = inr (record { why = Refused.no_token_lem none; state = refl; words = refl })
    by_way (Ways.not_predicted_lem position n) =
        inr (record { why = Refused.impossible position (λ begins. n ((viable position).1 begins)); state = refl; words = refl })
    by_way (Ways.full position there n) =
        inr (record {
          why = Refused.no_room position ((viable position).0 there) (stopped-room accepted h.well h.cut kinds position) n;
          state = refl;
          words = refl;
        })
    by_way (Ways.no_room position there going l) =
        inr (record {
          why = Refused.no_room position ((viable position).0 there) AcceptedOrNoRoom.no_set (λ e. omega arith);
          state = refl;
          words = refl;
        })
    by_way (Ways.done position there going room) = inl (goes position there going room)

    -- A STEP ACCEPTS THE POSITION, OR REFUSES IT FOR A REASON.
    pub step_judged : Accepts g a v kinds (stepped g table s v kinds) ⊎ Refuses g a s v kinds (stepped g table s v kinds)
    step_judged = by_way (ways g table s v kinds)
