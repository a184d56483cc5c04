-- The ways of a position's step.
use mathlib.Core.Path.{◌≡◌, refl, sym, ◌∙◌, subst}
use mathlib.Core.Bool.{true, false, false≢true}
use mathlib.Core.List.{List}
use Prim.Native.Nat.{ℕ, ◌+◌, ◌/◌, ◌≤◌, ◌<◌}
use native.Mathlib.Decide.{dec_lt, ℕ_discrete}
use native.Mathlib.Omega.{arith}
use lib.ListN.{length}
use borrow.Author.Tests.{lt-ltb, le-ltb, eq-eqb, ne_eqb}
use Rattle.laws.proofs.Tests.{either_way}
use Rattle.bits.specs.Width.{row_words}
use Rattle.item.specs.Item.{Item}
use Rattle.grammar.specs.Rules.{Grammar}
use Rattle.parse.specs.declared.State.{State}
use Rattle.parse.specs.Words.{Words}
use Rattle.advance.specs.NewItems.{new_items}
use Rattle.advance.specs.Advance.{greatest_origin, last_kept, predictions, next_state, next_words}
use Rattle.demands.specs.Positions.{is_position, any_predicted}
use Rattle.demands.specs.Steps.{Outcome, no_token, not_predicted, sets_full, completed, with_nodes, advanced, stepped}
pub use Rattle.demands.proofs.Positions.{Predicted}
use Rattle.demands.proofs.Positions.{any_predicted_lem, predicted-any, none_predicted}

-- The new items of a step, their greatest origin, and the latest set that is kept.
abbrev pub new_of : Grammar → State → Words → List ℕ → List Item
new_of g s v kinds = new_items g.rules (completed g s v kinds).items s.items (completed g s v kinds).at.items

abbrev pub reach_of : Grammar → State → Words → List ℕ → ℕ
reach_of g s v kinds = greatest_origin s.set (new_of g s v kinds)

abbrev pub kept_of : Grammar → State → Words → List ℕ → ℕ
kept_of g s v kinds = last_kept s.set (reach_of g s v kinds)

-- What a step that is done leaves.
abbrev pub following : Grammar → List (List ℕ) → State → Words → List ℕ → Outcome
following g table s v kinds =
    record {
      number = 0;
      state = next_state (completed g s v kinds).at.used (kept_of g s v kinds) v (new_of g s v kinds);
      words = next_words s.set (reach_of g s v kinds) (with_nodes (completed g s v kinds).units v) (new_of g s v kinds) (predictions g.rules table (new_of g s v kinds));
    }

-- What a step that is refused leaves.
abbrev pub kept : ℕ → State → Words → Outcome
kept number s v = record { number = number; state = s; words = v }

pub data Ways (g : Grammar) (table : List (List ℕ)) (s : State) (v : Words) (kinds : List ℕ) : Outcome → Type 0 where
  no_token_lem : is_position g.tokens kinds ≡ false → Ways g table s v kinds (kept no_token s v)
  not_predicted_lem : is_position g.tokens kinds ≡ true → (Predicted s v kinds → ⊥) → Ways g table s v kinds (kept not_predicted s v)
  full : is_position g.tokens kinds ≡ true → Predicted s v kinds → ((completed g s v kinds).at.stopped ≡ 0 → ⊥)
      → Ways g table s v kinds (kept (completed g s v kinds).at.stopped s v)
  no_room : is_position g.tokens kinds ≡ true → Predicted s v kinds → (completed g s v kinds).at.stopped ≡ 0
      → length v.rows / row_words ≤ kept_of g s v kinds + 1 → Ways g table s v kinds (kept sets_full s v)
  done : is_position g.tokens kinds ≡ true → Predicted s v kinds → (completed g s v kinds).at.stopped ≡ 0
      → kept_of g s v kinds + 1 < length v.rows / row_words → Ways g table s v kinds (following g table s v kinds)

module _ (g : Grammar) (table : List (List ℕ)) (s : State) (v : Words) (kinds : List ℕ) where
  pub is_no_token : is_position g.tokens kinds ≡ false → stepped g table s v kinds ≡ kept no_token s v
  unfolding stepped
  is_no_token none = rw (stepped, none) refl

  module _ (position : is_position g.tokens kinds ≡ true) where
    pub is_not_predicted : (Predicted s v kinds → ⊥) → stepped g table s v kinds ≡ kept not_predicted s v
    unfolding stepped
    is_not_predicted n = rw (stepped, position, none_predicted s v kinds n) refl

    module _ (there : Predicted s v kinds) where
      pub is_full : ((completed g s v kinds).at.stopped ≡ 0 → ⊥) → stepped g table s v kinds ≡ kept (completed g s v kinds).at.stopped s v
      unfolding stepped
      is_full n =
          rw (stepped, position, predicted-any s v kinds there, ne_eqb (completed g s v kinds).at.stopped 0 n) refl

      module _ (going : (completed g s v kinds).at.stopped ≡ 0) where
        goes : stepped g table s v kinds ≡ advanced g table s v (new_of g s v kinds) (completed g s v kinds).at.used (completed g s v kinds).units
        unfolding stepped
        goes =
            rw (stepped, position, predicted-any s v kinds there, eq-eqb (completed g s v kinds).at.stopped 0 going) refl

        pub is_no_room : length v.rows / row_words ≤ kept_of g s v kinds + 1 → stepped g table s v kinds ≡ kept sets_full s v
        unfolding advanced
        is_no_room l = rw goes (rw (advanced, le-ltb (kept_of g s v kinds + 1) (length v.rows / row_words) l) refl)

        pub is_done : kept_of g s v kinds + 1 < length v.rows / row_words → stepped g table s v kinds ≡ following g table s v kinds
        unfolding advanced
        is_done l = rw goes (rw (advanced, lt-ltb (kept_of g s v kinds + 1) (length v.rows / row_words) l) refl)

  -- A step goes one of these ways.
  pub ways : Ways g table s v kinds (stepped g table s v kinds)
  ways =
      either_way (is_position g.tokens kinds)
      (λ position.
      either_way (any_predicted v.rows s.set kinds) (λ is. goes_on position (any_predicted_lem s v kinds is))
      (λ is.
      let n : Predicted s v kinds → ⊥ = λ there. false≢true (sym is ∙ predicted-any s v kinds there) in
      subst (Ways g table s v kinds) (sym (is_not_predicted position n)) (not_predicted_lem position n)))
      (λ none. subst (Ways g table s v kinds) (sym (is_no_token none)) (no_token_lem none))
    where
      goes_on : is_position g.tokens kinds ≡ true → Predicted s v kinds → Ways g table s v kinds (stepped g table s v kinds)
      goes_on position there = elim (ℕ_discrete (completed g s v kinds).at.stopped 0) [
        | no n ↦ subst (Ways g table s v kinds) (sym (is_full position there n)) (full position there n)
        | yes going ↦
            elim (dec_lt (kept_of g s v kinds + 1) (length v.rows / row_words)) [
              | yes l ↦ subst (Ways g table s v kinds) (sym (is_done position there going l)) (done position there going l)
              | no m ↦
                  let l : length v.rows / row_words ≤ kept_of g s v kinds + 1 = omega arith in
                  subst (Ways g table s v kinds) (sym (is_no_room position there going l)) (no_room position there going l)
            ]
      ]
