-- A run's turns: what is left of the positions gives what all of them give.
use mathlib.Core.Path.{◌≡◌, sym, ap, ◌∙◌, subst}
use mathlib.Core.List.{List, [], ◌∷◌}
use Prim.Native.Nat.{ℕ, ◌+◌, ◌≤◌}
use native.Mathlib.Omega.{arith}
use Rattle.bits.specs.Width.{row_words}
use Rattle.grammar.specs.Rules.{Grammar}
use Rattle.grammar.specs.Prediction.{Predicts}
use Rattle.parse.specs.declared.State.{State}
use Rattle.parse.specs.declared.Words.{Words as Lent}
use Rattle.parse.specs.Words.{Kept, Words, set_room, within, beyond, behind}
use Rattle.parse.proofs.Capacities.{SameSizes, split-whole, within_new, beyond-new}
use Rattle.earley.specs.Positions.{Positions}
use Rattle.demands.specs.Steps.{Outcome, Ended, stepped, ran}
use Rattle.demands.specs.Calls.{in_place, in_place_ended}
use Rattle.recognizer.specs.inner.Steppable.{Steppable}
use Rattle.recognizer.specs.declared.Refusal.{Refusal}
use Rattle.recognizer.specs.Answers.{outcome_of, ended_of}
use Rattle.recognizer.proofs.Answered.{number-some}
use Rattle.std.specs.Prelude.{Some, None, Result, Ok, Err}
use Rattle.recognizer.proofs.Carving.{some-set, place_sizes}
use Rattle.demands.proofs.Cut.{Cut, cut-same, sizes_refl, sizes_trans}
use Rattle.demands.proofs.Refusing.{step_sizes, step_well}
use Rattle.demands.proofs.Running.{ran_on, ran_off}

-- Words that are still the host's stay so.
pub kept_on : (a b c : Lent) → Kept a b → Kept b c → Kept a c
kept_on a b c p q = (q.0 ∙ p.0, q.1 ∙ p.1, q.2 ∙ p.2, q.3 ∙ p.3, q.4 ∙ p.4)

-- `n` positions before a run.
abbrev pub before : ℕ → Ended → Ended
before n e = record { outcome = e.outcome; taken = n + e.taken }

-- What a run comes to, with words behind.
abbrev put_back : Words → Ended → Ended
put_back b e = record { outcome = record { number = e.outcome.number; state = e.outcome.state; words = behind e.outcome.words b }; taken = e.taken }

-- A run over `a` from `s₀` and `w₀` has taken `n` positions, stands at `s` and `w`, and has `rest` left.
pub record Going (g : Grammar) (table : List (List ℕ)) (s₀ : State) (w₀ : Words) (a : Positions) (s : State) (w : Words) (n : ℕ) (rest : Positions) : Type 0 where
  pub sizes : SameSizes w w₀
  pub steppable : Steppable g table s (within w)
  pub gives : before n (in_place_ended w (ran g table s (within w) rest)) ≡ in_place_ended w₀ (ran g table s₀ (within w₀) a)

-- Nothing before, or nothing behind.
none_before : (n : ℕ) → 0 + n ≡ n
none_before n = omega arith

none_behind : (n : ℕ) → n ≡ n + 0
none_behind n = omega arith

-- It begins so.
pub going_first : {g : Grammar} {table : List (List ℕ)} {s : State} {w : Words} (a : Positions) → Steppable g table s (within w) → Going g table s w a s w 0 a
going_first {g} {table} {s} {w} a h = record {
  sizes = sizes_refl w;
  steppable = h;
  gives = λ k. record { outcome = whole.outcome; taken = none_before whole.taken k };
}
  where
    whole : Ended
    whole = in_place_ended w (ran g table s (within w) a)

module _ {g : Grammar} {table : List (List ℕ)} {s₀ : State} {w₀ : Words} {a : Positions} {s : State} {w : Words} {n : ℕ} {rest : Positions}
    (h : Going g table s₀ w₀ a s w n rest) where
  -- The run ends with the positions.
  pub going_end : rest ≡ [] → ended_of (record { state = s; taken = n; stopped = None }) w ≡ in_place_ended w₀ (ran g table s₀ (within w₀) a)
  unfolding ran
  going_end none =
      (λ k. record { outcome = record { number = 0; state = s; words = sym (split-whole w) k }; taken = none_behind n k })
      ∙ ap (λ (b : Positions). before n (in_place_ended w (ran g table s (within w) b))) (sym none)
      ∙ h.gives

  module _ {kinds : List ℕ} {others : Positions} (next : rest ≡ kinds ∷ others) where
    abbrev after : Outcome
    after = stepped g table s (within w) kinds

    -- It ends at the first refusal.
    off : (o : Outcome) → o ≡ in_place w after → (o.number ≡ 0 → ⊥) → record { outcome = o; taken = n } ≡ in_place_ended w₀ (ran g table s₀ (within w₀) a)
    off o came some =
        (λ k. record { outcome = came k; taken = none_behind n k })
        ∙ ap (λ (e : Ended). before n (in_place_ended w e)) (sym (ran_off g table s (within w) kinds others (λ zero. some (ap (λ (p : Outcome). p.number) came ∙ zero))))
        ∙ ap (λ (b : Positions). before n (in_place_ended w (ran g table s (within w) b))) (sym next)
        ∙ h.gives

    module _ (predicts : Predicts g row_words table) where
      cut : Cut (within w)
      cut = record {
        few_items = h.steppable.few_items;
        few_entries = h.steppable.few_entries;
        whole_entries = h.steppable.whole_entries;
        few_units = h.steppable.few_units;
        rowed = h.steppable.rowed;
      }

      same : SameSizes after.words (within w)
      same = step_sizes h.steppable.accepted h.steppable.well_formed cut kinds predicts

      some : 1 ≤ set_room w
      some = some-set w h.steppable.well_formed

      -- A step's words stand within the capacities, with the same words past them, ..
      inside : within (in_place w after).words ≡ after.words
      inside = within_new w after.words some same

      past : beyond (in_place w after).words ≡ beyond w
      past = beyond-new w after.words some same

      -- .. and the next step can be taken on them.
      can_step : Steppable g table after.state after.words
      can_step = record {
        accepted = h.steppable.accepted;
        shape = h.steppable.shape;
        well_formed = step_well h.steppable.accepted h.steppable.well_formed cut kinds predicts;
        rowed = (cut-same same cut).rowed;
        few_items = (cut-same same cut).few_items;
        few_entries = (cut-same same cut).few_entries;
        whole_entries = (cut-same same cut).whole_entries;
        few_units = (cut-same same cut).few_units;
      }

      on : after.number ≡ 0 → Going g table s₀ w₀ a after.state (in_place w after).words (n + 1) others
      on zero = record {
        sizes = sizes_trans (place_sizes w after.words same) h.sizes;
        steppable = subst (Steppable g table after.state) (sym inside) can_step;
        gives =
            (λ k. before (n + 1) (put_back (past k) (left (inside k))))
            ∙ (λ k. record { outcome = (put_back (beyond w) (left after.words)).outcome; taken = counts k })
            ∙ ap (λ (e : Ended). before n (in_place_ended w e)) (sym (ran_on g table s (within w) kinds others zero))
            ∙ ap (λ (b : Positions). before n (in_place_ended w (ran g table s (within w) b))) (sym next)
            ∙ h.gives;
      }
        where
          left : Words → Ended
          left v = ran g table after.state v others

          counts : n + 1 + (left after.words).taken ≡ n + ((left after.words).taken + 1)
          counts = omega arith

    module _ {r : Result State Refusal} {left : Words} (came : outcome_of s r left ≡ in_place w after) where
      comes : {r' : Result State Refusal} → r ≡ r' → outcome_of s r' left ≡ in_place w after
      comes is = ap (λ (x : Result State Refusal). outcome_of s x left) (sym is) ∙ came

      pub going_off : {why : Refusal} → r ≡ Err why
          → ended_of (record { state = s; taken = n; stopped = Some why }) left ≡ in_place_ended w₀ (ran g table s₀ (within w₀) a)
      going_off {why} is = off (outcome_of s (Err why) left) (comes is) (number-some why)

      -- It goes on behind a position that is accepted.
      pub going_on : Predicts g row_words table → {s' : State} → r ≡ Ok s' → Going g table s₀ w₀ a s' left (n + 1) others
      going_on predicts {s'} is =
          let here : outcome_of s (Ok s') left ≡ in_place w after = comes is in
          subst (λ (p : Outcome). Going g table s₀ w₀ a p.state p.words (n + 1) others) (sym here) (on predicts (sym (ap (λ (p : Outcome). p.number) here)))
