-- The number and the values that an answer comes to settle the answer itself.
use mathlib.Core.Path.{◌≡◌, refl, sym, ap, ◌∙◌}
use mathlib.Core.List.{[], ◌∷◌}
use Prim.Native.Nat.{ℕ, ◌-◌, ◌<◌}
use native.Mathlib.Omega.{arith}
use lib.ListN.{get_or}
use Rattle.std.specs.Prelude.{Option, Some, None, Result, Ok, Err}
use Rattle.laws.proofs.Decides.{false_true}
use Rattle.parse.specs.declared.State.{State}
use Rattle.parse.specs.Words.{Words}
use Rattle.recognizer.specs.declared.Refusal.{Refusal}
use Rattle.recognizer.specs.declared.Refusal.TheVariants.{Malformed, Broken, NoSets, IllFormed, NoToken, NotPredicted, ItemsFull, QueueFull, SetsFull, StoreFull}
use Rattle.recognizer.specs.declared.Ran.{Ran}
use Rattle.demands.specs.Steps.{Outcome, Ended}
use Rattle.recognizer.specs.Answers.{refusal_number, number_of, stop_number, state_of, says_yes, says_handle, outcome_of, ended_of}

-- The refusals by their numbers: 1 to 9, and any other for 14.
abbrev refusal_of : ℕ → Refusal
refusal_of n = get_or (Malformed ∷ Broken ∷ NoSets ∷ IllFormed ∷ NoToken ∷ NotPredicted ∷ ItemsFull ∷ QueueFull ∷ SetsFull ∷ []) (n - 1) StoreFull

refusal_of_lem : (r : Refusal) → refusal_of (refusal_number r) ≡ r
refusal_of_lem Malformed = refl
refusal_of_lem Broken = refl
refusal_of_lem NoSets = refl
refusal_of_lem IllFormed = refl
refusal_of_lem NoToken = refl
refusal_of_lem NotPredicted = refl
refusal_of_lem ItemsFull = refl
refusal_of_lem QueueFull = refl
refusal_of_lem SetsFull = refl
refusal_of_lem StoreFull = refl

-- A refusal's number is its own, and not that of done.
pub refusal-settled : (r r' : Refusal) → refusal_number r ≡ refusal_number r' → r ≡ r'
refusal-settled r r' e = sym (refusal_of_lem r) ∙ ap refusal_of e ∙ refusal_of_lem r'

refusal-some : (r : Refusal) → 0 < refusal_number r
refusal-some Malformed = omega arith
refusal-some Broken = omega arith
refusal-some NoSets = omega arith
refusal-some IllFormed = omega arith
refusal-some NoToken = omega arith
refusal-some NotPredicted = omega arith
refusal-some ItemsFull = omega arith
refusal-some QueueFull = omega arith
refusal-some SetsFull = omega arith
refusal-some StoreFull = omega arith

pub number-some : (why : Refusal) → refusal_number why ≡ 0 → ⊥
number-some why e = omega (arith, e, refusal-some why)

-- Of start and token,
answer-same : (s : State) (a a' : Result State Refusal) → number_of a ≡ number_of a' → state_of s a ≡ state_of s a' → a ≡ a'
answer-same s (Ok t) (Ok t') n e = ap Ok e
answer-same s (Ok t) (Err r) n e = absurd (omega (arith, n, refusal-some r))
answer-same s (Err r) (Ok t) n e = absurd (omega (arith, n, refusal-some r))
answer-same s (Err r) (Err r') n e = ap Err (refusal-settled r r' n)

pub answer-settled : (s : State) (a a' : Result State Refusal) (w w' : Words) → outcome_of s a w ≡ outcome_of s a' w' → (a ≡ a') × (w ≡ w')
answer-settled s a a' w w' e =
    (answer-same s a a' (ap (λ (o : Outcome). o.number) e) (ap (λ (o : Outcome). o.state) e), ap (λ (o : Outcome). o.words) e)

-- of a run,
stop-same : (a a' : Option Refusal) → stop_number a ≡ stop_number a' → a ≡ a'
stop-same None None n = refl
stop-same None (Some r) n = absurd (omega (arith, n, refusal-some r))
stop-same (Some r) None n = absurd (omega (arith, n, refusal-some r))
stop-same (Some r) (Some r') n = ap Some (refusal-settled r r' n)

pub run_settled : (r r' : Ran) (w w' : Words) → ended_of r w ≡ ended_of r' w' → (r ≡ r') × (w ≡ w')
run_settled r r' w w' e = (
  (λ k. record {
    state = ap (λ (o : Ended). o.outcome.state) e k;
    taken = ap (λ (o : Ended). o.taken) e k;
    stopped = stop-same r.stopped r'.stopped (ap (λ (o : Ended). o.outcome.number) e) k;
  }),
  ap (λ (o : Ended). o.outcome.words) e,
)

-- and of finished.
pub whether_settled : (a a' : Result (Option ℕ) Refusal) → number_of a ≡ number_of a' → says_yes a ≡ says_yes a' → says_handle a ≡ says_handle a' → a ≡ a'
whether_settled (Ok (Some h)) (Ok (Some h')) n e same = ap (λ (x : ℕ). Ok (Some x)) same
whether_settled (Ok (Some h)) (Ok None) n e same = absurd (false_true (sym e))
whether_settled (Ok (Some h)) (Err r) n e same = absurd (false_true (sym e))
whether_settled (Ok None) (Ok (Some h)) n e same = absurd (false_true e)
whether_settled (Ok None) (Ok None) n e same = refl
whether_settled (Ok None) (Err r) n e same = absurd (omega (arith, n, refusal-some r))
whether_settled (Err r) (Ok (Some h)) n e same = absurd (false_true e)
whether_settled (Err r) (Ok None) n e same = absurd (omega (arith, n, refusal-some r))
whether_settled (Err r) (Err r') n e same = ap Err (refusal-settled r r' n)
