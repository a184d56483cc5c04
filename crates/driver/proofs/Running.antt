-- Runs of parts.
use Rattle.std.proofs.Common.{◌≡◌, refl, sym, ap, ◌∙◌, subst, Bool, true, false, List, [], ◌∷◌, ℕ, suc, ◌+◌, ◌*◌, ◌≤◌, arith, eqb, le-ltb, length}
use native.Mathlib.Decide.{ℕ_discrete}
use lib.ListN.{length-map}
use Rattle.grammar.specs.Rules.{Grammar}
use Rattle.parse.specs.declared.State.{State}
use Rattle.parse.specs.Words.{Words, within}
use Rattle.earley.specs.Positions.{Positions, plain}
use Rattle.demands.specs.Positions.{is_position}
use Rattle.demands.specs.Steps.{Outcome, Ended, no_token, one_more, stepped, ran}
use Rattle.demands.specs.Calls.{CallFault, Ready, Runs}
use Rattle.demands.specs.Calls.Runs.{refused, done}
use Rattle.demands.proofs.Running.{ran_on, ran_off}
use Rattle.demands.proofs.Singles.{call_some}
use Rattle.demands.proofs.Ways.{is_no_token}
use Rattle.programs.specs.Tokens.{foreign, tokens_of}
use Rattle.driver.specs.Parts.{part_bytes, part_tokens}
use Rattle.programs.proofs.Decoding.{halves}

-- One position more, or a refusal, is at most one more taken.
more_by :
    (went : Bool) (o : Outcome) (e : Ended) (n : ℕ) → e.taken ≤ n
    → (elim went as (λ (b : Bool). Ended) [ true ↦ one_more e | false ↦ record { outcome = o; taken = 0 } ]).taken ≤ suc n
more_by true o e n h = omega (arith, h)
more_by false o e n h = omega arith

-- A run takes no more positions than it is given.
ran-few : (g : Grammar) (table : List (List ℕ)) (s : State) (v : Words) (a : Positions) → (ran g table s v a).taken ≤ length a
unfolding ran
ran-few g table s v [] = omega arith
ran-few g table s v (kinds ∷ a) =
    more_by (eqb (stepped g table s v kinds).number 0) (stepped g table s v kinds)
    (ran g table (stepped g table s v kinds).state (stepped g table s v kinds).words a) (length a)
    (ran-few g table (stepped g table s v kinds).state (stepped g table s v kinds).words a)

-- And so no more tokens.
runs-few : {file : List ℕ} {s : State} {w : Words} (ts : List ℕ) {e : Ended} → Runs file s w (plain ts) e → e.taken ≤ length ts
runs-few ts (refused fault) = omega arith
runs-few {s = s} {w = w} ts (done {g} {table} ready) = omega (arith, ran-few g table s (within w) (plain ts), length-map ts (λ t. t ∷ []))

-- A run that is not refused takes all that it is given.
ran-all :
    (g : Grammar) (table : List (List ℕ)) (s : State) (v : Words) (a : Positions) → (ran g table s v a).outcome.number ≡ 0
    → (ran g table s v a).taken ≡ length a
unfolding ran
ran-all g table s v [] zero = refl
ran-all g table s v (kinds ∷ a) zero =
    let rest = ran-all g table (stepped g table s v kinds).state (stepped g table s v kinds).words a in
    elim (ℕ_discrete (stepped g table s v kinds).number 0) [
      | yes on ↦
          let same = ran_on g table s v kinds a on in
          let more = ap (λ (e : Ended). e.taken) same in
          omega (arith, more, rest (sym (ap (λ (e : Ended). e.outcome.number) same) ∙ zero))
      | no off ↦ absurd (off (sym (ap (λ (e : Ended). e.outcome.number) (ran_off g table s v kinds a off)) ∙ zero))
    ]

pub runs-all : {file : List ℕ} {s : State} {w : Words} (ts : List ℕ) {e : Ended} → Runs file s w (plain ts) e → e.outcome.number ≡ 0 → e.taken ≡ length ts
runs-all ts (refused fault) zero = absurd (call_some fault zero)
runs-all {s = s} {w = w} ts (done {g} {table} ready) zero = ran-all g table s (within w) (plain ts) zero ∙ length-map ts (λ t. t ∷ [])

-- A run over the tokens of bytes never takes a lone byte: it stops there with 5.
record Whole (bytes : List ℕ) (e : Ended) : Type 0 where
  pub few : 2 * e.taken ≤ length bytes
  pub five : length bytes ≡ 2 * e.taken + 1 → e.outcome.number ≡ no_token

ran-whole :
    (g : Grammar) (table : List (List ℕ)) (s : State) (v : Words) (bytes : List ℕ) → g.tokens ≤ foreign
    → Whole bytes (ran g table s v (plain (tokens_of bytes)))
unfolding tokens_of ran is_position
ran-whole g table s v [] small = record { few = omega arith; five = λ lone. absurd (omega (arith, lone)) }
ran-whole g table s v (one ∷ []) small =
    let is = ap (λ (o : Outcome). o.number) (is_no_token g table s v (foreign ∷ []) (le-ltb foreign g.tokens small)) in
    subst (Whole (one ∷ [])) (sym (ran_off g table s v (foreign ∷ []) [] (λ zero. omega (arith, is, zero))))
    (record { few = omega arith; five = λ lone. is })
ran-whole g table s v (high ∷ (low ∷ rest)) small =
    let t : List ℕ = (high * 256 + low) ∷ [] in
    let behind = ran-whole g table (stepped g table s v t).state (stepped g table s v t).words rest small in
    elim (ℕ_discrete (stepped g table s v t).number 0) [
      | yes on ↦
          subst (Whole (high ∷ (low ∷ rest))) (sym (ran_on g table s v t (plain (tokens_of rest)) on))
          (record { few = omega (arith, behind.few); five = λ lone. behind.five (omega (arith, lone)) })
      | no off ↦
          subst (Whole (high ∷ (low ∷ rest))) (sym (ran_off g table s v t (plain (tokens_of rest)) off))
          (record { few = omega arith; five = λ lone. absurd (omega (arith, lone)) })
    ]

-- 65535 is no token of a grammar that is accepted.
ready_whole : {file : List ℕ} {s : State} {w : Words} {g : Grammar} {table : List (List ℕ)} (bytes : List ℕ) → Ready file s w g table
    → Whole bytes (ran g table s (within w) (plain (tokens_of bytes)))
ready_whole {s = s} {w = w} {g = g} {table = table} bytes ready =
    let accepted = ready.sound.checked.accepted in
    ran-whole g table s (within w) bytes (omega (arith, accepted.room, accepted.few_symbols))

pub runs-whole : (bytes : List ℕ) {file : List ℕ} {s : State} {w : Words} {e : Ended} → Runs file s w (plain (tokens_of bytes)) e → 2 * e.taken ≤ length bytes
runs-whole bytes (refused fault) = omega arith
runs-whole bytes (done ready) = (ready_whole bytes ready).few

pub runs_lone : (bytes : List ℕ) {file : List ℕ} {s : State} {w : Words} {e : Ended} → ((n : ℕ) → CallFault file s w n → ⊥) → Runs file s w (plain (tokens_of bytes)) e
    → length bytes ≡ 2 * e.taken + 1 → e.outcome.number ≡ no_token
runs_lone bytes faultless (refused fault) lone = absurd (faultless _ fault)
runs_lone bytes faultless (done ready) lone = (ready_whole bytes ready).five lone

-- A run of equal tokens.
pub runs_same :
    {file : List ℕ} {s : State} {w : Words} {e : Ended} (ts part : List ℕ) → ts ≡ part → Runs file s w (plain ts) e → Runs file s w (plain part) e
runs_same {file} {s} {w} {e} ts part same r = subst (λ (l : List ℕ). Runs file s w (plain l) e) same r

-- It takes no more tokens than a part has.
pub part-few : {file : List ℕ} {s : State} {w : Words} {e : Ended} (part : List ℕ) → Runs file s w (plain (tokens_of part)) e → length part ≤ part_bytes → e.taken ≤ part_tokens
part-few part runs few = omega (arith, runs-few (tokens_of part) runs, (halves part).few, few)
