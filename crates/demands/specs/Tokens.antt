-- Positions of one kind each: the step of a token, and what the answers tell of token strings.
use Rattle.std.specs.Prelude.{◌≡◌, Bool, true, false, ◌↔◌, List, [], ◌∷◌, ◌++◌, ℕ, suc, ◌≤◌, ◌<◌, length, get_or, take, eqb, ltb}
use Rattle.grammar.specs.Rules.{Grammar}
use Rattle.grammar.specs.Sentences.{Sentence, Begins}
use Rattle.parse.specs.declared.State.{State}
use Rattle.parse.specs.Words.{Words}
use Rattle.node.specs.declared.Node.TheVariants.{Evaluated}
use Rattle.completion.specs.Pass.{Pass, pass_over, append}
use Rattle.completion.specs.Complete.{predicted, complete}
use Rattle.completion.specs.Sums.{complete_all_sums}
use Rattle.advance.specs.NewItems.{new_items}
use Rattle.demands.specs.Steps.{Outcome, no_token, not_predicted, advanced}
use Rattle.demands.specs.Sentences.{AcceptedOrNoRoom}

-- Steps 2 and 3 of a token: its node is written, complete (e, t), and then sum after sum.
abbrev pub token_completed : Grammar → State → Words → ℕ → Pass
token_completed g s v t =
    complete_all_sums g.rules v.starts v.rows
    (complete g.rules v.starts v.rows s.set t s.used
    (append (Evaluated t) (pass_over (record { stopped = 0; items = s.items; queued = 0; used = s.used }) v.items v.queue v.store)))

-- A token: step 1 and the others. A refusal leaves state and words as they were.
unfoldable pub token_stepped : Grammar → List (List ℕ) → State → Words → ℕ → Outcome
token_stepped g table s v t =
    elim (ltb t g.tokens) [
      | false ↦ record { number = no_token; state = s; words = v }
      | true ↦
          elim (predicted v.rows s.set t) [
            | false ↦ record { number = not_predicted; state = s; words = v }
            | true ↦
                elim (eqb (token_completed g s v t).at.stopped 0) [
                  | false ↦ record { number = (token_completed g s v t).at.stopped; state = s; words = v }
                  | true ↦
                      advanced g table s v (new_items g.rules (token_completed g s v t).items s.items (token_completed g s v t).at.items)
                      (token_completed g s v t).at.used (token_completed g s v t).units
                ]
          ]
    ]

-- Of the ordinary token `t`, with the tokens `ts` accepted: it is refused as impossible exactly when no sentence begins with those tokens
-- and it; otherwise it is accepted or meets a room refusal.
pub record TokenJudged (g : Grammar) (ts : List ℕ) (t : ℕ) (number : ℕ) : Type 0 where
  pub impossible : (number ≡ not_predicted) ↔ (Begins g (ts ++ (t ∷ [])) → ⊥)
  pub possible : (number ≡ not_predicted → ⊥) → Begins g (ts ++ (t ∷ []))
  pub otherwise : (number ≡ not_predicted → ⊥) → AcceptedOrNoRoom number

-- The same of a run: each token that was taken goes on with a sentence, and the token behind them, if there is one, was refused so.
pub record TokensJudged (g : Grammar) (ts us : List ℕ) (number taken : ℕ) : Type 0 where
  pub few : taken ≤ length us
  pub goes_on : (i : ℕ) → i < taken → Begins g (ts ++ take (suc i) us)
  pub whole : (taken ≡ length us) ↔ (number ≡ 0)
  pub at_refusal : taken < length us → get_or us taken 0 < g.tokens → TokenJudged g (ts ++ take taken us) (get_or us taken 0) number

-- Finished is reported exactly when the accepted tokens are a sentence.
pub record TokensFinished (g : Grammar) (ts : List ℕ) (number : ℕ) (yes : Bool) : Type 0 where
  pub done : number ≡ 0
  pub sentence : (yes ≡ true) ↔ Sentence g ts
