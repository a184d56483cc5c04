-- Positions of one kind each: what the answers tell of positions is there what they tell of token strings.
use mathlib.Core.Path.{◌≡◌, sym, ap, ap₂, ◌∙◌, subst}
use mathlib.Core.Bool.{Bool, true}
use mathlib.Core.Logic.{◌↔◌}
use mathlib.Core.List.{List, [], ◌∷◌, ◌++◌}
use Prim.Native.Nat.{ℕ, suc, ◌<◌}
use native.Mathlib.Omega.{arith}
use lib.ListN.{length, get_or, take, length-map}
use Rattle.grammar.specs.Rules.{Grammar}
use Rattle.grammar.specs.Sentences.{Begins}
use Rattle.earley.specs.Positions.{Positions, SpellBeginning, plain}
use Rattle.earley.proofs.Spelling.{plain-behind, plain_on, plain-taken, plain_at}
use Rattle.earley.proofs.Plain.{plain-sentence, plain_beginning}
use Rattle.demands.specs.Positions.{is_position}
use Rattle.demands.specs.Sentences.{Judged, RunJudged, FinishedJudged}
use Rattle.demands.specs.Tokens.{TokenJudged, TokensJudged, TokensFinished}
use Rattle.demands.proofs.Positions.{one_position}

-- As many positions as tokens.
same_length : (us : List ℕ) → length (plain us) ≡ length us
same_length us = length-map us (λ t. t ∷ [])

module _ (ts us : List ℕ) where
  -- The positions before a run and the first of the run,
  taken-plain : (k : ℕ) → plain ts ++ take k (plain us) ≡ plain (ts ++ take k us)
  taken-plain k = ap (λ (b : Positions). plain ts ++ b) (plain-taken k us) ∙ plain-behind ts (take k us)

  -- and with the one behind them,
  next-plain : (k : ℕ) → k < length us → (plain ts ++ take k (plain us)) ++ (get_or (plain us) k [] ∷ []) ≡ plain ((ts ++ take k us) ++ (get_or us k 0 ∷ []))
  next-plain k l = ap₂ (λ (a : Positions) (kinds : List ℕ). a ++ (kinds ∷ [])) (taken-plain k) (plain_at us k l) ∙ plain_on (ts ++ take k us) (get_or us k 0)

-- which is a position exactly when it is a token.
next-position : (n : ℕ) (us : List ℕ) (k : ℕ) → k < length us → (is_position n (get_or (plain us) k []) ≡ true) ↔ (get_or us k 0 < n)
next-position n us k l = subst (λ (kinds : List ℕ). (is_position n kinds ≡ true) ↔ (get_or us k 0 < n)) (sym (plain_at us k l)) (one_position n (get_or us k 0))

module _ {g : Grammar} where
  -- What positions that are tokens begin.
  begins-plain : {a : Positions} {ts : List ℕ} → a ≡ plain ts → SpellBeginning g a ↔ Begins g ts
  begins-plain {ts = ts} is = subst (λ (b : Positions). SpellBeginning g b ↔ Begins g ts) (sym is) (plain_beginning ts)

  -- A position is judged as a token is, where the positions with it are the tokens with that one.
  judged_plain : {a : Positions} {kinds ts : List ℕ} {t n : ℕ} → a ++ (kinds ∷ []) ≡ plain (ts ++ (t ∷ [])) → Judged g a kinds n ↔ TokenJudged g ts t n
  judged_plain {a} {kinds} {ts} {t} is =
      let begins : SpellBeginning g (a ++ (kinds ∷ [])) ↔ Begins g (ts ++ (t ∷ [])) = begins-plain is in (
        (λ j. record {
          impossible = ((λ e b. j.impossible.0 e (begins.1 b)), (λ none. j.impossible.1 (λ b. none (begins.0 b))));
          possible = λ n. begins.0 (j.possible n);
          otherwise = j.otherwise;
        }),
        (λ j. record {
          impossible = ((λ e b. j.impossible.0 e (begins.0 b)), (λ none. j.impossible.1 (λ b. none (begins.1 b))));
          possible = λ n. begins.1 (j.possible n);
          otherwise = j.otherwise;
        }),
      )

  -- A POSITION OF ONE KIND IS JUDGED AS ITS TOKEN IS,
  pub judged_one : (ts : List ℕ) {t n : ℕ} → Judged g (plain ts) (t ∷ []) n ↔ TokenJudged g ts t n
  judged_one ts {t} = judged_plain (plain_on ts t)

  -- A RUN OVER SUCH POSITIONS AS ONE OVER THEIR TOKENS IS,
  pub judged_run : (ts us : List ℕ) {n taken : ℕ} → RunJudged g (plain ts) (plain us) n taken ↔ TokensJudged g ts us n taken
  judged_run ts us {n} {taken} = (
    (λ j. record {
      few = omega (arith, j.few, same_length us);
      goes_on = λ i l. (begins-plain (taken-plain ts us (suc i))).0 (j.goes_on i l);
      whole = ((λ all. j.whole.0 (all ∙ sym (same_length us))), (λ zero. j.whole.1 zero ∙ same_length us));
      at_refusal = λ l small.
          (judged_plain (next-plain ts us taken l)).0 (j.at_refusal (omega (arith, same_length us)) ((next-position g.tokens us taken l).1 small));
    }),
    (λ j. record {
      few = omega (arith, j.few, same_length us);
      goes_on = λ i l. (begins-plain (taken-plain ts us (suc i))).1 (j.goes_on i l);
      whole = ((λ all. j.whole.0 (all ∙ same_length us)), (λ zero. j.whole.1 zero ∙ sym (same_length us)));
      at_refusal = λ l position.
          let there : taken < length us = omega (arith, same_length us) in
          (judged_plain (next-plain ts us taken there)).1 (j.at_refusal there ((next-position g.tokens us taken there).0 position));
    }),
  )

  -- AND FINISHED IS TOLD OF THEM AS OF THEIR TOKENS.
  pub judged_finished : (ts : List ℕ) {n : ℕ} {yes : Bool} → FinishedJudged g (plain ts) n yes ↔ TokensFinished g ts n yes
  judged_finished ts = (
    (λ j. record { done = j.done; sentence = ((λ e. (plain-sentence ts).0 (j.sentence.0 e)), (λ s. j.sentence.1 ((plain-sentence ts).1 s))) }),
    (λ j. record { done = j.done; sentence = ((λ e. (plain-sentence ts).1 (j.sentence.0 e)), (λ s. j.sentence.1 ((plain-sentence ts).0 s))) }),
  )
