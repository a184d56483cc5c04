-- What the engines' calls answer, put together.
use Rattle.std.proofs.Common.{◌≡◌, refl, sym, subst, Bool, List, ℕ, ◌≤◌, ◌<◌, mul-le-mul, arith, length, Result, Ok, Err, rules}
use Rattle.laws.specs.Fills.{too_short}
use Rattle.grammar.specs.Rules.{Grammar}
use Rattle.grammar.specs.File.{grammar_of}
use Rattle.parse.specs.declared.State.{State}
use Rattle.parse.specs.Words.{Words, set_room}
use Rattle.std.specs.Result.{IsOk}
use Rattle.recognizer.specs.declared.Refusal.{Refusal}
use Rattle.recognizer.specs.Answers.{outcome_of}
use Rattle.recognizer.proofs.Answered.{number-some}
use Rattle.demands.specs.Steps.{Outcome}
use Rattle.demands.specs.Calls.{Checked, StartFault, Starts}
use Rattle.demands.proofs.Agree.{no_file_fault}
use Rattle.plain.specs.declared.Told.{Told}
use Rattle.plain.specs.declared.Refusal as plains
use Rattle.plain.specs.Table.{needed}
use Rattle.plain.specs.Calls.{Settles, Tables, Tells}
use Rattle.plain.specs.Answers as told
use Rattle.plain.proofs.Standing.{twice}
use Rattle.agreement.specs.Compared.{Plain}
use Rattle.compare.specs.Engines.{most_tokens}

-- A start of a grammar that is accepted, with room for a set, is not refused.
start_done : {file : List ℕ} {s : State} {w : Words} {g : Grammar} {o : Outcome} → Checked file g → 0 < set_room w → Starts file s w o → o.number ≡ 0
start_done checked room (Starts.refused (StartFault.file_fault fault)) = absurd (no_file_fault checked fault)
start_done checked room (Starts.refused (StartFault.no_sets same none)) = absurd (omega (arith, room, none))
start_done checked room (Starts.done sound some) = refl

pub not_refused : {file : List ℕ} {s : State} {w v : Words} {g : Grammar} (r : Result State Refusal) → Checked file g → 0 < set_room w → Starts file s w (outcome_of s r v) → IsOk r
not_refused (Ok now) checked room starts = search rules
not_refused (Err why) checked room starts = absurd (number-some why (start_done checked room starts))

-- The table of 32 tokens has 4,224 words, those of fewer no more.
words_enough : (n : ℕ) → n ≤ most_tokens → needed n ≤ 4224
words_enough n few = omega (arith, twice n n (omega arith), mul-le-mul {n₁ = n} {m₁ = n} {n₂ = 32} {m₂ = 32} few few)

-- With so many words and so few tokens the plain engine is refused neither with 13 nor with 22.
module _ {file ts before : List ℕ} (long : length before ≡ 4224) (few : length ts ≤ most_tokens) where
  enough : {number count : ℕ} {left : List ℕ} → Tables file ts before number count left → (number ≡ too_short → ⊥) × (number ≡ 22 → ⊥)
  enough (Tables.malformed m) = ((λ e. omega (arith, e)), (λ e. omega (arith, e)))
  enough (Tables.broken m b) = ((λ e. omega (arith, e)), (λ e. omega (arith, e)))
  enough (Tables.accepted m a (Settles.no_token_lem o)) = ((λ e. omega (arith, e)), (λ e. omega (arith, e)))
  enough (Tables.accepted m a (Settles.too_many o many)) = absurd (omega (arith, many, few))
  enough (Tables.accepted m a (Settles.short o f short)) = absurd (omega (arith, short, long, words_enough (length ts) few))
  enough (Tables.accepted m a (Settles.done o f r t)) = ((λ e. omega (arith, e)), (λ e. omega (arith, e)))

  -- What the plain engine says.
  pub plain-says : (r : Result Told plains.Refusal) {left : List ℕ} {yes : Bool} → Tables file ts before (told.told_number r) (told.told_count r) left
      → Tells (grammar_of file) ts (told.told_number r) (told.says_yes r) → yes ≡ told.says_yes r → Plain file ts yes
  plain-says r {left = left} tables tells says = record {
    before = before;
    left = left;
    number = told.told_number r;
    count = told.told_count r;
    tables = tables;
    tells = subst (Tells (grammar_of file) ts (told.told_number r)) (sym says) tells;
    words_enough = (enough tables).0;
    few_enough = (enough tables).1;
  }
