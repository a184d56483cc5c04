-- Parts read one after another: they are one run, the lent slices keep their lengths, and the count of tokens stays a word.
use Rattle.std.proofs.Common.{◌≡◌, refl, sym, ap, subst, ◌∙◌, List, [], ◌++◌, append-nil, append_assoc, ℕ, suc, ◌+◌, ◌-◌, ◌*◌, ◌≤◌, ◌<◌, arith, length, length-append, Option, Some, None, true, false}
use Rattle.parse.specs.declared.State.{State}
use Rattle.parse.specs.Words.{Words}
use Rattle.std.specs.Option.{is_some}
use Rattle.recognizer.specs.declared.Refusal.{Refusal}
use Rattle.recognizer.specs.Answers.{stop_number}
use Rattle.earley.specs.Positions.{Positions, plain}
use Rattle.earley.proofs.Spelling.{plain-behind}
use Rattle.demands.specs.Steps.{Ended}
use Rattle.demands.specs.Calls.{as_it_was, Runs}
use Rattle.demands.proofs.Singles.{further, runs-join}
use Rattle.recognizer.proofs.Answered.{number-some}
use Rattle.programs.specs.Tokens.{tokens_of}
use Rattle.driver.specs.Parts.{part_bytes, part_tokens, most_parts, InParts}
use Rattle.driver.specs.Writes.{RunsPart, RunsOver}
use Rattle.programs.proofs.Decoding.{Even, halves, tokens-join}
use Rattle.driver.proofs.Running.{runs-all, runs-whole}

abbrev pub most_tokens : ℕ
most_tokens = part_tokens * most_parts

-- Bytes of full parts, with so many left to read: they are whole tokens, and whatever parts come behind them, all are in parts.
pub record Full (before : List ℕ) (left : ℕ) : Type 0 where
  pub even : Even (length before)
  pub behind : (number : ℕ) (bytes : List ℕ) → InParts number left bytes → InParts number most_parts (before ++ bytes)

full_none : Full [] most_parts
full_none = record { even = record { half = 0; is = refl }; behind = λ number bytes parts. parts }

full-more : {before : List ℕ} (part : List ℕ) {parts left : ℕ} → Full before parts → length part ≡ part_bytes → parts ≡ suc left → Full (before ++ part) left
full-more {before} part {parts} {left} f long one = record {
  even = record { half = f.even.half + part_tokens; is = omega (arith, length-append before part, f.even.is, long) };
  behind = λ number bytes rest.
      subst (InParts number most_parts) (sym (append_assoc before part bytes))
      (f.behind number (part ++ bytes) (subst (λ (n : ℕ). InParts number n (part ++ bytes)) (sym one) (InParts.full part long rest)));
}

-- No part is left: those before are all.
full-all : {before : List ℕ} (number : ℕ) → Full before 0 → InParts number most_parts before
full-all {before} number f = subst (InParts number most_parts) (append-nil before) (f.behind number [] InParts.none_left)

-- No part was read yet; or those read were full, taken whole and are one run.
pub data SoFar (file : List ℕ) (s₀ : State) (w₀ : Words) : State → Words → ℕ → ℕ → Type 0 where
  none : SoFar file s₀ w₀ s₀ w₀ 0 most_parts
  going :
      {s : State} {w : Words} {taken left : ℕ} {before : List ℕ} → Full before left
      → Runs file s₀ w₀ (plain (tokens_of before)) (record { outcome = as_it_was 0 s w; taken = taken }) → SoFar file s₀ w₀ s w taken left

-- One more part as the last.
one_left : {number parts : ℕ} {part : List ℕ} → 0 < parts → InParts number (suc (parts - 1)) part → InParts number parts part
one_left {number} {parts} {part} some last =
    let same : suc (parts - 1) ≡ parts = omega (arith, some) in
    subst (λ (n : ℕ). InParts number n part) same last

-- What is not refused is done.
as_zero : {file : List ℕ} {s : State} {w : Words} {a : Positions} {e : Ended} → e.outcome.number ≡ 0 → Runs file s w a e
    → Runs file s w a (record { outcome = as_it_was 0 e.outcome.state e.outcome.words; taken = e.taken })
as_zero {file} {s} {w} {a} {e} zero runs =
    subst (λ (n : ℕ). Runs file s w a (record { outcome = as_it_was n e.outcome.state e.outcome.words; taken = e.taken })) zero runs

module _ {file : List ℕ} {s₀ : State} {w₀ : Words} where
  -- The tokens before a part and its own are one run,
  part-more : {s : State} {w : Words} {taken left : ℕ} {before : List ℕ} (part : List ℕ) {e : Ended} → Full before left
      → Runs file s₀ w₀ (plain (tokens_of before)) (record { outcome = as_it_was 0 s w; taken = taken }) → Runs file s w (plain (tokens_of part)) e
      → Runs file s₀ w₀ (plain (tokens_of (before ++ part))) (further taken e)
  part-more {taken = taken} {before = before} part {e = e} f runs more =
      subst (λ (a : Positions). Runs file s₀ w₀ a (further taken e)) (plain-behind (tokens_of before) (tokens_of part) ∙ ap plain (sym (tokens-join before part f.even)))
      (runs-join file (plain (tokens_of part)) e (plain (tokens_of before)) runs refl more)

  -- and so are those of the first alone.
  part-first : {a : Positions} {e : Ended} → Runs file s₀ w₀ a e → Runs file s₀ w₀ a (further 0 e)
  part-first {a} {e} runs = subst (λ (n : ℕ). Runs file s₀ w₀ a (record { outcome = e.outcome; taken = n })) (omega arith) runs

  -- The last part ends the run.
  one_last : {s : State} {w : Words} {taken parts : ℕ} {e : Ended} → SoFar file s₀ w₀ s w taken parts → 0 < parts → (r : RunsPart file s w e)
      → InParts e.outcome.number parts r.part → RunsOver file s₀ w₀ (further taken e)
  one_last SoFar.none some r last = record { bytes = r.part; in_parts = last; runs = part-first r.runs }
  one_last {e = e} (SoFar.going {before = before} f runs) some r last =
      record { bytes = before ++ r.part; in_parts = f.behind e.outcome.number r.part last; runs = part-more r.part f runs r.runs }

  -- A full part leaves the next to be read.
  one_full : {s s' : State} {w w' : Words} {taken taken' parts left : ℕ} → SoFar file s₀ w₀ s w taken parts → parts ≡ suc left
      → (r : RunsPart file s w (record { outcome = as_it_was 0 s' w'; taken = taken' })) → length r.part ≡ part_bytes
      → SoFar file s₀ w₀ s' w' (taken + taken') left
  one_full SoFar.none one r long = SoFar.going (full-more r.part full_none long one) (part-first r.runs)
  one_full (SoFar.going f runs) one r long = SoFar.going (full-more r.part f long one) (part-more r.part f runs r.runs)

  module _ {s : State} {w : Words} {taken parts : ℕ} {e : Ended} (before : SoFar file s₀ w₀ s w taken parts) (some : 0 < parts) (part : RunsPart file s w e) where
    -- A refused token ends the run,
    pub refused_by : (e.outcome.number ≡ 0 → ⊥) → RunsOver file s₀ w₀ (further taken e)
    refused_by refused = one_last before some part (one_left some (InParts.refused part.few refused))

    -- and so does a part that is not full; a full one does not.
    pub last_by : e.outcome.number ≡ 0 → e.taken < part_tokens → RunsOver file s₀ w₀ (further taken e)
    last_by zero few =
        let all = runs-all (tokens_of part.part) part.runs zero in
        one_last before some part (one_left some (InParts.not_full (omega (arith, few, all, (halves part.part).all))))

    pub full_by : e.outcome.number ≡ 0 → part_tokens ≤ e.taken → SoFar file s₀ w₀ e.outcome.state e.outcome.words (taken + e.taken) (parts - 1)
    full_by zero many =
        let whole = runs-whole part.part part.runs in
        one_full before (omega (arith, some)) (record { part = part.part; few = part.few; runs = as_zero zero part.runs }) (omega (arith, many, whole, part.few))

  -- Where no parts are left, all were read.
  pub all_read : {s : State} {w : Words} {taken parts : ℕ} → SoFar file s₀ w₀ s w taken parts → parts ≤ 0 → RunsOver file s₀ w₀ (record { outcome = as_it_was 0 s w; taken = taken })
  all_read SoFar.none nothing = absurd (omega (arith, nothing))
  all_read {parts = parts} (SoFar.going {before = before} f runs) nothing =
      let zero : parts ≡ 0 = omega (arith, nothing) in
      record { bytes = before; in_parts = full-all 0 (subst (Full before) zero f); runs = runs }

-- So far, and the count of tokens stays a word.
pub record Reading (file : List ℕ) (s₀ : State) (w₀ : Words) (s : State) (w : Words) (taken parts : ℕ) : Type 0 where
  pub so_far : SoFar file s₀ w₀ s w taken parts
  pub few : taken + part_tokens * parts ≤ most_tokens

pub reading_start : (file : List ℕ) (s : State) (w : Words) → Reading file s w s w 0 most_parts
reading_start file s w = record { so_far = SoFar.none; few = omega arith }

-- A full part more.
pub reading_full : {file : List ℕ} {s₀ s : State} {w₀ w : Words} {taken parts : ℕ} {e : Ended} → Reading file s₀ w₀ s w taken parts → 0 < parts → RunsPart file s w e
    → e.taken ≤ part_tokens → e.outcome.number ≡ 0 → part_tokens ≤ e.taken → Reading file s₀ w₀ e.outcome.state e.outcome.words (taken + e.taken) (parts - 1)
reading_full before some part few zero many =
    record { so_far = full_by before.so_far some part zero many; few = omega (arith, before.few, few, some) }

-- Whether a run was refused.
pub is_refused : (stopped : Option Refusal) → is_some stopped ≡ true → stop_number stopped ≡ 0 → ⊥
is_refused (Some why) so zero = number-some why zero
is_refused None so zero = cc

pub not_refused : (stopped : Option Refusal) → is_some stopped ≡ false → stop_number stopped ≡ 0
not_refused None so = refl
not_refused (Some why) so = cc
