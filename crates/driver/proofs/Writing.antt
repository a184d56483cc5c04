-- What the driver writes, put together from what its calls answer.
use Rattle.std.proofs.Common.{◌≡◌, refl, ap, subst, ◌∙◌, Bool, List, [], ℕ, Err}
use Rattle.parse.specs.declared.State.{State}
use Rattle.parse.specs.Words.{Words}
use Rattle.recognizer.specs.declared.Refusal.{Refusal}
use Rattle.recognizer.specs.declared.Ran.{Ran}
use Rattle.grammar.specs.declared.Fault.{Fault}
use Rattle.grammar.specs.declared.Fault.TheVariants.{Malformed, Broken}
use Rattle.grammar.specs.Answers.{fault_number}
use Rattle.recognizer.specs.Answers.{fault_refusal, refusal_number, stop_number, outcome_of, ended_of}
use Rattle.demands.specs.Calls.{Starts}
use Rattle.recognizer.proofs.Answered.{number-some}
use Rattle.programs.specs.Text.{grammar_head, Line}
use Rattle.driver.specs.Text.{Report}
use Rattle.driver.specs.Writes.{RunsOver, SaysFinished, Followed, Recognized}

module _ {file : List ℕ} {s : State} {w v : Words} where
  -- The lines on a run.
  pub followed : (r : Ran) {number : ℕ} {yes : Bool} {text : List ℕ} → RunsOver file s w (ended_of r v) → SaysFinished file r.state v yes
      → number ≡ stop_number r.stopped → Report r.taken number yes r.state.set text → Followed file s w text
  followed r {number} {yes} {text} read says same text-is = record {
    ended = ended_of r v;
    read = read;
    yes = yes;
    says = says;
    lines = subst (λ (n : ℕ). Report r.taken n yes r.state.set text) same text-is;
  }

  -- The line on a parse that was not started.
  pub refused-line : (why : Refusal) {n : ℕ} {text : List ℕ} → Starts file s w (outcome_of s (Err why) v) → n ≡ refusal_number why → Line [] grammar_head n text → Recognized file w text
  refused-line why {text = text} starts same put = Recognized.refused starts (number-some why) (subst (λ (k : ℕ). Line [] grammar_head k text) same put)

-- The line on a file that is no grammar.
fault-number : (fault : Fault) → refusal_number (fault_refusal fault) ≡ fault_number fault
fault-number Malformed = refl
fault-number Broken = refl

pub fault-line : (fault : Fault) {why : Refusal} {n : ℕ} {text : List ℕ} → why ≡ fault_refusal fault → n ≡ refusal_number why → Line [] grammar_head n text → Line [] grammar_head (fault_number fault) text
fault-line fault {text = text} is same put = subst (λ (k : ℕ). Line [] grammar_head k text) (same ∙ ap refusal_number is ∙ fault-number fault) put
