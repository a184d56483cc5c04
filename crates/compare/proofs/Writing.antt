-- What is written, put together from what the calls answer.
use Rattle.std.proofs.Common.{◌≡◌, refl, sym, ap, subst, ◌∙◌, List, [], ℕ, arith}
use Rattle.grammar.specs.Answers.{Verdict}
use Rattle.grammar.specs.Answers.{fault_number}
use Rattle.grammar.specs.declared.Fault.{Fault}
use Rattle.grammar.specs.declared.Fault.TheVariants.{Malformed, Broken}
use Rattle.recognizer.specs.declared.Refusal.{Refusal}
use Rattle.recognizer.specs.Answers.{fault_refusal, refusal_number}
use Rattle.programs.specs.Text.{grammar_head, Line}
use Rattle.demands.specs.Calls.{FileFault}

-- A fault of the file, ..
pub is_faulty : {file : List ℕ} (fault : Fault) {why : Refusal} {n : ℕ} → why ≡ fault_refusal fault → n ≡ refusal_number why → Verdict file (fault_number fault) → FileFault file n
is_faulty {file} Malformed is same verdict = subst (FileFault file) (sym (same ∙ ap refusal_number is)) (FileFault.malformed (verdict.one refl))
is_faulty {file} Broken is same verdict =
    subst (FileFault file) (sym (same ∙ ap refusal_number is)) (FileFault.broken (λ m. omega (arith, verdict.always_one m)) (verdict.two refl))

-- .. and its number.
fault-number : (fault : Fault) → refusal_number (fault_refusal fault) ≡ fault_number fault
fault-number Malformed = refl
fault-number Broken = refl

pub fault-line : (fault : Fault) {why : Refusal} {n : ℕ} {text : List ℕ} → why ≡ fault_refusal fault → n ≡ refusal_number why → Line [] grammar_head n text → Line [] grammar_head (fault_number fault) text
fault-line fault {text = text} is same put = subst (λ (k : ℕ). Line [] grammar_head k text) (same ∙ ap refusal_number is ∙ fault-number fault) put
