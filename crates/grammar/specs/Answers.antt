-- What the check answers, by number.
use Rattle.std.specs.Prelude.{◌≡◌, List, ℕ, Result, Ok, Err}
use Rattle.grammar.specs.declared.Fault.{Fault}
use Rattle.grammar.specs.declared.Fault.TheVariants.{Malformed, Broken}
use Rattle.grammar.specs.Accepted as accepted
use Rattle.grammar.specs.File as file

-- The paper's number of each refusal, and of each answer.
abbrev pub fault_number : Fault → ℕ
fault_number Malformed = 1
fault_number Broken = 2

abbrev pub number_of : Result (Unit {0}) Fault → ℕ
number_of (Ok _) = 0
number_of (Err fault) = fault_number fault

-- 1 exactly when the file is malformed; else 2 exactly when its grammar is not accepted; else 0.
pub record Verdict (bytes : List ℕ) (number : ℕ) : Type 0 where
  pub one : number ≡ 1 → file.Malformed bytes
  pub always_one : file.Malformed bytes → number ≡ 1
  pub two : number ≡ 2 → accepted.Accepted (file.grammar_of bytes) → ⊥
  pub always_two : (file.Malformed bytes → ⊥) → (accepted.Accepted (file.grammar_of bytes) → ⊥) → number ≡ 2
  pub zero : number ≡ 0 → accepted.Accepted (file.grammar_of bytes)
  pub always_zero : (file.Malformed bytes → ⊥) → accepted.Accepted (file.grammar_of bytes) → number ≡ 0
