-- A list of rules, and what is added to it.
use Rattle.std.specs.Prelude.{◌≡◌, List, ℕ, ◌≤◌, length, Result, IfOk, IfErr}
use Rattle.grammar.specs.Rules.{Rule}
use Rattle.grammar.specs.Accepted.{max_rules}
use Rattle.grammar.specs.inner.Decoded.{left_in, first_in, second_in}
use Rattle.written.specs.Translation.{listing}

-- Rule `r` of the words.
abbrev pub rule_in : List ℕ → ℕ → Rule
rule_in words r = record { left = left_in words r; first = first_in words r; second = second_in words r }

-- The list has these rules more; or it would be too long for a file with them.
pub record Lists {T E : Type 0} (before : List Rule) (result : Result T E) (after more : List Rule) : Type 0 where
  pub listed : IfOk result (λ _. after ≡ listing before more)
  pub full : IfErr result (λ _. max_rules ≤ length (listing before more))
