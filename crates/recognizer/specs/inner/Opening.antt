-- What a call learns of its file and its state.
use Rattle.std.specs.Prelude.{List, ℕ, ◌≤◌, Result, Ok, Err}
use Rattle.grammar.specs.Accepted.{max_rules}
use Rattle.grammar.specs.inner.Decoded.{rules_of, decoded, Chained}
use Rattle.grammar.specs.declared.Grammar as held
use Rattle.parse.specs.declared.State.{State}
use Rattle.parse.specs.Words.{Words, within}
use Rattle.parse.specs.WellFormed.{WellFormed}
use Rattle.recognizer.specs.declared.Refusal.{Refusal}
use Rattle.recognizer.specs.Answers.{refusal_number}
use Rattle.demands.specs.Calls.{Checked, CallFault}

-- A grammar that is an accepted file's, with the chains of its rules.
pub record Opened (file : List ℕ) (g : held.Grammar) : Type 0 where
  pub checked : Checked file (decoded g)
  pub few : g.rules.count ≤ max_rules
  pub chained : Chained g.rules.words g.rules.count

-- The same with a state that is well formed under it.
pub record ReadyFor (file : List ℕ) (s : State) (w : Words) (g : held.Grammar) : Type 0 where
  pub opened : Opened file g
  pub well_formed : WellFormed g.symbols (rules_of g.rules) s (within w)

-- 1, 2 or 4, or a parse that a call may go on with.
abbrev pub Readies : List ℕ → State → Words → held.Grammar → Result Unit Refusal → Type 0
Readies file s w g (Err r) = CallFault file s w (refusal_number r)
Readies file s w g (Ok done) = ReadyFor file s w g
