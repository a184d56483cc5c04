-- What the driver's lines tell of sentences, over the rules alone.
use Rattle.std.proofs.Common.{◌≡◌, subst, true, ◌↔◌, List, [], ℕ, ◌+◌, ◌*◌, length, take}
use Rattle.grammar.specs.Sentences.{Sentence}
use Rattle.grammar.specs.File.{grammar_of}
use Rattle.parse.specs.declared.State.{State}
use Rattle.parse.specs.Words.{Words}
use Rattle.earley.specs.Positions.{Positions}
use Rattle.earley.proofs.Spelling.{plain-taken}
use Rattle.demands.specs.Steps.{Outcome, no_token}
use Rattle.demands.specs.Calls.{Starts}
use Rattle.demands.specs.Histories.{History}
use Rattle.demands.specs.Sentences.{FinishedJudged}
use Rattle.demands.specs.Tokens.{TokensJudged}
use Rattle.demands.proofs.Telling.{run-tells, finished-tells}
use Rattle.demands.proofs.Tokens.{judged_run, judged_finished}
use Rattle.demands.proofs.Lasting.{lasts, no_fault}
use Rattle.programs.specs.Tokens.{tokens_of}
use Rattle.driver.specs.Writes.{Followed}
use Rattle.driver.proofs.Running.{runs_lone}

module _ {file : List ℕ} {s : State} {w : Words} {o : Outcome} {text : List ℕ} (starts : Starts file s w o) (zero : o.number ≡ 0) (f : Followed file o.state o.words text) where
  -- "finished yes" is written exactly when the tokens taken are a sentence,
  pub finished_line_lem : (f.yes ≡ true) ↔ Sentence (grammar_of file) (take f.ended.taken (tokens_of f.read.bytes))
  finished_line_lem =
      ((judged_finished (take f.ended.taken (tokens_of f.read.bytes))).0
      (subst (λ (a : Positions). FinishedJudged (grammar_of file) a f.says.number f.yes) (plain-taken f.ended.taken (tokens_of f.read.bytes))
      ((finished-tells f.says.finishes).sentences _ (History.run (History.fresh starts zero) f.read.runs)))
      ).sentence

  -- each token taken goes on with a sentence, and where one of the grammar's tokens was refused, "stopped 6" is written exactly when none does.
  pub stopped-line : TokensJudged (grammar_of file) [] (tokens_of f.read.bytes) f.ended.outcome.number f.ended.taken
  stopped-line = (judged_run [] (tokens_of f.read.bytes)).0 ((run-tells f.read.runs).sentences [] (History.fresh starts zero))

  -- Where a lone byte stands behind the tokens taken, "stopped 5" is written.
  pub lone_line : length f.read.bytes ≡ 2 * f.ended.taken + 1 → f.ended.outcome.number ≡ no_token
  lone_line = runs_lone f.read.bytes (λ n fault. no_fault (lasts (History.fresh starts zero)) fault) f.read.runs
