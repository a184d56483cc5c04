-- A run of the main engine behind tokens that it accepted, a report on it, and the plain engine on all of these tokens.
use Rattle.std.specs.Prelude.{◌≡◌, Bool, List, ℕ}
use Rattle.laws.specs.Fills.{too_short}
use Rattle.grammar.specs.File.{grammar_of}
use Rattle.parse.specs.declared.State.{State}
use Rattle.parse.specs.Words.{Words}
use Rattle.completion.specs.Pass.{items_full, queue_full, store_full}
use Rattle.earley.specs.Positions.{plain}
use Rattle.demands.specs.Steps.{Ended, sets_full}
use Rattle.demands.specs.Calls.{Runs, Finishes}
use Rattle.demands.specs.Histories.{History}
use Rattle.plain.specs.Calls.{Tables, Tells}

-- A parse over any buffers with any history, in which the tokens `ts` were accepted, positions of one kind each; then a run of `us`, which no room refusal
-- met, and finished.
pub record Read (file : List ℕ) (s : State) (w : Words) (ts us : List ℕ) (ended : Ended) (finished : Bool) : Type 0 where
  pub history : History file s w (plain ts)
  pub runs : Runs file s w (plain us) ended
  pub items : ended.outcome.number ≡ items_full → ⊥
  pub queue : ended.outcome.number ≡ queue_full → ⊥
  pub sets : ended.outcome.number ≡ sets_full → ⊥
  pub units : ended.outcome.number ≡ store_full → ⊥
  pub report : ℕ
  pub handle : ℕ
  pub finishes : Finishes file ended.outcome.state ended.outcome.words report finished handle

-- The plain engine, with words enough and no more tokens than it takes.
pub record Plain (file ts : List ℕ) (yes : Bool) : Type 0 where
  pub before : List ℕ
  pub left : List ℕ
  pub number : ℕ
  pub count : ℕ
  pub tables : Tables file ts before number count left
  pub tells : Tells (grammar_of file) ts number yes
  pub words_enough : number ≡ too_short → ⊥
  pub few_enough : number ≡ 22 → ⊥
