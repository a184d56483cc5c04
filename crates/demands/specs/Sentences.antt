-- Exactly the sentences. Take a file that the check accepts, a fresh parse, any calls with it, each under that file with the state and the
-- words that the last one left, and the positions accepted since the start: that is a history. The right sides speak of derivations alone, of the words that
-- have one kind of each position.
use Rattle.std.specs.Prelude.{◌≡◌, Bool, true, ◌↔◌, List, [], ◌∷◌, ◌++◌, ℕ, suc, ◌≤◌, ◌<◌, length, get_or, take}
use Rattle.grammar.specs.Rules.{Grammar}
use Rattle.grammar.specs.File.{grammar_of}
use Rattle.parse.specs.declared.State.{State}
use Rattle.parse.specs.Words.{Words}
use Rattle.completion.specs.Pass.{items_full, queue_full, store_full}
use Rattle.earley.specs.Positions.{Positions, SpellSentence, SpellBeginning}
use Rattle.demands.specs.Positions.{is_position}
use Rattle.demands.specs.Steps.{Ended, not_predicted, sets_full}
use Rattle.demands.specs.Histories.{History}

-- Accepted, or a room refusal.
pub data AcceptedOrNoRoom : ℕ → Type 0 where
  accepted : AcceptedOrNoRoom 0
  no_item : AcceptedOrNoRoom items_full
  no_entry_lem : AcceptedOrNoRoom queue_full
  no_set : AcceptedOrNoRoom sets_full
  no_unit : AcceptedOrNoRoom store_full

-- Of a position, with the positions `a` accepted: it is refused as impossible exactly when no sentence begins with a word that spells those
-- positions and it; otherwise it is accepted or meets a room refusal.
pub record Judged (g : Grammar) (a : Positions) (kinds : List ℕ) (number : ℕ) : Type 0 where
  pub impossible : (number ≡ not_predicted) ↔ (SpellBeginning g (a ++ (kinds ∷ [])) → ⊥)
  pub possible : (number ≡ not_predicted → ⊥) → SpellBeginning g (a ++ (kinds ∷ []))
  pub otherwise : (number ≡ not_predicted → ⊥) → AcceptedOrNoRoom number

-- What a call for one position answers tells of sentences.
pub record PositionTells (file : List ℕ) (s : State) (w : Words) (kinds : List ℕ) (number : ℕ) : Type 0 where
  pub sentences : (a : Positions) → History file s w a → is_position (grammar_of file).tokens kinds ≡ true → Judged (grammar_of file) a kinds number

-- The same of a run: each position that was taken goes on with a sentence, and the one behind them, if there is one, was refused so.
pub record RunJudged (g : Grammar) (a b : Positions) (number taken : ℕ) : Type 0 where
  pub few : taken ≤ length b
  pub goes_on : (i : ℕ) → i < taken → SpellBeginning g (a ++ take (suc i) b)
  pub whole : (taken ≡ length b) ↔ (number ≡ 0)
  pub at_refusal : taken < length b → is_position g.tokens (get_or b taken []) ≡ true → Judged g (a ++ take taken b) (get_or b taken []) number

pub record RunTells (file : List ℕ) (s : State) (w : Words) (b : Positions) (e : Ended) : Type 0 where
  pub sentences : (a : Positions) → History file s w a → RunJudged (grammar_of file) a b e.outcome.number e.taken

-- Finished is reported exactly when a word that spells the accepted positions is a sentence.
pub record FinishedJudged (g : Grammar) (a : Positions) (number : ℕ) (yes : Bool) : Type 0 where
  pub done : number ≡ 0
  pub sentence : (yes ≡ true) ↔ SpellSentence g a

pub record FinishedTells (file : List ℕ) (s : State) (w : Words) (number : ℕ) (yes : Bool) : Type 0 where
  pub sentences : (a : Positions) → History file s w a → FinishedJudged (grammar_of file) a number yes
