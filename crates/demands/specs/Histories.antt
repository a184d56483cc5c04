-- How a parse can have come about, with the positions accepted since its start, as they were given. Every call is under one file, with the state that the last
-- call gave back and the words that it left. A report (finished, the set report, those of the crate reports) is lent all of it to read only, takes the
-- state by value and gives none back: state and words after it are those before it, so the history of before is that of after, and no
-- report has a case of its own.
use Rattle.std.specs.Prelude.{◌≡◌, List, [], ◌∷◌, ◌++◌, ℕ, take}
use Rattle.parse.specs.declared.State.{State}
use Rattle.parse.specs.Words.{Words}
use Rattle.earley.specs.Positions.{Positions}
use Rattle.demands.specs.Steps.{Outcome, Ended}
use Rattle.demands.specs.Calls.{Starts, Takes, Runs}

pub data History (file : List ℕ) : State → Words → Positions → Type 0 where
  -- A start answered 0, over any state and words.
  fresh : {s : State} {w : Words} {o : Outcome} → Starts file s w o → o.number ≡ 0 → History file o.state o.words []
  -- A position answered 0 is accepted; any other answer accepts none.
  accepted :
      {s : State} {w : Words} {a : Positions} {kinds : List ℕ} {o : Outcome} → History file s w a → Takes file s w kinds o → o.number ≡ 0
      → History file o.state o.words (a ++ (kinds ∷ []))
  not_accepted :
      {s : State} {w : Words} {a : Positions} {kinds : List ℕ} {o : Outcome} → History file s w a → Takes file s w kinds o → (o.number ≡ 0 → ⊥)
      → History file o.state o.words a
  -- A run accepts the positions that it took.
  run :
      {s : State} {w : Words} {a b : Positions} {e : Ended} → History file s w a → Runs file s w b e
      → History file e.outcome.state e.outcome.words (a ++ take e.taken b)
  -- A start that is refused keeps the parse.
  not_started :
      {s : State} {w : Words} {a : Positions} {o : Outcome} → History file s w a → Starts file s w o → (o.number ≡ 0 → ⊥)
      → History file o.state o.words a
