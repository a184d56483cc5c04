-- A trial: a start in words of given capacities, a run of tokens, positions of one kind each, and then whether it is finished.
use mathlib.Core.Path.{◌≡◌, ap, ap₂, ◌∙◌, subst}
use mathlib.Core.Bool.{Bool}
use mathlib.Core.List.{List}
use Prim.Native.Nat.{ℕ, ◌+◌, ◌*◌, ◌<◌}
use lib.ListN.{take, replicate}
use Rattle.bits.specs.Width.{row_words}
use Rattle.item.specs.Item.{item_words}
use Rattle.binary_heap.specs.Entry.{entry_words}
use Rattle.grammar.specs.File.{grammar_of}
use Rattle.parse.specs.declared.State.{State}
use Rattle.parse.specs.Words.{Words, set_room, within}
use Rattle.earley.specs.Positions.{plain}
use Rattle.demands.specs.Steps.{Outcome, Ended, started, ran, last_wraps, finished_handle}
use Rattle.demands.specs.Calls.{Sound, Formed, in_place, in_place_ended, Starts, Runs, Finishes}
use Rattle.demands.specs.Histories.{History}
use Rattle.demands.proofs.Agree.{starts_agree, runs_agree, finishes_agree}
use Rattle.demands.proofs.Again.{started_ready}
use Rattle.demands.proofs.Lasting.{lasts, lasts_holding}

-- Words and units of 0 with the capacities I, E, Q and U.
abbrev pub zeroed : ℕ → ℕ → ℕ → ℕ → Words
zeroed i e q u =
    record {
      items = replicate (item_words * i) 0;
      starts = replicate (e + 1) 0;
      rows = replicate (row_words * e) 0;
      queue = replicate (entry_words * q) 0;
      store = replicate u 0;
    }

-- What document 01 prints of a trial: the answer's number, the tokens taken, the set, the words of the items, and whether it is finished. And what
-- document 02 adds: the used units, and the handle of a finished one.
pub record Printed : Type 0 where
  pub number : ℕ
  pub taken : ℕ
  pub set : ℕ
  pub items : List ℕ
  pub finished : Bool
  pub units : List ℕ
  pub handle : ℕ

abbrev pub printed_of : Ended → Bool → ℕ → Printed
printed_of e done handle =
    record {
      number = e.outcome.number;
      taken = e.taken;
      set = e.outcome.state.set;
      items = take (item_words * e.outcome.state.items) e.outcome.words.items;
      finished = done;
      units = take e.outcome.state.used e.outcome.words.store;
      handle = handle;
    }

-- The same with what finished says of a well-formed state.
abbrev pub reported : Ended → Printed
reported e =
    printed_of e (last_wraps e.outcome.state (within e.outcome.words)) (finished_handle e.outcome.state (within e.outcome.words))

module _ (file : List ℕ) (table : List (List ℕ)) (w : Words) where
  -- What the steps of document 01 give: a start, and then a run.
  abbrev begun : Outcome
  begun = in_place w (started (grammar_of file) table (within w))

  unfoldable pub ended : List ℕ → Ended
  ended ts = in_place_ended begun.words (ran (grammar_of file) table begun.state (within begun.words) (plain ts))

  unfoldable pub tried : List ℕ → Printed
  tried ts = reported (ended ts)

module _ {file : List ℕ} {table : List (List ℕ)} (sound : Sound file (grammar_of file) table) {s : State} {w : Words} (room : 0 < set_room w) where
  begins : {o : Outcome} → Starts file s w o → o ≡ begun file table w
  begins starts = starts_agree starts (Starts.done sound room)

  ends : {o : Outcome} (ts : List ℕ) {e : Ended} → Starts file s w o → Runs file o.state o.words (plain ts) e → e ≡ ended file table w ts
  unfolding ended
  ends ts {e = e} starts runs =
      runs_agree (subst (λ (o : Outcome). Runs file o.state o.words (plain ts) e) (begins starts) runs) (Runs.done (started_ready w sound room))

  -- WHATEVER THE THREE CALLS ANSWER, by their statements, over any old state, is what the steps give.
  pub told : {o : Outcome} (ts : List ℕ) {e : Ended} {n handle : ℕ} {yes : Bool} → Starts file s w o → Runs file o.state o.words (plain ts) e
      → Finishes file e.outcome.state e.outcome.words n yes handle → printed_of e yes handle ≡ tried file table w ts
  unfolding tried
  told ts {e = e} starts runs finishes =
      let agreed = finishes_agree finishes (Finishes.done formed) in
      ap₂ (printed_of e) agreed.1 agreed.2 ∙ ap reported (ends ts starts runs)
    where
      formed : Formed file e.outcome.state e.outcome.words (grammar_of file)
      formed = record {
        checked = sound.checked;
        well_formed = (lasts_holding (lasts (History.run (History.fresh starts (ap (λ (o : Outcome). o.number) (begins starts))) runs)) sound.checked).well;
      }
