-- Wrong answers that the statements refuse, each at a parse that there is: grammar A, fresh and after "0" and "0 1 0", and grammar K, fresh.
use mathlib.Core.Path.{◌≡◌, refl, sym, ap, ◌∙◌}
use mathlib.Core.Bool.{Bool, true, false, false≢true}
use mathlib.Core.List.Memᴰ.{head as here}
use mathlib.Core.List.{List, [], ◌∷◌}
use Prim.Native.Nat.{ℕ}
use lib.ListN.{length, replicate, get_or, take}
use native.Mathlib.Omega.{arith}
use Rattle.grammar.specs.Sentences.{Begins}
use Rattle.grammar.specs.File.{grammar_of}
use Rattle.node.specs.Rows.{all_ones}
use Rattle.node.specs.Reading.{filler}
use Rattle.parse.specs.declared.State.{State}
use Rattle.parse.specs.Words.{Words}
use Rattle.completion.specs.Pass.{store_full}
use Rattle.earley.specs.Positions.{next, none as nothing, plain}
use Rattle.earley.proofs.Plain.{plain-sentence, plain_beginning}
use Rattle.demands.specs.Positions.{is_position}
use Rattle.demands.specs.Steps.{Outcome, Ended, no_token, not_predicted, stepped}
use Rattle.demands.specs.Calls.{as_it_was, Starts, Takes, Runs, Finishes, Reports}
use Rattle.demands.specs.Sentences.{PositionTells, FinishedTells}
use Rattle.demands.proofs.Agree.{starts_agree, takes_agree, runs_agree, finishes_agree, reports_agree}
use Rattle.demands.proofs.Telling.{finished-tells}
use Rattle.demands.proofs.Examples.{file_a, state, sound_a, words_a0, words_a1, words_a3, old_a, began_a, start_a, one_a, read_a, sentence_a, none_a, ended, run_a, run_one_a, narrow_a, full_a, over_a, file_k, sound_k, words_k0, words_k1, start_k, both_k, both_taken_k}

-- ALWAYS FINISHED: a fresh parse may not be reported finished.
pub fresh_is_not_finished : FinishedTells file_a (state 0 0 0) words_a0 0 true → ⊥
fresh_is_not_finished tells = false≢true ((right.sentences [] start_a.history).sentence.1 ((tells.sentences [] start_a.history).sentence.0 refl))
  where
    right : FinishedTells file_a (state 0 0 0) words_a0 0 false
    right = finished-tells (Finishes.done (record { checked = sound_a.checked; well_formed = start_a.ready.well_formed }))

-- NEVER FINISHED: "0 1 0" must be reported finished.
pub a_sentence_is_finished : FinishedTells file_a (state 3 6 13) words_a3 0 false → ⊥
a_sentence_is_finished tells = false≢true ((tells.sentences (plain (0 ∷ 1 ∷ 0 ∷ [])) read_a.history).sentence.1 ((plain-sentence (0 ∷ 1 ∷ 0 ∷ [])).1 sentence_a))

-- A sentence begins with 0: "0 1 0".
begins_a : Begins (grammar_of file_a) (0 ∷ [])
begins_a = record { rest = 1 ∷ 0 ∷ []; sentence = sentence_a }

-- REFUSING ALWAYS: 0 goes on with "0 1 0" and may not be answered 6.
pub viable_is_not_impossible : PositionTells file_a (state 0 0 0) words_a0 (0 ∷ []) not_predicted → ⊥
unfolding is_position
viable_is_not_impossible tells = (tells.sentences [] start_a.history refl).impossible.0 refl ((plain_beginning (0 ∷ [])).1 begins_a)

-- The same of a position that has 0 among its kinds.
pub one_kind_is_enough : PositionTells file_a (state 0 0 0) words_a0 (0 ∷ 1 ∷ []) not_predicted → ⊥
unfolding is_position
one_kind_is_enough tells =
    (tells.sentences [] start_a.history refl).impossible.0 refl (record { word = 0 ∷ []; spelt = next (omega arith) (here refl) nothing; begins = begins_a })

-- TAKING ANYTHING: no sentence begins with "0 0", so the second 0 may not be accepted.
pub impossible_is_not_accepted : PositionTells file_a (state 1 2 3) words_a1 (0 ∷ []) 0 → ⊥
unfolding is_position
impossible_is_not_accepted tells =
    none_a ((plain_beginning (0 ∷ 0 ∷ [])).0 ((tells.sentences (plain (0 ∷ [])) one_a.history refl).possible (λ six. omega arith)))

-- LEAVING THE BUFFERS IDLE: a run that takes three tokens moves on.
pub buffers_are_not_idle : Runs file_a (state 0 0 0) words_a0 (plain (0 ∷ 1 ∷ 0 ∷ [])) (ended (state 0 0 0) words_a0 3) → ⊥
buffers_are_not_idle runs =
    let e : ◌≡◌ {A = ℕ} 0 3 = ap (λ (e : Ended). e.outcome.state.set) (runs_agree runs run_a) in
    omega (arith, e)

-- ALL AT THE FIRST TOKEN: a run of "0" may not leave what "0 1 0" leaves.
pub no_token_ahead : Runs file_a (state 0 0 0) words_a0 (plain (0 ∷ [])) (ended (state 3 6 13) words_a3 1) → ⊥
no_token_ahead runs =
    let e : ◌≡◌ {A = ℕ} 3 1 = ap (λ (e : Ended). e.outcome.state.set) (runs_agree runs run_one_a) in
    omega (arith, e)

-- A MADE-UP COUNT: three tokens taken are told as three.
pub count_is_told : {s : State} {w : Words} → Runs file_a (state 0 0 0) words_a0 (plain (0 ∷ 1 ∷ 0 ∷ [])) (ended s w 2) → ⊥
count_is_told runs =
    let e : ◌≡◌ {A = ℕ} 2 3 = ap (λ (e : Ended). e.taken) (runs_agree runs run_a) in
    omega (arith, e)

-- A START THAT CLEARS AND PREDICTS NOTHING: row 0 is the wrapper's.
pub first_row_is_written : {s : State} {w : Words} → w.rows ≡ replicate 8 0 → Starts file_a (state 7 7 7) old_a (as_it_was 0 s w) → ⊥
first_row_is_written none starts =
    let e : ◌≡◌ {A = ℕ} 0 21 = ap (λ (rows : List ℕ). get_or rows 0 0) (sym none ∙ ap (λ (o : Outcome). o.words.rows) (starts_agree starts began_a)) in
    omega (arith, e)

-- A SET REPORT OF NOTHING, AND OF EVERYTHING: after "0 1 0" the latest set holds three of the six items.
pub latest_set_is_told : {part : List ℕ} → Reports file_a (state 3 6 13) words_a3 0 part → length part ≡ 9
latest_set_is_told reports = ap length (reports_agree reports (Reports.done (record { checked = sound_a.checked; well_formed = read_a.ready.well_formed }))).1

-- A MADE-UP HANDLE: after "0 1 0" finished tells the node at 10, and a fresh parse tells none.
pub handle_is_told : {n handle : ℕ} {yes : Bool} → Finishes file_a (state 3 6 13) words_a3 n yes handle → handle ≡ 10
handle_is_told finishes = (finishes_agree finishes (Finishes.done (record { checked = sound_a.checked; well_formed = read_a.ready.well_formed }))).2

pub no_handle_is_told : {n handle : ℕ} {yes : Bool} → Finishes file_a (state 0 0 0) words_a0 n yes handle → handle ≡ all_ones
no_handle_is_told finishes = (finishes_agree finishes (Finishes.done (record { checked = sound_a.checked; well_formed = start_a.ready.well_formed }))).2

-- A FOREST THAT IS NOT WRITTEN: a run of "0" leaves an Evaluated, a Sum and its Product.
pub nodes_are_written : {s : State} {w : Words} → Runs file_a (state 0 0 0) words_a0 (plain (0 ∷ [])) (ended s w 1) → take 3 w.store ≡ 0x8000 ∷ 0x0102 ∷ 0x2202 ∷ []
nodes_are_written runs = ap (λ (e : Ended). take 3 e.outcome.words.store) (runs_agree runs run_one_a)

-- UNITS LEFT BEHIND BY A REFUSED STEP: the one unit that was written is a filler again.
pub refused_units_are_cleared : {o : Outcome} → Takes file_a (state 0 0 0) narrow_a (0 ∷ []) o → (o.number ≡ store_full) × (o.words.store ≡ filler ∷ [])
refused_units_are_cleared takes =
    let same = takes_agree takes full_a in
    (ap (λ (o : Outcome). o.number) same, ap (λ (o : Outcome). o.words.store) same)

-- A KIND THAT IS NOT PREDICTED REFUSES NOTHING: of 0 and 1 only 0 may begin, and the position is accepted, without a trace of 1.
pub other_kinds_are_passed_over : {o : Outcome} → Takes file_a (state 0 0 0) words_a0 (0 ∷ 1 ∷ []) o → o ≡ as_it_was 0 (state 1 2 3) words_a1
other_kinds_are_passed_over takes = takes_agree takes over_a

-- ONLY THE FIRST KIND THAT FITS: K's position of 0 and 1 leaves the nodes of both, and a sum of two products.
pub every_kind_is_read : {o : Outcome} → Takes file_k (state 0 0 0) words_k0 (0 ∷ 1 ∷ []) o → take 5 o.words.store ≡ 0x8000 ∷ 0x8001 ∷ 0x0202 ∷ 0x2202 ∷ 0x2401 ∷ []
every_kind_is_read takes = ap (λ (o : Outcome). take 5 o.words.store) (takes_agree takes both_taken_k)

-- A sentence by either kind is told once, with one handle.
pub one_handle_is_told : {n handle : ℕ} {yes : Bool} → Finishes file_k (state 1 1 5) words_k1 n yes handle → (yes ≡ true) × (handle ≡ 2)
one_handle_is_told finishes =
    let same = finishes_agree finishes (Finishes.done (record { checked = sound_k.checked; well_formed = both_k.ready.well_formed })) in
    (same.1, same.2)

-- KINDS IN ANY ORDER: kinds that do not rise are no position, and neither is the same kind twice.
pub kinds_rise : {o : Outcome} → Takes file_k (state 0 0 0) words_k0 (1 ∷ 0 ∷ []) o → o.number ≡ no_token
unfolding is_position stepped
kinds_rise takes = ap (λ (o : Outcome). o.number) (takes_agree takes (Takes.done start_k.ready))

pub kinds_differ : {o : Outcome} → Takes file_k (state 0 0 0) words_k0 (0 ∷ 0 ∷ []) o → o.number ≡ no_token
unfolding is_position stepped
kinds_differ takes = ap (λ (o : Outcome). o.number) (takes_agree takes (Takes.done start_k.ready))
