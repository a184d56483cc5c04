-- Two results that meet a statement of a public call agree: it settles the answer and every lent word.
use mathlib.Core.Path.{◌≡◌, refl, sym, ap, ap₂, ◌∙◌, subst}
use mathlib.Core.Bool.{Bool}
use mathlib.Core.List.{List}
use Prim.Native.Nat.{ℕ, ◌<◌}
use native.Mathlib.Omega.{arith}
use Rattle.bits.specs.Width.{row_words}
use Rattle.grammar.specs.Rules.{Grammar}
use Rattle.grammar.specs.Accepted.{Accepted}
use Rattle.grammar.specs.Prediction.{Predicts}
use Rattle.prediction.proofs.Reaching.{predicts_unique}
use Rattle.parse.specs.declared.State.{State}
use Rattle.parse.specs.Words.{Words, set_room, within}
use Rattle.parse.specs.WellFormed.{WellFormed}
use Rattle.earley.specs.Positions.{Positions}
use Rattle.demands.specs.Steps.{Outcome, Ended, started, stepped, ran}
use Rattle.demands.specs.Calls.{Checked, Sound, Formed, Ready, FileFault, StartFault, CallFault, as_it_was, in_place, in_place_ended, Starts, Takes, Runs, Finishes, Reports}

module _ {file : List ℕ} where
  -- A file gives one grammar,
  pub checked_grammar : {g g' : Grammar} → Checked file g → Checked file g' → g ≡ g'
  checked_grammar a b = sym a.is ∙ b.is

  -- and one table, so that what is made of both is one.
  pub sound-same : {A : Type 0} (f : Grammar → List (List ℕ) → A) {g g' : Grammar} {table table' : List (List ℕ)} → Sound file g table → Sound file g' table'
      → f g table ≡ f g' table'
  sound-same f {g} {g'} {table} {table'} a b =
      let e : g ≡ g' = checked_grammar a.checked b.checked in
      ap₂ f e (predicts_unique g row_words table table' a.predicts (subst (λ (k : Grammar). Predicts k row_words table') (sym e) b.predicts))

  -- An accepted file has no fault.
  pub no_file_fault : {g : Grammar} {n : ℕ} → Checked file g → FileFault file n → ⊥
  no_file_fault checked (FileFault.malformed m) = checked.whole m
  no_file_fault checked (FileFault.broken w b) = b (subst Accepted (sym checked.is) checked.accepted)

  -- Faults are refused with one number: of the file,
  file-number : {n n' : ℕ} → FileFault file n → FileFault file n' → n ≡ n'
  file-number (FileFault.malformed m) (FileFault.malformed m') = refl
  file-number (FileFault.malformed m) (FileFault.broken w b) = absurd (w m)
  file-number (FileFault.broken w b) (FileFault.malformed m) = absurd (w m)
  file-number (FileFault.broken w b) (FileFault.broken w' b') = refl

  -- of a start,
  start-number : {w : Words} {n n' : ℕ} → StartFault file w n → StartFault file w n' → n ≡ n'
  start-number (StartFault.file_fault f) (StartFault.file_fault f') = file-number f f'
  start-number (StartFault.file_fault f) (StartFault.no_sets checked none) = absurd (no_file_fault checked f)
  start-number (StartFault.no_sets checked none) (StartFault.file_fault f) = absurd (no_file_fault checked f)
  start-number (StartFault.no_sets checked none) (StartFault.no_sets checked' none') = refl

  no_start_fault : {w : Words} {g : Grammar} {n : ℕ} → Checked file g → 0 < set_room w → StartFault file w n → ⊥
  no_start_fault checked room (StartFault.file_fault f) = no_file_fault checked f
  no_start_fault checked room (StartFault.no_sets checked' none) = omega arith

  module _ {s : State} {w : Words} where
    -- and of every other call.
    pub call_number : {n n' : ℕ} → CallFault file s w n → CallFault file s w n' → n ≡ n'
    call_number (CallFault.file_fault f) (CallFault.file_fault f') = file-number f f'
    call_number (CallFault.file_fault f) (CallFault.ill_formed checked ill) = absurd (no_file_fault checked f)
    call_number (CallFault.ill_formed checked ill) (CallFault.file_fault f) = absurd (no_file_fault checked f)
    call_number (CallFault.ill_formed checked ill) (CallFault.ill_formed checked' ill') = refl

    no_call_fault : {g : Grammar} {n : ℕ} → Checked file g → WellFormed g.symbols g.rules s (within w) → CallFault file s w n → ⊥
    no_call_fault checked well (CallFault.file_fault f) = no_file_fault checked f
    no_call_fault checked well (CallFault.ill_formed checked' ill) =
        ill (subst (λ (k : Grammar). WellFormed k.symbols k.rules s (within w)) (checked_grammar checked checked') well)

    pub not_ready : {g : Grammar} {table : List (List ℕ)} {n : ℕ} → Ready file s w g table → CallFault file s w n → ⊥
    not_ready ready = no_call_fault ready.sound.checked ready.well_formed

    pub not_formed : {g : Grammar} {n : ℕ} → Formed file s w g → CallFault file s w n → ⊥
    not_formed formed = no_call_fault formed.checked formed.well_formed

    -- TWO RESULTS OF A START AGREE,
    pub starts_agree : {o o' : Outcome} → Starts file s w o → Starts file s w o' → o ≡ o'
    starts_agree (Starts.refused f) (Starts.refused f') = ap (λ (n : ℕ). as_it_was n s w) (start-number f f')
    starts_agree (Starts.refused f) (Starts.done sound room) = absurd (no_start_fault sound.checked room f)
    starts_agree (Starts.done sound room) (Starts.refused f) = absurd (no_start_fault sound.checked room f)
    starts_agree (Starts.done sound room) (Starts.done sound' room') =
        sound-same (λ (g : Grammar) (table : List (List ℕ)). in_place w (started g table (within w))) sound sound'

    -- of a position,
    pub takes_agree : {kinds : List ℕ} {o o' : Outcome} → Takes file s w kinds o → Takes file s w kinds o' → o ≡ o'
    takes_agree (Takes.refused f) (Takes.refused f') = ap (λ (n : ℕ). as_it_was n s w) (call_number f f')
    takes_agree (Takes.refused f) (Takes.done ready) = absurd (not_ready ready f)
    takes_agree (Takes.done ready) (Takes.refused f) = absurd (not_ready ready f)
    takes_agree {kinds} (Takes.done ready) (Takes.done ready') =
        sound-same (λ (g : Grammar) (table : List (List ℕ)). in_place w (stepped g table s (within w) kinds)) ready.sound ready'.sound

    -- of a run,
    pub runs_agree : {a : Positions} {e e' : Ended} → Runs file s w a e → Runs file s w a e' → e ≡ e'
    runs_agree (Runs.refused f) (Runs.refused f') = ap (λ (n : ℕ). record { outcome = as_it_was n s w; taken = 0 }) (call_number f f')
    runs_agree (Runs.refused f) (Runs.done ready) = absurd (not_ready ready f)
    runs_agree (Runs.done ready) (Runs.refused f) = absurd (not_ready ready f)
    runs_agree {a} (Runs.done ready) (Runs.done ready') =
        sound-same (λ (g : Grammar) (table : List (List ℕ)). in_place_ended w (ran g table s (within w) a)) ready.sound ready'.sound

    -- of finished,
    pub finishes_agree : {n n' handle handle' : ℕ} {yes yes' : Bool} → Finishes file s w n yes handle → Finishes file s w n' yes' handle'
        → (n ≡ n') × (yes ≡ yes') × (handle ≡ handle')
    finishes_agree (Finishes.refused f) (Finishes.refused f') = (call_number f f', refl, refl)
    finishes_agree (Finishes.refused f) (Finishes.done formed) = absurd (not_formed formed f)
    finishes_agree (Finishes.done formed) (Finishes.refused f) = absurd (not_formed formed f)
    finishes_agree (Finishes.done formed) (Finishes.done formed') = (refl, refl, refl)

    -- and of the set report.
    pub reports_agree : {n n' : ℕ} {part part' : List ℕ} → Reports file s w n part → Reports file s w n' part' → (n ≡ n') × (part ≡ part')
    reports_agree (Reports.refused f) (Reports.refused f') = (call_number f f', refl)
    reports_agree (Reports.refused f) (Reports.done formed) = absurd (not_formed formed f)
    reports_agree (Reports.done formed) (Reports.refused f) = absurd (not_formed formed f)
    reports_agree (Reports.done formed) (Reports.done formed') = (refl, refl)

    -- Refusing always is shut out: where the file is accepted and the state well formed, a position gets what the steps give.
    pub never_always_refused : {g : Grammar} {table : List (List ℕ)} {kinds : List ℕ} {o : Outcome} → Ready file s w g table → Takes file s w kinds o
        → o ≡ in_place w (stepped g table s (within w) kinds)
    never_always_refused ready takes = takes_agree takes (Takes.done ready)
