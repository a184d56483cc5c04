-- What the answers to the calls of a history tell of sentences.
use mathlib.Core.Path.{◌≡◌, refl, sym, ◌∙◌, subst}
use mathlib.Core.Bool.{Bool, true, false≢true}
use mathlib.Core.Logic.{◌↔◌, ⊎_elim}
use mathlib.Core.List.{List}
use Prim.Native.Nat.{ℕ}
use native.Mathlib.Decide.{dec_lt}
use native.Mathlib.Omega.{arith}
use lib.ListN.{length}
use Rattle.grammar.specs.Rules.{Grammar}
use Rattle.parse.specs.declared.State.{State}
use Rattle.parse.specs.Words.{Words, within}
use Rattle.earley.specs.Positions.{Positions, SpellSentence}
use Rattle.demands.specs.Positions.{is_position}
use Rattle.demands.specs.Steps.{Outcome, Ended, stepped, ran, last_wraps}
use Rattle.demands.specs.Calls.{Takes, Runs, Finishes}
use Rattle.demands.specs.Sentences.{AcceptedOrNoRoom, Judged, PositionTells, RunJudged, RunTells, FinishedTells}
use Rattle.demands.proofs.Refusing.{room-other}
use Rattle.demands.proofs.Holding.{Refused, Accepts, Refuses, refused-some}
use Rattle.demands.proofs.Running.{RunHolds}
use Rattle.demands.proofs.Lasting.{lasts, lasts_holding, lasts_judged, lasts_ran, no_fault}
use Rattle.demands.proofs.Finishing.{finished-sentence}

-- A position that is accepted is judged rightly, ..
judged_accepted : {g : Grammar} {a : Positions} {v : Words} {kinds : List ℕ} {o : Outcome} → Accepts g a v kinds o → Judged g a kinds o.number
judged_accepted {o = o} h = record {
  impossible = ((λ e. absurd (omega (arith, h.zero))), (λ none. absurd (none h.begins)));
  possible = λ n. h.begins;
  otherwise = λ n. subst AcceptedOrNoRoom (sym h.zero) AcceptedOrNoRoom.accepted;
}

-- .. and so is one that is refused.
judged_refused : {g : Grammar} {a : Positions} {kinds : List ℕ} {n : ℕ} → is_position g.tokens kinds ≡ true → Refused g a kinds n → Judged g a kinds n
judged_refused position (Refused.no_token_lem none) = absurd (false≢true (sym none ∙ position))
judged_refused position (Refused.impossible _ none) = record {
  impossible = ((λ e. none), (λ none. refl));
  possible = λ n. absurd (n refl);
  otherwise = λ n. absurd (n refl);
}
judged_refused position (Refused.no_room _ begins room some) = record {
  impossible = ((λ e. absurd ((room-other room).1 e)), (λ none. absurd (none begins)));
  possible = λ n. begins;
  otherwise = λ n. room;
}

-- A run is judged rightly.
run_judged : {g : Grammar} {a : Positions} {v : Words} {b : Positions} {e : Ended} → RunHolds g a v b e → RunJudged g a b e.outcome.number e.taken
run_judged {b = b} {e = e} h = record {
  few = h.few;
  goes_on = h.begins;
  whole = (
    h.all,
    (λ z. elim (dec_lt e.taken (length b)) [ yes l ↦ absurd (refused-some (h.refused l) z) | no n ↦ omega (arith, h.few) ]),
  );
  at_refusal = λ l position. judged_refused position (h.refused l);
}

module _ {file : List ℕ} {s : State} {w : Words} where
  -- EXACTLY THE SENTENCES, of a position.
  pub position-tells : {kinds : List ℕ} {o : Outcome} → Takes file s w kinds o → PositionTells file s w kinds o.number
  position-tells (Takes.refused fault) = record { sentences = λ a h position. absurd (no_fault (lasts h) fault) }
  position-tells {kinds} (Takes.done {g = g} {table = table} ready) = record {
    sentences = λ a h position.
        subst (λ (k : Grammar). Judged k a kinds (stepped g table s (within w) kinds).number) (sym ready.sound.checked.is)
        (⊎_elim
        (λ (first : Accepts g a (within w) kinds (stepped g table s (within w) kinds)). judged_accepted first)
        (λ (r : Refuses g a s (within w) kinds (stepped g table s (within w) kinds)). judged_refused (subst (λ (k : Grammar). is_position k.tokens kinds ≡ true) ready.sound.checked.is position) r.why)
        (lasts_judged (lasts h) ready.sound kinds));
  }

  -- Of a run.
  pub run-tells : {b : Positions} {e : Ended} → Runs file s w b e → RunTells file s w b e
  run-tells (Runs.refused fault) = record { sentences = λ a h. absurd (no_fault (lasts h) fault) }
  run-tells {b} (Runs.done {g = g} {table = table} ready) = record {
    sentences = λ a h.
        subst (λ (k : Grammar). RunJudged k a b (ran g table s (within w) b).outcome.number (ran g table s (within w) b).taken) (sym ready.sound.checked.is)
        (run_judged (lasts_ran (lasts h) ready.sound b));
  }

  -- Of finished.
  pub finished-tells : {n handle : ℕ} {yes : Bool} → Finishes file s w n yes handle → FinishedTells file s w n yes
  finished-tells (Finishes.refused fault) = record { sentences = λ a h. absurd (no_fault (lasts h) fault) }
  finished-tells (Finishes.done formed) = record {
    sentences = λ a h. record {
      done = refl;
      sentence =
          subst (λ (k : Grammar). (last_wraps s (within w) ≡ true) ↔ SpellSentence k a) (sym formed.checked.is)
          (finished-sentence formed.checked.accepted (lasts_holding (lasts h) formed.checked));
    };
  }

  -- What a call does tells what it means.
  pub position_means : {kinds : List ℕ} {o : Outcome} → Takes file s w kinds o → Takes file s w kinds o × PositionTells file s w kinds o.number
  position_means takes = (takes, position-tells takes)

  pub run_means : {b : Positions} {e : Ended} → Runs file s w b e → Runs file s w b e × RunTells file s w b e
  run_means runs = (runs, run-tells runs)

  pub finished_means : {n handle : ℕ} {yes : Bool} → Finishes file s w n yes handle → Finishes file s w n yes handle × FinishedTells file s w n yes
  finished_means finishes = (finishes, finished-tells finishes)
