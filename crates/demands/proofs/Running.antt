-- A run keeps what a parse holds, position after position, up to the first refusal.
use mathlib.Core.Path.{◌≡◌, refl, sym, ap, ◌∙◌, subst, subst₂}
use mathlib.Core.Logic.{⊎_elim}
use mathlib.Core.List.{List, [], ◌∷◌, ◌++◌, append-nil, append_assoc}
use Prim.Native.Nat.{ℕ, zero, suc, ◌+◌, ◌≤◌, ◌<◌}
use native.Mathlib.Numerals.{add-one}
use native.Mathlib.Omega.{arith}
use lib.ListN.{length, get_or, take}
use borrow.Author.Tests.{eq-eqb, ne_eqb}
use Rattle.bits.specs.Width.{row_words}
use Rattle.grammar.specs.Rules.{Grammar}
use Rattle.grammar.specs.Accepted.{Accepted}
use Rattle.grammar.specs.Prediction.{Predicts}
use Rattle.parse.specs.declared.State.{State}
use Rattle.parse.specs.Words.{Words}
use Rattle.parse.proofs.Capacities.{SameSizes}
use Rattle.earley.specs.Positions.{Positions, SpellBeginning}
use Rattle.demands.specs.Steps.{Outcome, Ended, one_more, stepped, ran}
use Rattle.demands.proofs.Cut.{sizes_refl, sizes_trans}
use Rattle.demands.proofs.Holding.{Holding, Refused, Accepts, Refuses, refused-some, step_judged}

-- A run over `b` of a parse that has accepted `a`: what it holds then, and how it ended.
pub record RunHolds (g : Grammar) (a : Positions) (v : Words) (b : Positions) (e : Ended) : Type 0 where
  pub few : e.taken ≤ length b
  pub begins : (i : ℕ) → i < e.taken → SpellBeginning g (a ++ take (suc i) b)
  pub sizes : SameSizes e.outcome.words v
  pub holding : Holding g (a ++ take e.taken b) e.outcome.state e.outcome.words
  pub all : e.taken ≡ length b → e.outcome.number ≡ 0
  pub refused : e.taken < length b → Refused g (a ++ take e.taken b) (get_or b e.taken []) e.outcome.number

-- A position before others.
on_end : (a : Positions) (kinds : List ℕ) (b : Positions) → (a ++ kinds ∷ []) ++ b ≡ a ++ kinds ∷ b
on_end a kinds b = append_assoc a (kinds ∷ []) b

module _ (g : Grammar) (table : List (List ℕ)) (s : State) (v : Words) (kinds : List ℕ) (b : Positions) where
  -- A run goes on behind a position that is accepted, and ends at one that is refused.
  pub ran_on : (stepped g table s v kinds).number ≡ 0 → ran g table s v (kinds ∷ b) ≡ one_more (ran g table (stepped g table s v kinds).state (stepped g table s v kinds).words b)
  unfolding ran
  ran_on e = rw (ran, eq-eqb (stepped g table s v kinds).number 0 e) refl

  pub ran_off : ((stepped g table s v kinds).number ≡ 0 → ⊥) → ran g table s v (kinds ∷ b) ≡ record { outcome = stepped g table s v kinds; taken = 0 }
  unfolding ran
  ran_off n = rw (ran, ne_eqb (stepped g table s v kinds).number 0 n) refl

-- One position more before a run.
run_more : {g : Grammar} {a : Positions} {v : Words} {kinds : List ℕ} {o : Outcome} {b : Positions} {e : Ended} → Accepts g a v kinds o → RunHolds g (a ++ kinds ∷ []) o.words b e
    → RunHolds g a v (kinds ∷ b) (one_more e)
run_more {g} {a} {v} {kinds} {o} {b} {e} first rest = record {
  few = omega (arith, rest.few);
  begins = begins;
  sizes = sizes_trans rest.sizes first.sizes;
  holding = subst (λ (c : Positions). Holding g c e.outcome.state e.outcome.words) (on_end a kinds (take e.taken b) ∙ ap (λ (n : ℕ). a ++ take n (kinds ∷ b)) (sym (add-one e.taken))) rest.holding;
  all = λ l. rest.all (omega arith);
  refused = λ l.
      subst₂ (λ (c : Positions) (u : List ℕ). Refused g c u e.outcome.number)
      (on_end a kinds (take e.taken b) ∙ ap (λ (n : ℕ). a ++ take n (kinds ∷ b)) (sym (add-one e.taken)))
      (ap (λ (n : ℕ). get_or (kinds ∷ b) n []) (sym (add-one e.taken)))
      (rest.refused (omega arith));
}
  where
    begins : (i : ℕ) → i < e.taken + 1 → SpellBeginning g (a ++ take (suc i) (kinds ∷ b))
    begins zero l = first.begins
    begins (suc i) l = subst (SpellBeginning g) (on_end a kinds (take (suc i) b)) (rest.begins i (omega arith))

-- A run that ends at its first position.
run_none : {g : Grammar} {a : Positions} {s : State} {v : Words} {kinds : List ℕ} {o : Outcome} {b : Positions} → Holding g a s v → Refuses g a s v kinds o
    → RunHolds g a v (kinds ∷ b) (record { outcome = o; taken = 0 })
run_none {g} {a} {s} {v} {kinds} {o} {b} h r = record {
  few = omega arith;
  begins = λ i l. absurd (omega arith);
  sizes = subst (λ (u : Words). SameSizes u v) (sym r.words) (sizes_refl v);
  holding = subst (λ (c : Positions). Holding g c o.state o.words) (sym (append-nil a)) (subst₂ (Holding g a) (sym r.state) (sym r.words) h);
  all = λ l. absurd (omega arith);
  refused = λ l. subst (λ (c : Positions). Refused g c kinds o.number) (sym (append-nil a)) r.why;
}

module _ {g : Grammar} {table : List (List ℕ)} (accepted : Accepted g) (predicts : Predicts g row_words table) where
  -- A RUN EQUALS ONE STEP A POSITION, up to the first refusal.
  pub run_holds : (b : Positions) {a : Positions} {s : State} {v : Words} → Holding g a s v → RunHolds g a v b (ran g table s v b)
  unfolding ran
  run_holds [] {a} {s} {v} h = record {
    few = omega arith;
    begins = λ i l. absurd (omega arith);
    sizes = sizes_refl v;
    holding = subst (λ (c : Positions). Holding g c s v) (sym (append-nil a)) h;
    all = λ l. refl;
    refused = λ l. absurd (omega arith);
  }
  run_holds (kinds ∷ b) {a} {s} {v} h =
      ⊎_elim
      (λ (first : Accepts g a v kinds (stepped g table s v kinds)).
      subst (RunHolds g a v (kinds ∷ b)) (sym (ran_on g table s v kinds b first.zero)) (run_more first (run_holds b first.holding)))
      (λ (r : Refuses g a s v kinds (stepped g table s v kinds)).
      subst (RunHolds g a v (kinds ∷ b)) (sym (ran_off g table s v kinds b (refused-some r.why))) (run_none h r))
      (step_judged accepted predicts h kinds)
