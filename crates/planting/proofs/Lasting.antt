-- Along every history the handles of all items stay exact, so under the handle that finished tells is every tree, once.
use Rattle.std.proofs.Common.{◌≡◌, refl, sym, ap, ◌∙◌, subst, subst₂, Bool, true, false, List, [], ◌∷◌, ◌++◌, append-nil, append_assoc, ◌↔◌, ℕ, suc, ◌+◌, ◌-◌, ◌/◌, ◌≤◌, ◌<◌, add-one, arith, length, take, take_all, eqb, ltb, ltb-true, eqb-true}
use mathlib.Core.Bool.{false≢true}
use Rattle.laws.proofs.Tests.{both_true}
use Rattle.bits.specs.Width.{row_words}
use Rattle.item.specs.Item.{rule_at, handle_at}
use Rattle.grammar.specs.Rules.{Grammar, start}
use Rattle.grammar.specs.Accepted.{Accepted}
use Rattle.grammar.specs.Prediction.{Predicts}
use Rattle.node.specs.Rows.{all_ones, units_at}
use Rattle.node.specs.Writing.{usable, usable_units}
use Rattle.node.specs.Reading.{spelt}
use Rattle.node.proofs.Runs.{usable-part}
use Rattle.parse.specs.declared.State.{State}
use Rattle.parse.specs.Words.{Words, start_of, set_room, within, beyond, behind}
use Rattle.parse.specs.WellFormed.{WellFormed, InSet}
use Rattle.parse.proofs.Capacities.{SameSizes, sets-room, within_new, store-usable}
use Rattle.demands.specs.Steps.{Outcome, Ended, started, stepped, ran, last_wraps, finished_handle}
use Rattle.demands.specs.Calls.{Checked, Starts, Takes, Runs, Finishes}
use Rattle.demands.specs.Histories.{History}
use Rattle.demands.proofs.Agree.{checked_grammar}
use Rattle.demands.proofs.Cut.{Cut, within-cut, cut-same, sizes_refl, sizes_trans}
use Rattle.demands.proofs.Starting.{started_sizes, started-well}
use Rattle.demands.proofs.Ways.{Ways, ways}
use Rattle.demands.proofs.NextSet.{following_sizes, following_well}
use Rattle.demands.proofs.Running.{ran_on, ran_off}
use Rattle.demands.proofs.Lasting.{lasts, no_fault, start-some}
use Rattle.earley.specs.Positions.{Positions, plain}
use Rattle.earley.proofs.Spelling.{plain-spelt}
use Rattle.forest.specs.Trees.{Tree, Derivation}
use Rattle.forest.specs.Forests.{Node, other, listed}
use Rattle.forest.specs.Every.{Derived}
use Rattle.forest.specs.Stores.{standing, products_at, as_node, node_at, trees_at}
use Rattle.forest.proofs.Onwards.{finished_every}
use Rattle.forest.proofs.Rooted.{Rooted}
use Rattle.forest.proofs.Units.{unit_store}
use Rattle.planting.specs.Finished.{TreesOf, FinishedTrees, TokenTrees}
use Rattle.planting.proofs.Growing.{Grown, start_grown, step_grown}

-- What a parse that has accepted the positions `a` holds, with its forest, in words within the capacities.
pub record Wooded (g : Grammar) (a : Positions) (s : State) (v : Words) : Type 0 where
  pub cut : Cut v
  pub well : WellFormed g.symbols g.rules s v
  pub grown : Grown g a s v

-- A position is accepted, or everything is as it was.
data Stepped (g : Grammar) (a : Positions) (s : State) (v : Words) (kinds : List ℕ) (o : Outcome) : Type 0 where
  on : o.number ≡ 0 → SameSizes o.words v → Wooded g (a ++ kinds ∷ []) o.state o.words → Stepped g a s v kinds o
  off : (o.number ≡ 0 → ⊥) → o.state ≡ s → o.words ≡ v → Stepped g a s v kinds o

module _ {g : Grammar} {table : List (List ℕ)} (accepted : Accepted g) (predicts : Predicts g row_words table) where
  start_wooded : (v : Words) → Cut v → 0 < length v.rows / row_words → Wooded g [] (started g table v).state (started g table v).words
  start_wooded v cut some = record {
    cut = cut-same (started_sizes accepted predicts v some) cut;
    well = started-well accepted predicts v some;
    grown = start_grown accepted predicts v some;
  }

  by_way : {a : Positions} {s : State} {v : Words} {kinds : List ℕ} {o : Outcome} → Wooded g a s v → Ways g table s v kinds o → Stepped g a s v kinds o
  by_way w (Ways.no_token_lem none) = off (λ e. omega arith) refl refl
  by_way w (Ways.not_predicted_lem position n) = off (λ e. omega arith) refl refl
  by_way w (Ways.full position there n) = off n refl refl
  by_way w (Ways.no_room position there going l) = off (λ e. omega arith) refl refl
  by_way {kinds = kinds} w (Ways.done position there going room) =
      let sizes = following_sizes accepted predicts w.well w.cut kinds position room in
      on refl sizes
      (record {
        cut = cut-same sizes w.cut;
        well = following_well accepted predicts w.well w.cut kinds position room;
        grown = step_grown accepted predicts w.well w.cut kinds position going room w.grown;
      })

  step_wooded : {a : Positions} {s : State} {v : Words} (kinds : List ℕ) → Wooded g a s v → Stepped g a s v kinds (stepped g table s v kinds)
  step_wooded {s = s} {v = v} kinds w = by_way w (ways g table s v kinds)

  -- A run over `b`.
  record Ran (a : Positions) (v : Words) (b : Positions) (e : Ended) : Type 0 where
    pub sizes : SameSizes e.outcome.words v
    pub wooded : Wooded g (a ++ take e.taken b) e.outcome.state e.outcome.words

  run_wooded : (b : Positions) {a : Positions} {s : State} {v : Words} → Wooded g a s v → Ran a v b (ran g table s v b)
  unfolding ran
  run_wooded [] {a} {s} {v} w = record { sizes = sizes_refl v; wooded = subst (λ (c : Positions). Wooded g c s v) (sym (append-nil a)) w }
  run_wooded (kinds ∷ b) {a} {s} {v} w = by_step (step_wooded kinds w) (λ x. run_wooded b x)
    where
      by_step : Stepped g a s v kinds (stepped g table s v kinds)
          → (Wooded g (a ++ kinds ∷ []) (stepped g table s v kinds).state (stepped g table s v kinds).words
          → Ran (a ++ kinds ∷ []) (stepped g table s v kinds).words b (ran g table (stepped g table s v kinds).state (stepped g table s v kinds).words b))
          → Ran a v (kinds ∷ b) (ran g table s v (kinds ∷ b))
      by_step (on zero sizes next) further =
          let e : Ended = ran g table (stepped g table s v kinds).state (stepped g table s v kinds).words b in
          let rest : Ran (a ++ kinds ∷ []) (stepped g table s v kinds).words b e = further next in
          subst (Ran a v (kinds ∷ b)) (sym (ran_on g table s v kinds b zero))
          (record {
            sizes = sizes_trans rest.sizes sizes;
            wooded = subst (λ (c : Positions). Wooded g c e.outcome.state e.outcome.words)
                (append_assoc a (kinds ∷ []) (take e.taken b) ∙ ap (λ (n : ℕ). a ++ take n (kinds ∷ b)) (sym (add-one e.taken))) rest.wooded;
          })
      by_step (off some state words) further =
          subst (Ran a v (kinds ∷ b)) (sym (ran_off g table s v kinds b some))
          (record {
            sizes = subst (λ (u : Words). SameSizes u v) (sym words) (sizes_refl v);
            wooded = subst (λ (c : Positions). Wooded g c (stepped g table s v kinds).state (stepped g table s v kinds).words) (sym (append-nil a))
                (subst₂ (Wooded g a) (sym state) (sym words) w);
          })

-- The same along a history, under the grammar that the file gives.
pub record Stands (file : List ℕ) (s : State) (w : Words) (a : Positions) : Type 0 where
  pub grammar : Grammar
  pub checked : Checked file grammar
  pub wooded : Wooded grammar a s (within w)

pub stands_wooded : {file : List ℕ} {s : State} {w : Words} {a : Positions} {g : Grammar} → Stands file s w a → Checked file g → Wooded g a s (within w)
stands_wooded {s = s} {w = w} {a = a} l checked = subst (λ (k : Grammar). Wooded k a s (within w)) (checked_grammar l.checked checked) l.wooded

-- Words of the same sizes, put in the place of those within the capacities, are those within them.
in_place_lem : {file : List ℕ} {g : Grammar} {a : Positions} {s : State} {v : Words} (w : Words) → Checked file g → 1 ≤ set_room w → SameSizes v (within w)
    → Wooded g a s v → Stands file s (behind v (beyond w)) a
in_place_lem {g = g} {a = a} {s = s} {v = v} w checked some same h =
    record { grammar = g; checked = checked; wooded = subst (Wooded g a s) (sym (within_new w v some same)) h }

stands-start : {file : List ℕ} {s : State} {w : Words} {o : Outcome} → Starts file s w o → o.number ≡ 0 → Stands file o.state o.words []
stands-start (Starts.refused fault) e = absurd (start-some fault e)
stands-start {w = w} (Starts.done sound some) e =
    let sets : 0 < length (within w).rows / row_words = omega (arith, sets-room w) in
    in_place_lem w sound.checked (omega arith) (started_sizes sound.checked.accepted sound.predicts (within w) sets)
    (start_wooded sound.checked.accepted sound.predicts (within w) (within-cut w some) sets)

module _ {file : List ℕ} {s : State} {w : Words} {a : Positions} (h : History file s w a) (l : Stands file s w a) where
  room : 1 ≤ set_room w
  room = omega (arith, l.wooded.well.set_fits, sets-room w)

  accepted_on : {kinds : List ℕ} {o : Outcome} → Takes file s w kinds o → o.number ≡ 0 → Stands file o.state o.words (a ++ (kinds ∷ []))
  accepted_on (Takes.refused fault) e = absurd (no_fault (lasts h) fault)
  accepted_on {kinds} (Takes.done {g = g} {table = table} ready) e =
      by_step (step_wooded ready.sound.checked.accepted ready.sound.predicts kinds (stands_wooded l ready.sound.checked))
    where
      by_step : Stepped g a s (within w) kinds (stepped g table s (within w) kinds)
          → Stands file (stepped g table s (within w) kinds).state (behind (stepped g table s (within w) kinds).words (beyond w)) (a ++ (kinds ∷ []))
      by_step (on zero sizes next) = in_place_lem w ready.sound.checked room sizes next
      by_step (off some state words) = absurd (some e)

  not_accepted_on : {kinds : List ℕ} {o : Outcome} → Takes file s w kinds o → (o.number ≡ 0 → ⊥) → Stands file o.state o.words a
  not_accepted_on (Takes.refused fault) n = l
  not_accepted_on {kinds} (Takes.done {g = g} {table = table} ready) n =
      by_step (step_wooded ready.sound.checked.accepted ready.sound.predicts kinds (stands_wooded l ready.sound.checked))
    where
      by_step : Stepped g a s (within w) kinds (stepped g table s (within w) kinds)
          → Stands file (stepped g table s (within w) kinds).state (behind (stepped g table s (within w) kinds).words (beyond w)) a
      by_step (on zero sizes next) = absurd (n zero)
      by_step (off some state words) =
          in_place_lem w ready.sound.checked room (subst (λ (u : Words). SameSizes u (within w)) (sym words) (sizes_refl (within w)))
          (subst₂ (Wooded g a) (sym state) (sym words) (stands_wooded l ready.sound.checked))

  run_on : {b : Positions} {e : Ended} → Runs file s w b e → Stands file e.outcome.state e.outcome.words (a ++ take e.taken b)
  run_on (Runs.refused fault) = absurd (no_fault (lasts h) fault)
  run_on {b} (Runs.done {g = g} {table = table} ready) =
      let r = run_wooded ready.sound.checked.accepted ready.sound.predicts b (stands_wooded l ready.sound.checked) in
      in_place_lem w ready.sound.checked room r.sizes r.wooded

  not_started_on : {o : Outcome} → Starts file s w o → (o.number ≡ 0 → ⊥) → Stands file o.state o.words a
  not_started_on (Starts.refused fault) n = l
  not_started_on (Starts.done sound some) n = absurd (n refl)

-- EVERY HISTORY'S FOREST STANDS.
pub stands : {file : List ℕ} {s : State} {w : Words} {a : Positions} → History file s w a → Stands file s w a
stands (History.fresh starts zero) = stands-start starts zero
stands (History.accepted h takes zero) = accepted_on h (stands h) takes zero
stands (History.not_accepted h takes some) = not_accepted_on h (stands h) takes some
stands (History.run h runs) = run_on h (stands h) runs
stands (History.not_started h starts some) = not_started_on h (stands h) starts some

-- The nodes of a store are those of its usable units.
nodes-usable : (s t : List ℕ) → usable s ≡ usable t → node_at s ≡ node_at t
unfolding node_at
nodes-usable s t same =
    λ i h. standing (same i) h (spelt (same i) h) (λ w. as_node w (λ n. products_at n (same i) (h + length (units_at h w)))) other

-- The units within the capacities are the usable ones.
pub within-usable : (w : Words) → usable (within w).store ≡ usable w.store
within-usable w = take_all usable_units (within w).store (store-usable w) ∙ usable-part _ w.store refl

within-nodes : (w : Words) → node_at (within w).store ≡ node_at w.store
within-nodes w = nodes-usable (within w).store w.store (within-usable w)

module _ {g : Grammar} {a : Positions} {s : State} {v : Words} (accepted : Accepted g) (wooded : Wooded g a s v) (says : last_wraps s v ≡ true) where
  both : (ltb (start_of v s.set) s.items ≡ true) × (eqb (rule_at v.items (s.items - 1)) 0 ≡ true)
  both = both_true (ltb (start_of v s.set) s.items) (eqb (rule_at v.items (s.items - 1)) 0) says

  last_in_lem : InSet v s.set (s.items - 1)
  last_in_lem =
      let some : start_of v s.set < s.items = ltb-true (start_of v s.set) s.items both.0 in
      record { from = omega arith; up_to = omega (arith, wooded.well.last_start) }

  zero-rule : rule_at v.items (s.items - 1) ≡ 0
  zero-rule = eqb-true (rule_at v.items (s.items - 1)) 0 both.1

  told : handle_at v.items (s.items - 1) ≡ finished_handle s v
  told = sym (ap (λ (b : Bool). elim b as (λ (t : Bool). ℕ) [ true ↦ handle_at v.items (s.items - 1) | false ↦ all_ones ]) says)

  -- Under the handle of rule 0's item is every tree.
  pub last-trees : TreesOf g a (trees_at v.store (finished_handle s v))
  last-trees =
      subst (λ h. TreesOf g a (trees_at v.store h)) told
      (finished_every accepted wooded.grown.holds wooded.grown.handled last_in_lem
      (record { place = s.items - 1; in_set = last_in_lem; origin = refl; rule = zero-rule }) zero-rule (suc (handle_at v.items (s.items - 1))) (omega arith))

  -- And that handle is rooted.
  pub last_rooted : Rooted (unit_store v.store) s.used (finished_handle s v)
  last_rooted = subst (Rooted (unit_store v.store) s.used) told (wooded.grown.handled.held s.set (s.items - 1) last_in_lem).rooted

-- EVERY TREE, EACH ONCE, under the handle that finished tells.
pub finished-trees : {file : List ℕ} {s : State} {w : Words} {number : ℕ} {yes : Bool} {handle : ℕ} → Finishes file s w number yes handle
    → FinishedTrees file s w yes handle
finished-trees (Finishes.refused fault) = record { trees = λ a h says. absurd (false≢true says) }
finished-trees {file} {s} {w} (Finishes.done {g = g} formed) = record {
  trees = λ a h says.
      subst (λ (k : Grammar). TreesOf k a (trees_at w.store (finished_handle s (within w)))) (sym formed.checked.is)
      (subst (λ (node : ℕ → Node). TreesOf g a (listed node (suc (finished_handle s (within w))) (finished_handle s (within w)))) (within-nodes w)
      (last-trees formed.checked.accepted (stands_wooded (stands h) formed.checked) says));
}

-- The word that positions of one kind each spell is that of their tokens.
plain_derived : {g : Grammar} (ts : List ℕ) (d : Tree) → Derived g (plain ts) d (start g) 0 (length (plain ts)) ↔ Derivation g d (start g) ts
plain_derived {g} ts d = (
  (λ derived. subst (Derivation g d (start g)) ((plain-spelt ts derived.word).0 derived.spelt) derived.derivation),
  λ derivation. record { word = ts; spelt = (plain-spelt ts ts).1 refl; derivation = derivation },
)

-- Of positions of one kind each these are the derivations of their tokens.
pub plain-trees : {g : Grammar} (ts : List ℕ) {trees : List Tree} → TreesOf g (plain ts) trees ↔ TokenTrees g ts trees
plain-trees {g} ts = (
  (λ of. record { all = λ d. ((λ m. (plain_derived ts d).0 ((of.all d).0 m)), λ d'. (of.all d).1 ((plain_derived ts d).1 d')); once = of.once; words = of.words }),
  λ of. record { all = λ d. ((λ m. (plain_derived ts d).1 ((of.all d).0 m)), λ d'. (of.all d).1 ((plain_derived ts d).0 d')); once = of.once; words = of.words },
)
