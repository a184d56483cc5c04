-- What follows from a completed pair, and that completing a pair brings all of it and nothing else.
use mathlib.Core.Path.{◌≡◌, refl, sym, ap, ◌∙◌, subst}
use mathlib.Core.Bool.{true, ◌&&◌, not, false≢true}
use mathlib.Core.List.{List}
use Prim.Native.Nat.{ℕ, ◌+◌, ◌-◌, ◌≤◌, ◌<◌}
use native.Mathlib.Decide.{dec_lt}
use native.Mathlib.Omega.{arith}
use lib.ListN.{length, get_or}
use lib.Dec.{eqb}
use borrow.Author.Tests.{eqb-true, eqb-false, eq-eqb, ne_eqb}
use Rattle.laws.proofs.Tests.{either_way, both_true}
use Rattle.item.specs.Item.{Item, item_at, origin_at, rule_at}
use Rattle.grammar.specs.Rules.{Rule, none, no_rule}
use Rattle.parse.specs.declared.State.{State}
use Rattle.parse.specs.Words.{Words}
use Rattle.parse.specs.WellFormed.{left_of, second_of}
use Rattle.node.specs.Rows.{all_ones}
use Rattle.node.specs.declared.Node.{Node}
use Rattle.completion.specs.Pass.{Pass, and_then, store, enqueue, append}
use Rattle.completion.specs.Complete.{predicted, waits, complete_medial, complete_medial_items, complete_unary, complete_unary_predictions, complete_binary, complete_binary_predictions, complete}
use Rattle.completion.specs.inner.Ready.{IsSet, PassFits, Charted}
use Rattle.completion.proofs.Waiting.{store-place}
use Rattle.completion.proofs.Searching.{enqueue-count}
use Rattle.completion.proofs.Entries.{append-count, append-items}
use Rattle.completion.proofs.Onward.{onward_store, onward_enqueue}
use Rattle.completion.proofs.Through.{Begins, Inside}
use Rattle.completion.proofs.Charting.{stored-new}
use Rattle.completion.proofs.Heaped.{Heaped, heaped_store, heaped_enqueue, heaped_append}
use Rattle.completion.proofs.Beginning.{beginning}
use Rattle.demands.proofs.Chart.{New}
use Rattle.demands.proofs.Growing.{Queued, Grows, Step, grows_trans, grows_store, grows_enqueue, queued_grows, new_grows, entry_new, step_skips, step_then, step_brings, over_steps}

-- The pair of an item, its origin and its left side, has `T`.
abbrev pub OfPair : (ℕ → ℕ → Type 0) → List Rule → Item → Type 0
OfPair T rs i = T i.origin (left_of rs i)

-- What was completed calls for an item of origin `o` and rule `r`, A ::= x Y: `o` and `x` are a completed pair, and row `o` has `x` and A.
pub record Calls (rs : List Rule) (rows : List ℕ) (done : ℕ → ℕ → Type 0) (o r : ℕ) : Type 0 where
  pub completed : done o (get_or rs r no_rule).first
  pub first : predicted rows o (get_or rs r no_rule).first ≡ true
  pub left : predicted rows o (get_or rs r no_rule).left ≡ true

-- The pair of an item of origin `o` and rule `r` was completed, or such an item is queued.
pub data Met (rs : List Rule) (done : ℕ → ℕ → Type 0) (s : Pass) (o r : ℕ) : Type 0 where
  completed : done o (get_or rs r no_rule).left → Met rs done s o r
  queued : Queued s o r → Met rs done s o r

-- It stays so while a pass only grows.
pub met_grows : {rs : List Rule} {done : ℕ → ℕ → Type 0} {s t : Pass} (o r : ℕ) → PassFits s → Grows s t → Met rs done s o r → Met rs done t o r
met_grows o r sound grows (Met.completed c) = Met.completed c
met_grows o r sound grows (Met.queued q) = Met.queued (queued_grows sound grows q)

-- And with more pairs completed.
pub met-more : {rs : List Rule} {done done' : ℕ → ℕ → Type 0} {s : Pass} {o r : ℕ} → ((k x : ℕ) → done k x → done' k x)
    → Met rs done s o r → Met rs done' s o r
met-more more (Met.completed c) = Met.completed (more _ _ c)
met-more more (Met.queued q) = Met.queued q

-- More pairs call for no fewer items.
pub calls_more : {rs : List Rule} {rows : List ℕ} {done done' : ℕ → ℕ → Type 0} {o r : ℕ} → ((k x : ℕ) → done k x → done' k x)
    → Calls rs rows done o r → Calls rs rows done' o r
calls_more more calls = record { completed = more _ _ calls.completed; first = calls.first; left = calls.left }

-- Of one item they call for as of another that is the same.
calls_as : {rs : List Rule} {rows : List ℕ} {done : ℕ → ℕ → Type 0} {i j : Item} → i ≡ j → Calls rs rows done i.origin i.rule
    → Calls rs rows done j.origin j.rule
calls_as {rs} {rows} {done} same calls = subst (λ (i : Item). Calls rs rows done i.origin i.rule) same calls

-- The item of the sets at place `p` is queued, if its second is `x`.
abbrev QueuedIf : List Rule → Words → ℕ → ℕ → Pass → Type 0
QueuedIf rs v x p s = second_of rs (item_at v.items p) ≡ x → Queued s (origin_at v.items p) (rule_at v.items p)

-- A rule that waits begins with the symbol, and one that begins with it waits.
module _ (rs : List Rule) (rows : List ℕ) (k x r : ℕ) where
  wait_begins : r < length rs → waits rs rows k x r ≡ true → Begins rs rows k x r
  wait_begins is_rule waiting =
      let both = both_true (eqb (get_or rs r no_rule).first x) (predicted rows k (get_or rs r no_rule).left) waiting in
      record { is_rule = is_rule; begins = eqb-true (get_or rs r no_rule).first x both.0; left-predicted = both.1 }

  begins_wait : Begins rs rows k x r → waits rs rows k x r ≡ true
  begins_wait begins = rw (eq-eqb (get_or rs r no_rule).first x begins.begins, begins.left-predicted) refl

module _ (rs : List Rule) (st : State) (v : Words) where
  -- All that follows from the pair of set `k` and symbol `x` was completed, is queued, or is stored.
  pub record Follows (done : ℕ → ℕ → Type 0) (s : Pass) (k x : ℕ) : Type 0 where
    pub medial : (p : ℕ) → Inside v.starts k p → second_of rs (item_at v.items p) ≡ x → Met rs done s (origin_at v.items p) (rule_at v.items p)
    pub unary : (r : ℕ) → Begins rs v.rows k x r → (get_or rs r no_rule).second ≡ none → Met rs done s k r
    pub binary : (r : ℕ) → Begins rs v.rows k x r → ((get_or rs r no_rule).second ≡ none → ⊥) → New st s k r

  -- What was met is met still, and what was stored is stored still.
  pub follows_on : {done done' : ℕ → ℕ → Type 0} {s t : Pass} {k x : ℕ} → ((o r : ℕ) → Met rs done s o r → Met rs done' t o r)
      → ((o r : ℕ) → New st s o r → New st t o r) → Follows done s k x → Follows done' t k x
  follows_on {k = k} met new follows =
      record {
        medial = λ p inside second. met (origin_at v.items p) (rule_at v.items p) (follows.medial p inside second);
        unary = λ r begins one. met k r (follows.unary r begins one);
        binary = λ r begins two. new k r (follows.binary r begins two);
      }

  -- `T` holds of all that follows from a pair of which it holds.
  pub record Closed (T : ℕ → ℕ → Type 0) : Type 0 where
    pub medial :
        (k x p : ℕ) → T k x → predicted v.rows k x ≡ true → Inside v.starts k p → second_of rs (item_at v.items p) ≡ x
        → OfPair T rs (item_at v.items p)
    pub unary :
        (k x r : ℕ) → T k x → predicted v.rows k x ≡ true → Begins rs v.rows k x r → (get_or rs r no_rule).second ≡ none
        → T k (get_or rs r no_rule).left

  -- A pass on its way: the pairs of its entries have `T`, and what was completed calls for its new items.
  pub record Kept (T done : ℕ → ℕ → Type 0) (s : Pass) : Type 0 where
    pub heaped : Heaped rs v.starts (OfPair T rs) (beginning st v) s
    pub calls : (p : ℕ) → st.items ≤ p → p < s.at.items → Calls rs v.rows done (origin_at s.items p) (rule_at s.items p)

  -- With more pairs completed it is so still.
  pub kept_more : {T done done' : ℕ → ℕ → Type 0} {s : Pass} → ((k x : ℕ) → done k x → done' k x) → Kept T done s → Kept T done' s
  kept_more more kept = record { heaped = kept.heaped; calls = λ p from up_to. calls_more more (kept.calls p from up_to) }

  module _ {T done : ℕ → ℕ → Type 0} where
    pub kept-sound : {s : Pass} → Kept T done s → PassFits s
    kept-sound kept = kept.heaped.steady.sound

    -- A queued item.
    pub kept-enqueue : (place right : ℕ) (s : Pass) → place < s.at.items → OfPair T rs (item_at s.items place) → Kept T done s
        → Kept T done (enqueue place right s)
    kept-enqueue place right s there holds kept =
        record {
          heaped = heaped_enqueue rs v.starts (OfPair T rs) (beginning st v) place right s there holds kept.heaped;
          calls = λ p from up_to.
              let old : p < s.at.items = omega (arith, enqueue-count place right s) in
              calls_as (sym ((onward_enqueue place right s (kept-sound kept).queued_fit).same-items p old)) (kept.calls p from old);
        }

    -- A stored item that a completed pair calls for.
    pub kept_store : (k r link : ℕ) (s : Pass) → IsSet v.starts k → r < length rs → Calls rs v.rows done k r → Kept T done s
        → Kept T done (store k r link s)
    kept_store k r link s set rule called kept =
        record {
          heaped = heaped_store rs v.starts (OfPair T rs) (beginning st v) k r link s set rule kept.heaped;
          calls = λ p from up_to.
              elim (dec_lt p s.at.items) [
                | yes old ↦ calls_as (sym ((onward_store k r link s).same-items p old)) (kept.calls p from old)
                | no new ↦ calls_as (sym (stored-new k r link s (kept-sound kept) p (omega arith) up_to)) called
              ];
        }

    -- A written node.
    pub kept_append : (n : Node) (s : Pass) → Kept T done s → Kept T done (append n s)
    kept_append n s kept =
        record {
          heaped = heaped_append rs v.starts (OfPair T rs) (beginning st v) n s kept.heaped;
          calls = λ p from up_to.
              let old : p < s.at.items = omega (arith, append-count n s) in
              calls_as (ap (λ (w : List ℕ). item_at w p) (sym (append-items n s))) (kept.calls p from old);
        }

    -- Completing the pair of set `k` and symbol `x`, with `x` in row `k`.
    module _ (closed : Closed T) (charted : Charted rs v.starts (beginning st v)) (k x link : ℕ) (set : IsSet v.starts k) (holds : T k x)
        (completes : done k x) (there : predicted v.rows k x ≡ true) where
      calls_for : (r : ℕ) → Begins rs v.rows k x r → Calls rs v.rows done k r
      calls_for r begins =
          record {
            completed = subst (done k) (sym begins.begins) completes;
            first = subst (λ (y : ℕ). predicted v.rows k y ≡ true) (sym begins.begins) there;
            left = begins.left-predicted;
          }

      -- The item of set `k` at place `p`, if its second is `x`, is queued.
      medial_step : (p : ℕ) (s : Pass) → Inside v.starts k p → Kept T done s
          → Step (Kept T done) (QueuedIf rs v x p) s (complete_medial rs x link p s)
      unfolding complete_medial
      medial_step p s inside kept =
          let old : p < st.items = omega (arith, inside.up_to, charted.starts_fit (k + 1)) in
          let now : p < s.at.items = omega (arith, kept.heaped.steady.onward.more-items) in
          let same : item_at s.items p ≡ item_at v.items p = kept.heaped.steady.onward.same-items p old in
          step_then s _ kept
          (λ on.
          either_way (eqb (second_of rs (item_at s.items p)) x)
          (λ is.
          let second : second_of rs (item_at v.items p) ≡ x = sym (ap (second_of rs) same) ∙ eqb-true (second_of rs (item_at s.items p)) x is in
          let queueing = (onward_enqueue p link s (kept-sound kept).queued_fit).same-items p now in
          rw is
          (record {
            kept = kept-enqueue p link s now (subst (OfPair T rs) (sym same) (closed.medial k x p holds there inside second)) kept;
            grows = grows_enqueue p link s (kept-sound kept);
            before = λ still. on;
            brings = λ still second.
                record {
                  place = p;
                  entry = entry_new s (kept-sound kept) p link still;
                  origin = ap (λ (i : Item). i.origin) (queueing ∙ same);
                  rule = ap (λ (i : Item). i.rule) (queueing ∙ same);
                };
          }))
          (λ other.
          rw other
          (step_skips s kept
          (λ still second. absurd (eqb-false (second_of rs (item_at s.items p)) x other (ap (second_of rs) same ∙ second))))))

      -- Rule `r`, if it is A ::= x with A in row `k`, is stored and queued.
      unary_step : (r : ℕ) (s : Pass) → r < length rs → Kept T done s
          → Step (Kept T done) (λ t. Begins rs v.rows k x r → (get_or rs r no_rule).second ≡ none → Queued t k r) s
          (complete_unary rs v.rows k x link r s)
      unfolding complete_unary
      unary_step r s is_rule kept =
          step_then s _ kept
          (λ on.
          either_way (eqb (get_or rs r no_rule).second none && waits rs v.rows k x r)
          (λ both.
          let halves = both_true (eqb (get_or rs r no_rule).second none) (waits rs v.rows k x r) both in
          let begins : Begins rs v.rows k x r = wait_begins rs v.rows k x r is_rule halves.1 in
          let one : (get_or rs r no_rule).second ≡ none = eqb-true (get_or rs r no_rule).second none halves.0 in
          rw both (both_step r s kept begins one on))
          (λ other.
          rw other
          (step_skips s kept
          (λ still begins one.
          let both : (eqb (get_or rs r no_rule).second none && waits rs v.rows k x r) ≡ true =
          rw (eq-eqb (get_or rs r no_rule).second none one, begins_wait rs v.rows k x r begins) refl in
          absurd (false≢true (sym other ∙ both))))))
        where
          both_step : (r : ℕ) (s : Pass) → Kept T done s → Begins rs v.rows k x r → (get_or rs r no_rule).second ≡ none → s.at.stopped ≡ 0
              → Step (Kept T done) (λ t. Begins rs v.rows k x r → (get_or rs r no_rule).second ≡ none → Queued t k r) s
              (and_then (store k r link s) (enqueue s.at.items all_ones))
          both_step r s kept begins one on =
              let between : Kept T done (store k r link s) = kept_store k r link s set begins.is_rule (calls_for r begins) kept in
              let queueing : Step (Kept T done) (λ t. Queued t k r) (store k r link s) (and_then (store k r link s) (enqueue s.at.items all_ones)) =
              step_then (store k r link s) (enqueue s.at.items all_ones) between
              (λ on.
              let place : s.at.items < (store k r link s).at.items = store-place k r link s on in
              let is : item_at (store k r link s).items s.at.items ≡ record { origin = k; rule = r; handle = link } =
              stored-new k r link s (kept-sound kept) s.at.items (omega arith) place in
              let queued = (onward_enqueue s.at.items all_ones (store k r link s) (kept-sound between).queued_fit).same-items s.at.items place in
              record {
                kept = kept-enqueue s.at.items all_ones (store k r link s) place
                    (subst (OfPair T rs) (sym is) (closed.unary k x r holds there begins one)) between;
                grows = grows_enqueue s.at.items all_ones (store k r link s) (kept-sound between);
                before = λ still. on;
                brings = λ still.
                    record {
                      place = s.at.items;
                      entry = entry_new (store k r link s) (kept-sound between) s.at.items all_ones still;
                      origin = ap (λ (i : Item). i.origin) (queued ∙ is);
                      rule = ap (λ (i : Item). i.rule) (queued ∙ is);
                    };
              }) in
              record {
                kept = queueing.kept;
                grows = grows_trans (grows_store k r link s) queueing.grows;
                before = λ still. on;
                brings = λ still begins one. queueing.brings still;
              }

      -- Rule `r`, if it is A ::= x Y with A in row `k`, is stored.
      binary_step : (r : ℕ) (s : Pass) → r < length rs → Kept T done s
          → Step (Kept T done) (λ t. Begins rs v.rows k x r → ((get_or rs r no_rule).second ≡ none → ⊥) → New st t k r) s
          (complete_binary rs v.rows k x link r s)
      unfolding complete_binary
      binary_step r s is_rule kept =
          step_then s _ kept
          (λ on.
          either_way (not (eqb (get_or rs r no_rule).second none) && waits rs v.rows k x r)
          (λ both.
          let halves = both_true (not (eqb (get_or rs r no_rule).second none)) (waits rs v.rows k x r) both in
          let begins : Begins rs v.rows k x r = wait_begins rs v.rows k x r is_rule halves.1 in
          rw both
          (record {
            kept = kept_store k r link s set is_rule (calls_for r begins) kept;
            grows = grows_store k r link s;
            before = λ still. on;
            brings = λ still begins two. stored still;
          }))
          (λ other.
          rw other
          (step_skips s kept
          (λ still begins two.
          let both : (not (eqb (get_or rs r no_rule).second none) && waits rs v.rows k x r) ≡ true =
          rw (ne_eqb (get_or rs r no_rule).second none two, begins_wait rs v.rows k x r begins) refl in
          absurd (false≢true (sym other ∙ both))))))
        where
          stored : (store k r link s).at.stopped ≡ 0 → New st (store k r link s) k r
          stored still =
              let place : s.at.items < (store k r link s).at.items = store-place k r link s still in
              let is : item_at (store k r link s).items s.at.items ≡ record { origin = k; rule = r; handle = link } =
              stored-new k r link s (kept-sound kept) s.at.items (omega arith) place in
              record {
                place = s.at.items;
                behind = kept.heaped.steady.onward.more-items;
                before = place;
                origin = ap (λ (i : Item). i.origin) is;
                rule = ap (λ (i : Item). i.rule) is;
              }

      -- All of them.
      medials_step : (s : Pass) → Kept T done s
          → Step (Kept T done) (λ t. (p : ℕ) → Inside v.starts k p → QueuedIf rs v x p t) s
          (complete_medial_items rs v.starts k x link s)
      unfolding complete_medial_items
      medials_step s kept =
          step_brings
          (over_steps (Kept T done) (λ i t. QueuedIf rs v x (get_or v.starts k 0 + i) t)
          (λ i t u kept grows queued second. queued_grows (kept-sound kept) grows (queued second)) (get_or v.starts (k + 1) 0 - get_or v.starts k 0)
          (λ i. complete_medial rs x link (get_or v.starts k 0 + i))
          (λ i t inside kept. medial_step (get_or v.starts k 0 + i) t (record { from = omega arith; up_to = omega arith }) kept) s kept)
          (by_place _)
        where
          by_place : (t : Pass) → ((i : ℕ) → i < get_or v.starts (k + 1) 0 - get_or v.starts k 0 → QueuedIf rs v x (get_or v.starts k 0 + i) t) → (p : ℕ)
              → Inside v.starts k p → QueuedIf rs v x p t
          by_place t all p inside =
              let is : get_or v.starts k 0 + (p - get_or v.starts k 0) ≡ p = omega (arith, inside.from) in
              subst (λ (n : ℕ). QueuedIf rs v x n t) is (all (p - get_or v.starts k 0) (omega (arith, inside.from, inside.up_to)))

      unaries_step : (s : Pass) → Kept T done s
          → Step (Kept T done)
          (λ t. (r : ℕ) → r < length rs → Begins rs v.rows k x r → (get_or rs r no_rule).second ≡ none → Queued t k r) s
          (complete_unary_predictions rs v.rows k x link s)
      unfolding complete_unary_predictions
      unaries_step =
          over_steps (Kept T done)
          (λ r t. Begins rs v.rows k x r → (get_or rs r no_rule).second ≡ none → Queued t k r)
          (λ r t u kept grows queued begins one. queued_grows (kept-sound kept) grows (queued begins one)) (length rs)
          (complete_unary rs v.rows k x link) unary_step

      binaries_step : (s : Pass) → Kept T done s
          → Step (Kept T done)
          (λ t. (r : ℕ) → r < length rs → Begins rs v.rows k x r → ((get_or rs r no_rule).second ≡ none → ⊥) → New st t k r) s
          (complete_binary_predictions rs v.rows k x link s)
      unfolding complete_binary_predictions
      binaries_step =
          over_steps (Kept T done) (λ r t. Begins rs v.rows k x r → ((get_or rs r no_rule).second ≡ none → ⊥) → New st t k r)
          (λ r t u kept grows new begins two. new_grows grows (new begins two)) (length rs) (complete_binary rs v.rows k x link) binary_step

      three_step : (s : Pass) → Kept T done s
          → Step (Kept T done) (λ t. Follows done t k x) s
          (complete_binary_predictions rs v.rows k x link (complete_unary_predictions rs v.rows k x link (complete_medial_items rs v.starts k x link s)))
      three_step s kept =
          let t : Pass = complete_medial_items rs v.starts k x link s in
          let u : Pass = complete_unary_predictions rs v.rows k x link t in
          let medials = medials_step s kept in
          let unaries = unaries_step t medials.kept in
          let binaries = binaries_step u unaries.kept in
          record {
            kept = binaries.kept;
            grows = grows_trans medials.grows (grows_trans unaries.grows binaries.grows);
            before = λ on. medials.before (unaries.before (binaries.before on));
            brings = λ on.
                record {
                  medial = λ p inside second.
                      Met.queued (queued_grows (kept-sound medials.kept) (grows_trans unaries.grows binaries.grows)
                      (medials.brings (unaries.before (binaries.before on)) p inside second));
                  unary = λ r begins one.
                      Met.queued (queued_grows (kept-sound unaries.kept) binaries.grows
                      (unaries.brings (binaries.before on) r begins.is_rule begins one));
                  binary = λ r begins two. binaries.brings on r begins.is_rule begins two;
                };
          }

    -- COMPLETING A PAIR: what follows from it is queued or stored, and nothing else.
    pub complete_step : Closed T → Charted rs v.starts (beginning st v) → (k x link : ℕ) → IsSet v.starts k → T k x → done k x
        → (s : Pass) → Kept T done s
        → Step (Kept T done) (λ t. predicted v.rows k x ≡ true → Follows done t k x) s (complete rs v.starts v.rows k x link s)
    unfolding complete
    complete_step closed charted k x link set holds completes s kept =
        either_way (predicted v.rows k x)
        (λ there.
        rw (complete, there) (step_brings (three_step closed charted k x link set holds completes there s kept) (λ follows there. follows)))
        (λ other. rw (complete, other) (step_skips s kept (λ on there. absurd (false≢true there))))
