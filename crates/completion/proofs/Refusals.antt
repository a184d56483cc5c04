-- The exact push rule: 7 where a store meets full items, 8 where a push meets a full queue, 14 where a node has no place, and from then on
-- nothing changes.
use Rattle.std.proofs.Common.{◌≡◌, refl, sym, ap, ◌∙◌, subst, true, List, ◌↔◌, ℕ, ◌+◌, ◌-◌, ◌*◌, ◌/◌, ◌≤◌, ◌<◌, arith, length, get_or}
use native.Mathlib.Decide.{dec_lt}
use Rattle.laws.proofs.Turns.{over_still, until-rests, until-keeps}
use Rattle.item.specs.Item.{item_words}
use Rattle.grammar.specs.Rules.{Rule}
use Rattle.parse.specs.WellFormed.{left_of}
use Rattle.binary_heap.specs.Sift.{entry_at}
use Rattle.node.specs.Rows.{all_ones}
use Rattle.node.specs.declared.Node.{Node}
use Rattle.node.specs.declared.Node.TheVariants.{Evaluated, Sum}
use Rattle.completion.specs.Pass.{Pass, store, enqueue, append, items_full, queue_full, store_full}
use Rattle.completion.specs.Complete.{predicted, complete_medial, complete_medial_items, complete_unary, complete_unary_predictions, complete_binary, complete_binary_predictions, complete}
use Rattle.completion.specs.Scan.{scan_all}
use Rattle.completion.specs.Sums.{greatest, summands, product_node, sum_ends, pop_greatest, next_summand, pop_sum, summed, complete_sum, rests, complete_all_sums}
use Rattle.completion.proofs.Pushes.{append-stopped, stays, store_done, store-refused, enqueue_done, enqueue-refused}
use Rattle.completion.proofs.Waiting.{unary-stopped, binary-stopped}
use Rattle.completion.proofs.Pairs.{complete_parts}
use Rattle.completion.proofs.Entries.{append_cases, then_cases}
use Rattle.completion.proofs.Through.{medial_items_keep, unary_predictions_go, binary_predictions_go, complete_cases}
use Rattle.completion.proofs.Turning.{not_resting, rests-stopped, rest-empty}
use Rattle.completion.specs.inner.Pending.{Grounds, Pending}
use Rattle.completion.proofs.Pending.{all-sums-rest}
use Rattle.completion.proofs.Scanning.{scan_all-keeps}

-- How a step left a pass: going on, or refused by full items, by a full queue, or by a full store.
pub data Stops (s : Pass) : Type 0 where
  on : s.at.stopped ≡ 0 → Stops s
  full-items : s.at.stopped ≡ items_full → length s.items / item_words ≤ s.at.items → Stops s
  full-queue : s.at.stopped ≡ queue_full → length s.queue ≤ s.at.queued → Stops s
  full-store : s.at.stopped ≡ store_full → Stops s

-- The same of a pass that writes nodes alone.
data Writes (s : Pass) : Type 0 where
  writes_on : s.at.stopped ≡ 0 → Writes s
  writes-full : s.at.stopped ≡ store_full → Writes s

module _ (s : Pass) where
  -- A store is refused with 7 exactly where the items are full, and else goes on.
  pub store_refuses : (origin rule handle : ℕ) → ((store origin rule handle s).at.stopped ≡ items_full) ↔ (length s.items / item_words ≤ s.at.items)
  store_refuses origin rule handle = (
    (λ stopped.
        elim (dec_lt s.at.items (length s.items / item_words)) [
          | yes place ↦ absurd (let on : (store origin rule handle s).at.stopped ≡ 0 = ap (λ (t : Pass). t.at.stopped) (store_done s origin rule handle place) in omega arith)
          | no full ↦ omega arith
        ]),
    λ full. ap (λ (t : Pass). t.at.stopped) (store-refused s origin rule handle full),
  )

  pub store_takes : (origin rule handle : ℕ) → ((store origin rule handle s).at.stopped ≡ 0) ↔ (s.at.items < length s.items / item_words)
  store_takes origin rule handle = (
    (λ on.
        elim (dec_lt s.at.items (length s.items / item_words)) [
          | yes place ↦ place
          | no full ↦
              absurd (
              let stopped : (store origin rule handle s).at.stopped ≡ items_full = ap (λ (t : Pass). t.at.stopped) (store-refused s origin rule handle (omega arith)) in
              omega arith)
        ]),
    λ place. ap (λ (t : Pass). t.at.stopped) (store_done s origin rule handle place),
  )

  -- A push is refused with 8 exactly where the queue is full, and else goes on.
  pub enqueue_refuses : (place right : ℕ) → ((enqueue place right s).at.stopped ≡ queue_full) ↔ (length s.queue ≤ s.at.queued)
  enqueue_refuses place right = (
    (λ stopped.
        elim (dec_lt s.at.queued (length s.queue)) [
          | yes free ↦ absurd (let on : (enqueue place right s).at.stopped ≡ 0 = ap (λ (t : Pass). t.at.stopped) (enqueue_done s place right free) in omega arith)
          | no full ↦ omega arith
        ]),
    λ full. ap (λ (t : Pass). t.at.stopped) (enqueue-refused s place right full),
  )

  pub enqueue_takes : (place right : ℕ) → ((enqueue place right s).at.stopped ≡ 0) ↔ (s.at.queued < length s.queue)
  enqueue_takes place right = (
    (λ on.
        elim (dec_lt s.at.queued (length s.queue)) [
          | yes free ↦ free
          | no full ↦
              absurd (
              let stopped : (enqueue place right s).at.stopped ≡ queue_full = ap (λ (t : Pass). t.at.stopped) (enqueue-refused s place right (omega arith)) in
              omega arith)
        ]),
    λ free. ap (λ (t : Pass). t.at.stopped) (enqueue_done s place right free),
  )

  -- So a store and a push leave a pass going on, or refused by what is full.
  pub stops_store : (origin rule handle : ℕ) → Stops (store origin rule handle s)
  stops_store origin rule handle =
      elim (dec_lt s.at.items (length s.items / item_words)) [
        | yes place ↦ on ((store_takes origin rule handle).1 place)
        | no none ↦ subst Stops (sym (store-refused s origin rule handle (omega arith))) (full-items refl (omega arith))
      ]

  pub stops_enqueue : (place right : ℕ) → Stops (enqueue place right s)
  stops_enqueue place right =
      elim (dec_lt s.at.queued (length s.queue)) [
        | yes free ↦ on ((enqueue_takes place right).1 free)
        | no none ↦ subst Stops (sym (enqueue-refused s place right (omega arith))) (full-queue refl (omega arith))
      ]

  -- Writing a node leaves it going on, or refused by a full store.
  pub stops_append : (n : Node) → Stops s → Stops (append n s)
  stops_append n stops = append_cases Stops s n stops (λ us going is some room. on refl) (full-store refl)

  writes-append : (n : Node) → Writes s → Writes (append n s)
  writes-append n writes = append_cases Writes s n writes (λ us going is some room. writes_on refl) (writes-full refl)

  writes_stops : Writes s → Stops s
  writes_stops (writes_on going) = on going
  writes_stops (writes-full stopped) = full-store stopped

module _ (rs : List Rule) (starts rows : List ℕ) where
  module _ (k x link : ℕ) where
    -- A completion leaves a pass going on, or refused by what is full,
    pub stops_complete : (s : Pass) → Stops s → Stops (complete rs starts rows k x link s)
    stops_complete s stops =
        complete_cases rs starts rows k x link Stops s stops
        (λ there.
        binary_predictions_go rs starts rows k x link (λ r. Stops) (λ r t stops. stops) (λ r t begins two on stops. stops_store t k r link)
        (complete_unary_predictions rs rows k x link (complete_medial_items rs starts k x link s))
        (unary_predictions_go rs starts rows k x link (λ r. Stops) (λ r t stops. stops)
        (λ r t begins one on stops. then_cases Stops (store k r link t) _ (stops_store t k r link) (λ on. stops_enqueue (store k r link t) t.at.items all_ones))
        (complete_medial_items rs starts k x link s)
        (medial_items_keep rs starts rows k x link Stops (λ p t inside second on stops. stops_enqueue t p link) s stops)))

    -- and a pass that was refused stays as it is.
    module _ (s : Pass) (stopped : s.at.stopped ≡ 0 → ⊥) where
      pub medial_stopped : (p : ℕ) → complete_medial rs x link p s ≡ s
      unfolding complete_medial
      medial_stopped p = stays s _ stopped

      pub medial_items_stopped : complete_medial_items rs starts k x link s ≡ s
      unfolding complete_medial_items
      medial_items_stopped =
          over_still (λ (t : Pass). t ≡ s) (get_or starts (k + 1) 0 - get_or starts k 0) (λ i. complete_medial rs x link (get_or starts k 0 + i))
          (λ i t there same. ap (complete_medial rs x link (get_or starts k 0 + i)) same ∙ medial_stopped (get_or starts k 0 + i) ∙ sym same) s refl

      pub unary-predictions-stopped : complete_unary_predictions rs rows k x link s ≡ s
      unfolding complete_unary_predictions
      unary-predictions-stopped =
          over_still (λ (t : Pass). t.at.stopped ≡ 0 → ⊥) (length rs) (complete_unary rs rows k x link)
          (λ r t there still. unary-stopped rs rows k x r link t still) s stopped

      pub binary-predictions-stopped : complete_binary_predictions rs rows k x link s ≡ s
      unfolding complete_binary_predictions
      binary-predictions-stopped =
          over_still (λ (t : Pass). t.at.stopped ≡ 0 → ⊥) (length rs) (complete_binary rs rows k x link)
          (λ r t there still. binary-stopped rs rows k x r link t still) s stopped

      pub complete-stopped : complete rs starts rows k x link s ≡ s
      complete-stopped =
          complete_cases rs starts rows k x link (λ (t : Pass). t ≡ s) s refl
          (λ there.
          ap (λ (t : Pass). complete_binary_predictions rs rows k x link (complete_unary_predictions rs rows k x link t)) medial_items_stopped
          ∙ ap (complete_binary_predictions rs rows k x link) unary-predictions-stopped
          ∙ binary-predictions-stopped)

    -- A completion that is refused on its way does no more.
    module _ (s now : Pass) (there : predicted rows k x ≡ true) (stopped : now.at.stopped ≡ 0 → ⊥) where
      pub medials-refused : now ≡ complete_medial_items rs starts k x link s → now ≡ complete rs starts rows k x link s
      medials-refused is =
          sym (ap (complete_binary_predictions rs rows k x link) (unary-predictions-stopped now stopped) ∙ binary-predictions-stopped now stopped)
          ∙ ap (λ (t : Pass). complete_binary_predictions rs rows k x link (complete_unary_predictions rs rows k x link t)) is
          ∙ sym (complete_parts rs starts rows k x link s there)

      pub unaries-refused : now ≡ complete_unary_predictions rs rows k x link (complete_medial_items rs starts k x link s) → now ≡ complete rs starts rows k x link s
      unaries-refused is =
          sym (binary-predictions-stopped now stopped) ∙ ap (complete_binary_predictions rs rows k x link) is ∙ sym (complete_parts rs starts rows k x link s there)

  -- No kind follows a refusal.
  pub scan_all-stopped : (e : ℕ) (kinds : List ℕ) (s : Pass) → (s.at.stopped ≡ 0 → ⊥) → scan_all rs starts rows e kinds s ≡ s
  scan_all-stopped e kinds s stopped =
      scan_all-keeps rs starts rows e kinds (λ (u : Pass). u ≡ s)
      (λ t u m on same.
      let still : u.at.stopped ≡ 0 → ⊥ = λ going. stopped (ap (λ (v : Pass). v.at.stopped) (sym same) ∙ going) in
      ap (complete rs starts rows e t u.at.used) (append-stopped u (Evaluated t) still) ∙ complete-stopped e t u.at.used u still ∙ same)
      s refl

  -- Scanning a position leaves a pass going on, or refused by what is full.
  pub stops_scan_all : (e : ℕ) (kinds : List ℕ) (s : Pass) → Stops s → Stops (scan_all rs starts rows e kinds s)
  stops_scan_all e kinds =
      scan_all-keeps rs starts rows e kinds Stops
      (λ t s m on stops. stops_complete e t s.at.used (append (Evaluated t) s) (stops_append s (Evaluated t) stops))

  -- No sum follows a refusal.
  pub all-sums-stopped : (s : Pass) → (s.at.stopped ≡ 0 → ⊥) → complete_all_sums rs starts rows s ≡ s
  unfolding complete_all_sums
  all-sums-stopped s stopped =
      until-rests rests (complete_sum rs starts rows) (length starts * length rs) s (rests-stopped s stopped)

  -- A sum of a pass that goes on leaves it going on, or refused by what is full, and so do all sums.
  writes_pop : (t : Pass) → Writes t → Writes (pop_greatest t)
  unfolding pop_greatest
  writes_pop t (writes_on going) = writes_on going
  writes_pop t (writes-full stopped) = writes-full stopped

  writes-summed : (k x : ℕ) (s : Pass) → s.at.stopped ≡ 0 → Writes (summed rs k x s)
  unfolding pop_sum next_summand
  writes-summed k x s going =
      until-keeps (sum_ends rs k x) next_summand Writes
      (λ t goes writes. writes-append (pop_greatest t) (product_node t.items (entry_at t.queue 0)) (writes_pop t writes))
      (append (Sum (summands rs k x s) x) s).at.queued (append (Sum (summands rs k x s) x) s) (writes-append s (Sum (summands rs k x s) x) (writes_on going))

  pub stops_sum : (s : Pass) → s.at.stopped ≡ 0 → Stops (complete_sum rs starts rows s)
  unfolding complete_sum
  stops_sum s going =
      stops_complete (greatest s).origin (left_of rs (greatest s)) s.at.used (summed rs (greatest s).origin (left_of rs (greatest s)) s)
      (writes_stops (summed rs (greatest s).origin (left_of rs (greatest s)) s) (writes-summed (greatest s).origin (left_of rs (greatest s)) s going))

  pub stops_all_sums : (s : Pass) → Stops s → Stops (complete_all_sums rs starts rows s)
  unfolding complete_all_sums
  stops_all_sums =
      until-keeps rests (complete_sum rs starts rows) Stops (λ t goes stops. stops_sum t (not_resting t goes).0) (length starts * length rs)

-- How a pass ends: with an empty queue, or refused by full items, by a full queue, or by a full store.
pub data Ends (s : Pass) : Type 0 where
  empty : s.at.stopped ≡ 0 → s.at.queued ≡ 0 → Ends s
  full-items : s.at.stopped ≡ items_full → length s.items / item_words ≤ s.at.items → Ends s
  full-queue : s.at.stopped ≡ queue_full → length s.queue ≤ s.at.queued → Ends s
  full-store : s.at.stopped ≡ store_full → Ends s

-- All sums end in one of these ways.
pub all-sums-end : {rs : List Rule} {starts rows : List ℕ} → Grounds rs starts rows → (s : Pass) → Pending rs starts s → Stops s
    → Ends (complete_all_sums rs starts rows s)
all-sums-end {rs} {starts} {rows} grounds s pending stops =
    by_stop (complete_all_sums rs starts rows s) (all-sums-rest grounds s pending) (stops_all_sums rs starts rows s stops)
  where
    by_stop : (t : Pass) → rests t ≡ true → Stops t → Ends t
    by_stop t at_rest (on going) = empty going (rest-empty t at_rest going)
    by_stop t at_rest (full-items stopped full) = full-items stopped full
    by_stop t at_rest (full-queue stopped full) = full-queue stopped full
    by_stop t at_rest (full-store stopped) = full-store stopped
