-- A pass stays sound and charted through every step, and nothing that it had is touched.
use Rattle.std.proofs.Common.{◌≡◌, sym, ap, subst, false, List, ℕ, ◌+◌, ◌*◌, ◌≤◌, ◌<◌, arith, length}
use native.Mathlib.Decide.{dec_lt}
use Rattle.laws.proofs.Turns.{until-keeps}
use Rattle.binary_heap.proofs.Each.{Every}
use Rattle.item.specs.Item.{Item, item_at}
use Rattle.binary_heap.specs.Entry.{entry_key}
use Rattle.binary_heap.specs.Sift.{entry_at}
use Rattle.item.proofs.Words.{stored_item}
use Rattle.binary_heap.proofs.PopLaws.{popped_every}
use Rattle.grammar.specs.Rules.{Rule}
use Rattle.parse.specs.WellFormed.{left_of, second_of}
use Rattle.node.specs.Rows.{all_ones}
use Rattle.node.specs.declared.Node.{Node}
use Rattle.node.specs.declared.Node.TheVariants.{Sum}
use Rattle.completion.specs.Pass.{Pass, and_then, store, enqueue, append, store_full}
use Rattle.completion.specs.Complete.{complete_medial, complete_medial_items, complete_unary, complete_unary_predictions, complete_binary, complete_binary_predictions, complete}
use Rattle.completion.specs.Sums.{greatest, summands, product_node, sum_ends, pop_greatest, next_summand, pop_sum, summed, complete_sum, rests, complete_all_sums}
use Rattle.completion.specs.inner.Ready.{IsSet, PassFits, Charted}
use Rattle.completion.proofs.Soundness.{refused-sound, store-sound, enqueue-sound}
use Rattle.completion.proofs.Waiting.{store-place}
use Rattle.completion.proofs.Searching.{enqueue-count}
use Rattle.completion.proofs.Turning.{sum_goes, not_resting}
use Rattle.completion.proofs.Entries.{entries_of, stored_pass, popped_pass, appended_pass, append-count, store_cases, append_cases, then_cases, pop_is, each_entry, every_entry, some-entries, popped-entries, popped-words}
use Rattle.completion.proofs.Onward.{Onward, onward_refl, onward_trans, onward_store, onward_enqueue, onward_pop, onward_append}
use Rattle.completion.proofs.Through.{Inside, medial_keeps, medial_items_keep, unary_goes, unary_predictions_go, binary_goes, binary_predictions_go, complete_cases}

-- Popping the greatest entry keeps a pass sound.
pub pop_sound : (s : Pass) → PassFits s → 0 < s.at.queued → PassFits (pop_greatest s)
pop_sound s sound some = pop_is PassFits s some done
  where
    places : Every (λ v. v.place < s.at.items) (entries_of (popped_pass s))
    places =
        subst (Every (λ v. v.place < s.at.items)) (sym (popped-entries s sound.queued_fit some))
        (popped_every (entry_key s.items) (entries_of s) (some-entries s sound.queued_fit some) (λ v. v.place < s.at.items)
        (every_entry s sound.queued_fit (λ v. v.place < s.at.items) sound.entries))

    fits : (popped_pass s).at.queued ≤ length (popped_pass s).queue
    fits = omega (arith, popped-words s sound.queued_fit some, sound.queued_fit)

    done : PassFits (popped_pass s)
    done =
        record {
          few_items = sound.few_items;
          items_fit = sound.items_fit;
          few_entries = omega (arith, popped-words s sound.queued_fit some, sound.few_entries);
          queued_fit = fits;
          entries = each_entry (popped_pass s) fits (λ v. v.place < s.at.items) places;
        }

-- Writing a node keeps a pass sound.
pub append-sound : (n : Node) (s : Pass) → PassFits s → PassFits (append n s)
append-sound n s sound = append_cases PassFits s n sound (λ us on is some room. same us) (refused-sound store_full s sound)
  where
    same : (us : List ℕ) → PassFits (appended_pass us s)
    same us = record {
      few_items = sound.few_items;
      items_fit = sound.items_fit;
      few_entries = sound.few_entries;
      queued_fit = sound.queued_fit;
      entries = sound.entries;
    }

-- A summand keeps a pass sound.
pub next-sound : (s : Pass) → PassFits s → 0 < s.at.queued → PassFits (next_summand s)
unfolding next_summand
next-sound s sound some = append-sound (product_node s.items (entry_at s.queue 0)) (pop_greatest s) (pop_sound s sound some)

-- An item of a rule and a set.
pub record Charts (rs : List Rule) (starts : List ℕ) (i : Item) : Type 0 where
  pub is_rule : i.rule < length rs
  pub is_set : IsSet starts i.origin

-- A pass whose new items are charted is charted, if it was.
pub onward_charted : {rs : List Rule} {starts : List ℕ} {s t : Pass} → Charted rs starts s → Onward s t
    → ((p : ℕ) → s.at.items ≤ p → p < t.at.items → Charts rs starts (item_at t.items p)) → Charted rs starts t
onward_charted {rs} {starts} {s} {t} charted onward new =
    record {
      rules = λ p there. (each p there).is_rule;
      origins = λ p there. (each p there).is_set;
      starts_fit = λ k. omega (arith, charted.starts_fit k, onward.more-items);
      ordered = λ k p from up_to.
          let one : second_of rs (item_at t.items p) ≡ second_of rs (item_at s.items p) =
          ap (second_of rs) (onward.same-items p (omega (arith, charted.starts_fit (k + 1)))) in
          let next : second_of rs (item_at t.items (p + 1)) ≡ second_of rs (item_at s.items (p + 1)) =
          ap (second_of rs) (onward.same-items (p + 1) (omega (arith, charted.starts_fit (k + 1)))) in
          omega (arith, charted.ordered k p from up_to);
    }
  where
    each : (p : ℕ) → p < t.at.items → Charts rs starts (item_at t.items p)
    each p there =
        elim (dec_lt p s.at.items) [
          | yes old ↦
              subst (Charts rs starts) (sym (onward.same-items p old))
              (record { is_rule = charted.rules p old; is_set = charted.origins p old })
          | no fresh ↦ new p (omega arith) there
        ]

-- The items behind those of `s` after `origin` and `rule` were stored: that one, or none.
pub stored-new : (origin rule handle : ℕ) (s : Pass) → PassFits s → (p : ℕ) → s.at.items ≤ p → p < (store origin rule handle s).at.items
    → item_at (store origin rule handle s).items p ≡ record { origin = origin; rule = rule; handle = handle }
stored-new origin rule handle s sound p from =
    store_cases (λ (t : Pass). p < t.at.items → item_at t.items p ≡ record { origin = origin; rule = rule; handle = handle }) s origin rule handle
    (λ place up_to.
    let is : s.at.items ≡ p = omega arith in
    subst (λ (p : ℕ). item_at (stored_pass origin rule handle s).items p ≡ record { origin = origin; rule = rule; handle = handle }) is
    (stored_item s.items s.at.items (record { origin = origin; rule = rule; handle = handle }) (omega arith)))
    (λ up_to. absurd (omega arith))

-- A pass behind `s` that is sound and charted.
pub record Steady (rs : List Rule) (starts : List ℕ) (s t : Pass) : Type 0 where
  pub onward : Onward s t
  pub sound : PassFits t
  pub charted : Charted rs starts t

pub steady_refl : (rs : List Rule) (starts : List ℕ) (s : Pass) → PassFits s → Charted rs starts s → Steady rs starts s s
steady_refl rs starts s sound charted = record { onward = onward_refl s; sound = sound; charted = charted }

module _ (rs : List Rule) (starts : List ℕ) (s : Pass) where
  -- What the steps do not lose.
  pub steady_store : (k r link : ℕ) (t : Pass) → IsSet starts k → r < length rs → Steady rs starts s t → Steady rs starts s (store k r link t)
  steady_store k r link t set rule steady =
      record {
        onward = onward_trans steady.onward (onward_store k r link t);
        sound = store-sound k r link t steady.sound;
        charted = onward_charted steady.charted (onward_store k r link t)
            (λ p from up_to.
            subst (Charts rs starts) (sym (stored-new k r link t steady.sound p from up_to)) (record { is_rule = rule; is_set = set }));
      }

  pub steady_enqueue : (place right : ℕ) (t : Pass) → place < t.at.items → Steady rs starts s t → Steady rs starts s (enqueue place right t)
  steady_enqueue place right t there steady =
      let onward : Onward t (enqueue place right t) = onward_enqueue place right t steady.sound.queued_fit in
      record {
        onward = onward_trans steady.onward onward;
        sound = enqueue-sound place right t steady.sound there;
        charted = onward_charted steady.charted onward (λ p from up_to. absurd (omega (arith, enqueue-count place right t)));
      }

  pub steady_append : (n : Node) (t : Pass) → Steady rs starts s t → Steady rs starts s (append n t)
  steady_append n t steady =
      record {
        onward = onward_trans steady.onward (onward_append n t);
        sound = append-sound n t steady.sound;
        charted = onward_charted steady.charted (onward_append n t) (λ p from up_to. absurd (omega (arith, append-count n t)));
      }

  pub steady_pop_greatest : (t : Pass) → 0 < t.at.queued → Steady rs starts s t → Steady rs starts s (pop_greatest t)
  unfolding pop_greatest
  steady_pop_greatest t some steady =
      let onward : Onward t (pop_greatest t) = onward_pop t steady.sound.queued_fit some in
      record {
        onward = onward_trans steady.onward onward;
        sound = pop_sound t steady.sound some;
        charted = onward_charted steady.charted onward (λ p from up_to. absurd (omega arith));
      }

  pub steady_next : (t : Pass) → 0 < t.at.queued → Steady rs starts s t → Steady rs starts s (next_summand t)
  unfolding next_summand
  steady_next t some steady =
      steady_append (product_node t.items (entry_at t.queue 0)) (pop_greatest t) (steady_pop_greatest t some steady)

  -- Storing an item and queueing it.
  pub steady_both : (k r link : ℕ) (t : Pass) → IsSet starts k → r < length rs → Steady rs starts s t
      → Steady rs starts s (and_then (store k r link t) (enqueue t.at.items all_ones))
  steady_both k r link t set rule steady =
      let there : Steady rs starts s (store k r link t) = steady_store k r link t set rule steady in
      then_cases (Steady rs starts s) (store k r link t) _ there (λ on. steady_enqueue t.at.items all_ones (store k r link t) (store-place k r link t on) there)

  module _ (rows : List ℕ) (k x link : ℕ) where
    -- Completing keeps all of it.
    pub steady_medial : (p : ℕ) (t : Pass) → Inside starts k p → Steady rs starts s t → Steady rs starts s (complete_medial rs x link p t)
    steady_medial = medial_keeps rs starts rows k x link (Steady rs starts s) queueing
      where
        queueing : (p : ℕ) (t : Pass) → Inside starts k p → second_of rs (item_at t.items p) ≡ x → t.at.stopped ≡ 0 → Steady rs starts s t → Steady rs starts s (enqueue p link t)
        queueing p t inside second on steady = steady_enqueue p link t (omega (arith, inside.up_to, steady.charted.starts_fit (k + 1))) steady

    pub steady_medial_items : (t : Pass) → Steady rs starts s t → Steady rs starts s (complete_medial_items rs starts k x link t)
    steady_medial_items = medial_items_keep rs starts rows k x link (Steady rs starts s)
        (λ p t inside second on steady. steady_enqueue p link t (omega (arith, inside.up_to, steady.charted.starts_fit (k + 1))) steady)

    module _ (set : IsSet starts k) where
      pub steady_unary : (r : ℕ) (t : Pass) → r < length rs → Steady rs starts s t → Steady rs starts s (complete_unary rs rows k x link r t)
      steady_unary = unary_goes rs starts rows k x link (λ r t. Steady rs starts s t) (λ r t steady. steady)
          (λ r t begins one on steady. steady_both k r link t set begins.is_rule steady)

      pub steady_unary_predictions : (t : Pass) → Steady rs starts s t → Steady rs starts s (complete_unary_predictions rs rows k x link t)
      steady_unary_predictions = unary_predictions_go rs starts rows k x link (λ r t. Steady rs starts s t) (λ r t steady. steady)
          (λ r t begins one on steady. steady_both k r link t set begins.is_rule steady)

      pub steady_binary : (r : ℕ) (t : Pass) → r < length rs → Steady rs starts s t → Steady rs starts s (complete_binary rs rows k x link r t)
      steady_binary = binary_goes rs starts rows k x link (λ r t. Steady rs starts s t) (λ r t steady. steady)
          (λ r t begins two on steady. steady_store k r link t set begins.is_rule steady)

      pub steady_binary_predictions : (t : Pass) → Steady rs starts s t → Steady rs starts s (complete_binary_predictions rs rows k x link t)
      steady_binary_predictions = binary_predictions_go rs starts rows k x link (λ r t. Steady rs starts s t) (λ r t steady. steady)
          (λ r t begins two on steady. steady_store k r link t set begins.is_rule steady)

      pub steady_complete : (t : Pass) → Steady rs starts s t → Steady rs starts s (complete rs starts rows k x link t)
      steady_complete t steady =
          complete_cases rs starts rows k x link (Steady rs starts s) t steady
          (λ there.
          steady_binary_predictions (complete_unary_predictions rs rows k x link (complete_medial_items rs starts k x link t))
          (steady_unary_predictions (complete_medial_items rs starts k x link t) (steady_medial_items t steady)))

  -- A sum that has not ended has a greatest entry.
  pub goes_on-sum : (k x : ℕ) (t : Pass) → sum_ends rs k x t ≡ false → 0 < t.at.queued
  goes_on-sum k x t = sum_goes rs k x t

  -- Popping a sum keeps all of it.
  pub steady_pop : (k x : ℕ) (t : Pass) → Steady rs starts s t → Steady rs starts s (pop_sum rs k x t)
  unfolding pop_sum
  steady_pop k x t steady =
      until-keeps (sum_ends rs k x) next_summand (Steady rs starts s) (λ u goes. steady_next u (sum_goes rs k x u goes)) t.at.queued t steady

  -- Writing a sum keeps all of it.
  pub steady_summed : (k x : ℕ) (t : Pass) → Steady rs starts s t → Steady rs starts s (summed rs k x t)
  steady_summed k x t steady =
      steady_pop k x (append (Sum (summands rs k x t) x) t) (steady_append (Sum (summands rs k x t) x) t steady)

  -- The greatest entry is a place of an item, with a set for its origin and a rule.
  pub greatest_charts : (t : Pass) → 0 < t.at.queued → Steady rs starts s t → Charts rs starts (greatest t)
  greatest_charts t some steady =
      let there : (entry_at t.queue 0).place < t.at.items = steady.sound.entries 0 some in
      record { is_rule = steady.charted.rules (entry_at t.queue 0).place there; is_set = steady.charted.origins (entry_at t.queue 0).place there }

  module _ (rows : List ℕ) where
    -- A sum keeps all of it, and so do all sums.
    pub steady_sum : (t : Pass) → 0 < t.at.queued → Steady rs starts s t → Steady rs starts s (complete_sum rs starts rows t)
    unfolding complete_sum
    steady_sum t some steady =
        steady_complete rows (greatest t).origin (left_of rs (greatest t)) t.at.used (greatest_charts t some steady).is_set
        (summed rs (greatest t).origin (left_of rs (greatest t)) t) (steady_summed (greatest t).origin (left_of rs (greatest t)) t steady)

    pub steady_all_sums : (t : Pass) → Steady rs starts s t → Steady rs starts s (complete_all_sums rs starts rows t)
    unfolding complete_all_sums
    steady_all_sums t steady =
        until-keeps rests (complete_sum rs starts rows) (Steady rs starts s) (λ u goes. steady_sum u (not_resting u goes).1) (length starts * length rs) t steady
