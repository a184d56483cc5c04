-- The entries of the queue stay a heap through every step, and keep what each of them has.
use Rattle.std.proofs.Common.{◌≡◌, refl, sym, ap, ◌∙◌, subst, List, ℕ, ◌+◌, ◌<◌, arith, length, get_or}
use Rattle.laws.proofs.Turns.{until-keeps}
use Rattle.binary_heap.proofs.Each.{Every}
use Rattle.item.specs.Item.{Item, item_at}
use Rattle.binary_heap.specs.Entry.{entry_key}
use Rattle.binary_heap.specs.Sift.{entry_at}
use Rattle.binary_heap.specs.Heap.{Heap}
use Rattle.binary_heap.proofs.Top.{heap_same_keys}
use Rattle.binary_heap.proofs.PushLaws.{pushed-heap, pushed_every}
use Rattle.binary_heap.proofs.PopLaws.{popped-heap, popped_every}
use Rattle.grammar.specs.Rules.{Rule, none, no_rule}
use Rattle.parse.specs.WellFormed.{second_of}
use Rattle.node.specs.Rows.{all_ones}
use Rattle.node.specs.declared.Node.{Node}
use Rattle.completion.specs.Pass.{Pass, and_then, store, enqueue, append}
use Rattle.completion.specs.Complete.{complete_medial_items, complete_unary_predictions, complete_binary_predictions, complete}
use Rattle.completion.specs.Sums.{product_node, sum_ends, pop_greatest, next_summand, pop_sum}
use Rattle.completion.specs.inner.Ready.{IsSet, PassFits, Charted}
use Rattle.completion.proofs.Waiting.{store-place}
use Rattle.completion.proofs.Turning.{sum_goes}
use Rattle.completion.proofs.Entries.{entries_of, queued_pass, popped_pass, store_cases, enqueue_cases, append_cases, then_cases, pop_is, every_entry, some-entries, queued_entries, popped-entries}
use Rattle.completion.proofs.Onward.{Onward, onward_key, onward_store}
use Rattle.completion.proofs.Through.{Begins, Inside, medial_items_keep, unary_predictions_go, binary_predictions_go, complete_cases}
use Rattle.completion.proofs.Charting.{Steady, steady_store, steady_enqueue, steady_append, steady_pop_greatest, stored-new}

-- The entries of a sound pass are places of its items.
pub sound-entries : (s : Pass) → PassFits s → Every (λ v. v.place < s.at.items) (entries_of s)
sound-entries s sound = every_entry s sound.queued_fit (λ v. v.place < s.at.items) sound.entries

-- The entries are a heap by the items' keys, and the item of each has `Q`.
pub record Ordered (Q : Item → Type 0) (s : Pass) : Type 0 where
  pub heap : Heap (entry_key s.items) (entries_of s)
  pub each : Every (λ v. Q (item_at s.items v.place)) (entries_of s)

module _ (Q : Item → Type 0) (s : Pass) (sound : PassFits s) (ordered : Ordered Q s) where
  -- Items stored behind change no entry's key.
  pub ordered-store : (origin rule handle : ℕ) → Ordered Q (store origin rule handle s)
  ordered-store origin rule handle = record { heap = heap; each = each }
    where
      same : entries_of (store origin rule handle s) ≡ entries_of s
      same = store_cases (λ (t : Pass). entries_of t ≡ entries_of s) s origin rule handle (λ place. refl) refl

      onward : Onward s (store origin rule handle s)
      onward = onward_store origin rule handle s

      heap : Heap (entry_key (store origin rule handle s).items) (entries_of (store origin rule handle s))
      heap =
          subst (Heap (entry_key (store origin rule handle s).items)) (sym same)
          (heap_same_keys (entry_key s.items) (entry_key (store origin rule handle s).items) (entries_of s)
          (record { each = λ i there. onward_key onward (entry_at (entries_of s) i).place ((sound-entries s sound).each i there) }) ordered.heap)

      each : Every (λ v. Q (item_at (store origin rule handle s).items v.place)) (entries_of (store origin rule handle s))
      each =
          subst (Every (λ v. Q (item_at (store origin rule handle s).items v.place))) (sym same)
          (record {
            each = λ i there.
                subst Q (sym (onward.same-items (entry_at (entries_of s) i).place ((sound-entries s sound).each i there))) (ordered.each.each i there);
          })

  pub ordered-enqueue : (place right : ℕ) → Q (item_at s.items place) → Ordered Q (enqueue place right s)
  ordered-enqueue place right new = enqueue_cases (Ordered Q) s place right (λ free. done) (record { heap = ordered.heap; each = ordered.each })
    where
      done : Ordered Q (queued_pass place right s)
      done =
          record {
            heap =
                subst (Heap (entry_key s.items)) (sym (queued_entries s sound.queued_fit place right))
                (pushed-heap (entry_key s.items) (entries_of s) (record { place = place; right = right }) ordered.heap);
            each =
                subst (Every (λ v. Q (item_at s.items v.place))) (sym (queued_entries s sound.queued_fit place right))
                (pushed_every (entry_key s.items) (entries_of s) (record { place = place; right = right }) (λ v. Q (item_at s.items v.place)) ordered.each new);
          }

  pub ordered-append : (n : Node) → Ordered Q (append n s)
  ordered-append n =
      append_cases (Ordered Q) s n ordered (λ us on is some room. record { heap = ordered.heap; each = ordered.each })
      (record { heap = ordered.heap; each = ordered.each })

  pub ordered_pop : 0 < s.at.queued → Ordered Q (pop_greatest s)
  ordered_pop some = pop_is (Ordered Q) s some done
    where
      done : Ordered Q (popped_pass s)
      done =
          record {
            heap =
                subst (Heap (entry_key s.items)) (sym (popped-entries s sound.queued_fit some))
                (popped-heap (entry_key s.items) (entries_of s) (some-entries s sound.queued_fit some) ordered.heap);
            each =
                subst (Every (λ v. Q (item_at s.items v.place))) (sym (popped-entries s sound.queued_fit some))
                (popped_every (entry_key s.items) (entries_of s) (some-entries s sound.queued_fit some) (λ v. Q (item_at s.items v.place)) ordered.each);
          }

-- A pass behind `s` that is sound and charted, whose entries are a heap and have `Q`.
pub record Heaped (rs : List Rule) (starts : List ℕ) (Q : Item → Type 0) (s t : Pass) : Type 0 where
  pub steady : Steady rs starts s t
  pub ordered : Ordered Q t

-- What has `Q`, and so another, has that.
pub heaped_more : (rs : List Rule) (starts : List ℕ) (s : Pass) (Q Q' : Item → Type 0) → ((i : Item) → Q i → Q' i) → (t : Pass)
    → Heaped rs starts Q s t → Heaped rs starts Q' s t
heaped_more rs starts s Q Q' more t heaped =
    record {
      steady = heaped.steady;
      ordered = record {
        heap = heaped.ordered.heap;
        each = record { each = λ i there. more (item_at t.items (entry_at (entries_of t) i).place) (heaped.ordered.each.each i there) };
      };
    }

module _ (rs : List Rule) (starts : List ℕ) (Q : Item → Type 0) (s : Pass) where
  pub heaped_store : (k r link : ℕ) (t : Pass) → IsSet starts k → r < length rs → Heaped rs starts Q s t → Heaped rs starts Q s (store k r link t)
  heaped_store k r link t set rule heaped =
      record {
        steady = steady_store rs starts s k r link t set rule heaped.steady;
        ordered = ordered-store Q t heaped.steady.sound heaped.ordered k r link;
      }

  pub heaped_enqueue : (place right : ℕ) (t : Pass) → place < t.at.items → Q (item_at t.items place) → Heaped rs starts Q s t
      → Heaped rs starts Q s (enqueue place right t)
  heaped_enqueue place right t there new heaped =
      record {
        steady = steady_enqueue rs starts s place right t there heaped.steady;
        ordered = ordered-enqueue Q t heaped.steady.sound heaped.ordered place right new;
      }

  pub heaped_append : (n : Node) (t : Pass) → Heaped rs starts Q s t → Heaped rs starts Q s (append n t)
  heaped_append n t heaped =
      record {
        steady = steady_append rs starts s n t heaped.steady;
        ordered = ordered-append Q t heaped.steady.sound heaped.ordered n;
      }

  pub heaped_next : (t : Pass) → 0 < t.at.queued → Heaped rs starts Q s t → Heaped rs starts Q s (next_summand t)
  unfolding next_summand
  heaped_next t some heaped =
      heaped_append (product_node t.items (entry_at t.queue 0)) (pop_greatest t)
      (record {
        steady = steady_pop_greatest rs starts s t some heaped.steady;
        ordered = ordered_pop Q t heaped.steady.sound heaped.ordered some;
      })

  pub heaped_both : (k r link : ℕ) (t : Pass) → IsSet starts k → r < length rs → Q (record { origin = k; rule = r; handle = link }) → Heaped rs starts Q s t
      → Heaped rs starts Q s (and_then (store k r link t) (enqueue t.at.items all_ones))
  heaped_both k r link t set rule new heaped =
      let there : Heaped rs starts Q s (store k r link t) = heaped_store k r link t set rule heaped in
      then_cases (Heaped rs starts Q s) (store k r link t) _ there
      (λ on.
      let place : t.at.items < (store k r link t).at.items = store-place k r link t on in
      heaped_enqueue t.at.items all_ones (store k r link t) place
      (subst Q (sym (stored-new k r link t heaped.steady.sound t.at.items (omega arith) place)) new) there)

  -- Popping keeps it.
  pub heaped_pop : (k x : ℕ) (t : Pass) → Heaped rs starts Q s t → Heaped rs starts Q s (pop_sum rs k x t)
  unfolding pop_sum
  heaped_pop k x t heaped =
      until-keeps (sum_ends rs k x) next_summand (Heaped rs starts Q s) (λ u goes. heaped_next u (sum_goes rs k x u goes)) t.at.queued t heaped

  -- Completing keeps it, if what a completion of set `k` and symbol `x` queues has `Q`.
  module _ (rows : List ℕ) (k x link : ℕ) (set : IsSet starts k) (charted : Charted rs starts s)
      (of-set : (p : ℕ) → Inside starts k p → second_of rs (item_at s.items p) ≡ x → Q (item_at s.items p))
      (of_rule : (r : ℕ) → Begins rs rows k x r → (get_or rs r no_rule).second ≡ none → Q (record { origin = k; rule = r; handle = link })) where
    pub heaped_medial_items : (t : Pass) → Heaped rs starts Q s t → Heaped rs starts Q s (complete_medial_items rs starts k x link t)
    heaped_medial_items = medial_items_keep rs starts rows k x link (Heaped rs starts Q s)
        (λ p t inside second on heaped.
        let old : p < s.at.items = omega (arith, inside.up_to, charted.starts_fit (k + 1)) in
        let same : item_at t.items p ≡ item_at s.items p = heaped.steady.onward.same-items p old in
        heaped_enqueue p link t (omega (arith, heaped.steady.onward.more-items))
        (subst Q (sym same) (of-set p inside (sym (ap (second_of rs) same) ∙ second))) heaped)

    pub heaped_unary_predictions : (t : Pass) → Heaped rs starts Q s t → Heaped rs starts Q s (complete_unary_predictions rs rows k x link t)
    heaped_unary_predictions = unary_predictions_go rs starts rows k x link (λ r t. Heaped rs starts Q s t) (λ r t heaped. heaped)
        (λ r t begins one on heaped. heaped_both k r link t set begins.is_rule (of_rule r begins one) heaped)

    pub heaped_binary_predictions : (t : Pass) → Heaped rs starts Q s t → Heaped rs starts Q s (complete_binary_predictions rs rows k x link t)
    heaped_binary_predictions = binary_predictions_go rs starts rows k x link (λ r t. Heaped rs starts Q s t) (λ r t heaped. heaped)
        (λ r t begins two on heaped. heaped_store k r link t set begins.is_rule heaped)

    pub heaped_complete : (t : Pass) → Heaped rs starts Q s t → Heaped rs starts Q s (complete rs starts rows k x link t)
    heaped_complete t heaped =
        complete_cases rs starts rows k x link (Heaped rs starts Q s) t heaped
        (λ there.
        heaped_binary_predictions (complete_unary_predictions rs rows k x link (complete_medial_items rs starts k x link t))
        (heaped_unary_predictions (complete_medial_items rs starts k x link t) (heaped_medial_items t heaped)))
