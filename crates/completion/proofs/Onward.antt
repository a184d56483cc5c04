-- What no step of a pass changes: the items that are there, the words behind them, and the numbers of words.
use Rattle.std.proofs.Common.{◌≡◌, refl, sym, ap, ◌∙◌, subst, List, ℕ, ◌+◌, ◌-◌, ◌*◌, ◌/◌, ◌≤◌, ◌<◌, arith, length, get_or, take, length-take, ext_get_or, get_or-take}
use native.Mathlib.Decide.{dec_lt, ℕ_discrete}
use Rattle.item.specs.Item.{Item, item_words, item_at, key_at, key_of}
use Rattle.item.proofs.Words.{stored-length, stored_item_other, stored_other}
use Rattle.binary_heap.specs.Entry.{no_entry}
use Rattle.binary_heap.specs.Sift.{entry_at}
use Rattle.node.specs.Rows.{units_at}
use Rattle.node.specs.Writing.{usable}
use Rattle.node.proofs.Runs.{length-put, length-usable}
use Rattle.node.proofs.Puts.{put-below, put-behind}
use Rattle.node.specs.declared.Node.{Node}
use Rattle.completion.specs.Pass.{Pass, refused, store, enqueue, append, items_full, queue_full, store_full}
use Rattle.completion.specs.inner.Ready.{UnitsFit}
use Rattle.completion.specs.Sums.{product_node, pop_greatest, next_summand}
use Rattle.completion.proofs.Entries.{stored_pass, queued_pass, popped_pass, appended_pass, store_cases, enqueue_cases, append_cases, pop_is, queued_length, queued_behind, popped-words, popped-last, popped-behind}

-- Behind the entries of the queue there is none.
pub record SpareQueue (s : Pass) : Type 0 where
  pub spare : (i : ℕ) → s.at.queued ≤ i → entry_at s.queue i ≡ no_entry

-- Pass `t` comes behind pass `s`: items were stored behind those of `s`, units were written behind those that it used, and no other item word or
-- unit was touched.
pub record Onward (s t : Pass) : Type 0 where
  pub more-items : s.at.items ≤ t.at.items
  pub item_words_lem : length t.items ≡ length s.items
  pub queue-words : length t.queue ≡ length s.queue
  pub same-items : (p : ℕ) → p < s.at.items → item_at t.items p ≡ item_at s.items p
  pub same_spare : (i : ℕ) → item_words * t.at.items ≤ i → get_or t.items i 0 ≡ get_or s.items i 0
  pub spare_queue : SpareQueue s → SpareQueue t
  pub more-units : s.at.used ≤ t.at.used
  pub unit-words : length t.units ≡ length s.units
  pub used_fit : s.at.used ≤ length s.units → t.at.used ≤ length t.units
  pub same_units : (i : ℕ) → i < s.at.used → get_or t.units i 0 ≡ get_or s.units i 0
  pub spare_units : (i : ℕ) → t.at.used ≤ i → get_or t.units i 0 ≡ get_or s.units i 0

pub onward_refl : (s : Pass) → Onward s s
onward_refl s =
    record {
      more-items = omega arith;
      item_words_lem = refl;
      queue-words = refl;
      same-items = λ p there. refl;
      same_spare = λ i behind. refl;
      spare_queue = λ spare. spare;
      more-units = omega arith;
      unit-words = refl;
      used_fit = λ fit. fit;
      same_units = λ i there. refl;
      spare_units = λ i behind. refl;
    }

pub onward_trans : {s t u : Pass} → Onward s t → Onward t u → Onward s u
onward_trans {s} {t} {u} a b =
    record {
      more-items = omega (arith, a.more-items, b.more-items);
      item_words_lem = b.item_words_lem ∙ a.item_words_lem;
      queue-words = b.queue-words ∙ a.queue-words;
      same-items = λ p there. b.same-items p (omega (arith, a.more-items)) ∙ a.same-items p there;
      same_spare = λ i behind. b.same_spare i behind ∙ a.same_spare i (omega (arith, b.more-items));
      spare_queue = λ spare. b.spare_queue (a.spare_queue spare);
      more-units = omega (arith, a.more-units, b.more-units);
      unit-words = b.unit-words ∙ a.unit-words;
      used_fit = λ fit. b.used_fit (a.used_fit fit);
      same_units = λ i there. b.same_units i (omega (arith, a.more-units)) ∙ a.same_units i there;
      spare_units = λ i behind. b.spare_units i behind ∙ a.spare_units i (omega (arith, b.more-units));
    }

-- Places of items keep their keys.
pub onward_key : {s t : Pass} → Onward s t → (p : ℕ) → p < s.at.items → key_at t.items p ≡ key_at s.items p
onward_key o p there = ap key_of (o.same-items p there)

-- The item words before the items that were stored are as they were.
pub onward_words : {s t : Pass} → Onward s t → (i : ℕ) → i < item_words * s.at.items → get_or t.items i 0 ≡ get_or s.items i 0
onward_words {s} {t} onward i there =
    let same : item_at t.items (i / item_words) ≡ item_at s.items (i / item_words) = onward.same-items (i / item_words) (omega arith) in
    elim (ℕ_discrete (item_words * (i / item_words)) i) [
      | yes origin ↦ subst (λ (n : ℕ). get_or t.items n 0 ≡ get_or s.items n 0) origin (ap (λ (i : Item). i.origin) same)
      | no other ↦
          elim (ℕ_discrete (item_words * (i / item_words) + 1) i) [
            | yes rule ↦ subst (λ (n : ℕ). get_or t.items n 0 ≡ get_or s.items n 0) rule (ap (λ (i : Item). i.rule) same)
            | no another ↦
                (let handle : item_words * (i / item_words) + 2 ≡ i = omega arith in
                subst (λ (n : ℕ). get_or t.items n 0 ≡ get_or s.items n 0) handle (ap (λ (i : Item). i.handle) same))
          ]
    ]

pub onward_take : {s t : Pass} → Onward s t → (n : ℕ) → n ≤ item_words * s.at.items → take n t.items ≡ take n s.items
onward_take {s} {t} onward n few =
    ext_get_or 0 (take n t.items) (take n s.items) (omega (arith, length-take n t.items, length-take n s.items, onward.item_words_lem))
    (λ i there.
    let below : i < n = omega (arith, length-take n t.items) in
    get_or-take n t.items i 0 below ∙ onward_words onward i (omega arith) ∙ sym (get_or-take n s.items i 0 below))

pub onward_refused : (number : ℕ) (s : Pass) → Onward s (refused number s)
onward_refused number s =
    record {
      more-items = omega arith;
      item_words_lem = refl;
      queue-words = refl;
      same-items = λ p there. refl;
      same_spare = λ i behind. refl;
      spare_queue = λ spare. record { spare = spare.spare };
      more-units = omega arith;
      unit-words = refl;
      used_fit = λ fit. fit;
      same_units = λ i there. refl;
      spare_units = λ i behind. refl;
    }

pub onward_store : (origin rule handle : ℕ) (s : Pass) → Onward s (store origin rule handle s)
onward_store origin rule handle s = store_cases (Onward s) s origin rule handle (λ place. done) (onward_refused items_full s)
  where
    done : Onward s (stored_pass origin rule handle s)
    done =
        record {
          more-items = omega arith;
          item_words_lem = stored-length s.items s.at.items (record { origin = origin; rule = rule; handle = handle });
          queue-words = refl;
          same-items = λ p there. stored_item_other s.items s.at.items (record { origin = origin; rule = rule; handle = handle }) p (λ e. omega arith);
          same_spare = λ i behind.
              stored_other s.items s.at.items (record { origin = origin; rule = rule; handle = handle }) i (λ e. omega arith) (λ e. omega arith)
              (λ e. omega arith);
          spare_queue = λ spare. record { spare = spare.spare };
          more-units = omega arith;
          unit-words = refl;
          used_fit = λ fit. fit;
          same_units = λ i there. refl;
          spare_units = λ i behind. refl;
        }

pub onward_enqueue : (place right : ℕ) (s : Pass) → s.at.queued ≤ length s.queue → Onward s (enqueue place right s)
onward_enqueue place right s fit = enqueue_cases (Onward s) s place right done (onward_refused queue_full s)
  where
    done : s.at.queued < length s.queue → Onward s (queued_pass place right s)
    done free =
        record {
          more-items = omega arith;
          item_words_lem = refl;
          queue-words = queued_length s fit place right free;
          same-items = λ p there. refl;
          same_spare = λ i behind. refl;
          spare_queue = λ spare. record { spare = λ i behind. queued_behind s fit place right i behind ∙ spare.spare i (omega arith) };
          more-units = omega arith;
          unit-words = refl;
          used_fit = λ fit. fit;
          same_units = λ i there. refl;
          spare_units = λ i behind. refl;
        }

pub onward_pop : (s : Pass) → s.at.queued ≤ length s.queue → 0 < s.at.queued → Onward s (pop_greatest s)
onward_pop s fit some = pop_is (Onward s) s some done
  where
    popped_spare : SpareQueue s → SpareQueue (popped_pass s)
    popped_spare spare = record {
      spare = λ i behind.
          elim (dec_lt i s.at.queued) [
            | yes last ↦
                (let is : s.at.queued - 1 ≡ i = omega arith in
                subst (λ (n : ℕ). entry_at (popped_pass s).queue n ≡ no_entry) is (popped-last s fit some))
            | no there ↦ popped-behind s fit some i (omega arith) ∙ spare.spare i (omega arith)
          ];
    }

    done : Onward s (popped_pass s)
    done =
        record {
          more-items = omega arith;
          item_words_lem = refl;
          queue-words = popped-words s fit some;
          same-items = λ p there. refl;
          same_spare = λ i behind. refl;
          spare_queue = popped_spare;
          more-units = omega arith;
          unit-words = refl;
          used_fit = λ fit. fit;
          same_units = λ i there. refl;
          spare_units = λ i behind. refl;
        }

-- A node is written behind the used units, or not at all.
pub onward_append : (n : Node) (s : Pass) → Onward s (append n s)
onward_append n s = append_cases (Onward s) s n (onward_refl s) done (onward_refused store_full s)
  where
    done : (us : List ℕ) → s.at.stopped ≡ 0 → units_at s.at.used n ≡ us → 0 < length us → s.at.used + length us ≤ length (usable s.units)
        → Onward s (appended_pass us s)
    done us on is some room =
        let few : length (usable s.units) ≤ length s.units = omega (arith, length-usable s.units) in
        record {
          more-items = omega arith;
          item_words_lem = refl;
          queue-words = refl;
          same-items = λ p there. refl;
          same_spare = λ i behind. refl;
          spare_queue = λ spare. record { spare = spare.spare };
          more-units = omega arith;
          unit-words = length-put s.units s.at.used us;
          used_fit = λ fit. omega (arith, length-put s.units s.at.used us);
          same_units = λ i there. put-below s.units s.at.used us i there;
          spare_units = λ i behind. put-behind s.units s.at.used us i behind;
        }

-- A summand: the greatest entry is popped and its Product written.
pub onward_next : (s : Pass) → s.at.queued ≤ length s.queue → 0 < s.at.queued → Onward s (next_summand s)
unfolding next_summand
onward_next s fit some =
    onward_trans (onward_pop s fit some) (onward_append (product_node s.items (entry_at s.queue 0)) (pop_greatest s))

-- The used units stay within the store.
pub units_onward : {s t : Pass} → Onward s t → UnitsFit s → UnitsFit t
units_onward onward fit = record { few_units = omega (arith, onward.unit-words, fit.few_units); used_fit = onward.used_fit fit.used_fit }
