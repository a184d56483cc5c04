-- The counts of a pass stay within the words, and the entries of its queue stay places of items.
use Rattle.std.proofs.Common.{◌≡◌, refl, sym, ap, ◌∙◌, subst, List, ◌++◌, ℕ, ◌+◌, ◌/◌, ◌<◌, arith, length, take, drop, length-append, length-drop, length-take-le, get_or-take, lt-ltb}
use native.Mathlib.Decide.{dec_lt, ℕ_discrete}
use lib.ListN.{get_or-append}
use Rattle.binary_heap.proofs.Each.{Every}
use Rattle.item.specs.Item.{item_words, HasPlace, stored}
use Rattle.item.proofs.Words.{stored-length}
use Rattle.binary_heap.specs.Entry.{Entry, no_entry, entry_key}
use Rattle.binary_heap.specs.Sift.{entry_at}
use Rattle.binary_heap.specs.Heap.{pushed}
use Rattle.binary_heap.specs.Queue.{Places, push_queue}
use Rattle.binary_heap.proofs.PushLaws.{pushed-length, pushed_every}
use Rattle.completion.specs.Pass.{Progress}
use Rattle.completion.specs.Pass.{Pass, pass_with, refused, and_then, store, enqueue}
use Rattle.completion.specs.inner.Ready.{PassFits}
use Rattle.completion.proofs.Pushes.{store_done, store-refused, enqueue_done, enqueue-refused, goes_on, stays}

-- The words have every place below the number of items.
pub has-place : (s : Pass) → PassFits s → (p : ℕ) → p < s.at.items → HasPlace s.items p
has-place s sound p there = omega (arith, sound.items_fit)

-- The entries of a sound pass are places of items.
pub sound-places : (s : Pass) → PassFits s → Places s.items s.queue s.at.queued
sound-places s sound =
    record { within = sound.queued_fit; places = λ i there. has-place s sound (entry_at s.queue i).place (sound.entries i there) }

-- A refusal keeps a pass sound.
pub refused-sound : (n : ℕ) (s : Pass) → PassFits s → PassFits (refused n s)
refused-sound n s sound =
    record {
      few_items = sound.few_items;
      items_fit = sound.items_fit;
      few_entries = sound.few_entries;
      queued_fit = sound.queued_fit;
      entries = sound.entries;
    }

-- What goes on from a sound pass that was not refused, if it stays sound.
pub then-sound : (s : Pass) (next : Pass → Pass) → PassFits s → (s.at.stopped ≡ 0 → PassFits (next s)) → PassFits (and_then s next)
then-sound s next sound on =
    elim (ℕ_discrete s.at.stopped 0) [
      | yes e ↦ subst PassFits (sym (goes_on s next e)) (on e)
      | no ne ↦ subst PassFits (sym (stays s next ne)) sound
    ]

-- Storing an item keeps a pass sound.
pub store-sound : (origin rule handle : ℕ) (s : Pass) → PassFits s → PassFits (store origin rule handle s)
store-sound origin rule handle s sound =
    elim (dec_lt s.at.items (length s.items / item_words)) [
      | yes place ↦ subst PassFits (sym (store_done s origin rule handle place)) (done place)
      | no full ↦ subst PassFits (sym (store-refused s origin rule handle (omega arith))) (refused-sound 7 s sound)
    ]
  where
    long : length (stored s.items s.at.items (record { origin = origin; rule = rule; handle = handle })) ≡ length s.items
    long = stored-length s.items s.at.items (record { origin = origin; rule = rule; handle = handle })

    done : s.at.items < length s.items / item_words → PassFits (pass_with (record { stopped = 0; items = s.at.items + 1; queued = s.at.queued; used = s.at.used }) (stored s.items s.at.items (record { origin = origin; rule = rule; handle = handle })) s.queue s.units)
    done place =
        record {
          few_items = omega (arith, long, sound.few_items);
          items_fit = omega (arith, long);
          few_entries = sound.few_entries;
          queued_fit = sound.queued_fit;
          entries = λ i there. omega (arith, sound.entries i there);
        }

-- A queue that took a push.
pub push_into : (key : Entry → ℕ) (q : List Entry) (n : ℕ) (entry : Entry) → n < length q → push_queue key (length q) q n entry ≡ pushed key (take n q) entry ++ drop (n + 1) q
unfolding push_queue
push_into key q n entry free = rw (push_queue, lt-ltb n (length q) free) refl

-- Queueing a place of an item keeps a pass sound.
pub enqueue-sound : (place right : ℕ) (s : Pass) → PassFits s → place < s.at.items → PassFits (enqueue place right s)
enqueue-sound place right s sound there =
    elim (dec_lt s.at.queued (length s.queue)) [
      | yes free ↦ subst PassFits (sym (enqueue_done s place right free)) (subst (λ (w : List Entry). PassFits (pass_with at' s.items w s.units)) (sym (push_into key q n entry free)) (done free))
      | no full ↦ subst PassFits (sym (enqueue-refused s place right (omega arith))) (refused-sound 8 s sound)
    ]
  where
    key : Entry → ℕ
    key = entry_key s.items

    q : List Entry
    q = s.queue

    entry : Entry
    entry = record { place = place; right = right }

    n : ℕ
    n = s.at.queued

    at' : Progress
    at' = record { stopped = 0; items = s.at.items; queued = s.at.queued + 1; used = s.at.used }

    done : n < length q → PassFits (pass_with at' s.items (pushed key (take n q) entry ++ drop (n + 1) q) s.units)
    done free =
        let first-n : length (take n q) ≡ n = length-take-le n q (omega arith) in
        let long : length (pushed key (take n q) entry) ≡ n + 1 = pushed-length key (take n q) entry ∙ ap (λ (m : ℕ). m + 1) first-n in
        let entries : Every (λ v. v.place < s.at.items) (take n q) =
        record { each = λ i h. subst (λ (v : Entry). v.place < s.at.items) (sym (get_or-take n q i no_entry (omega (arith, first-n)))) (sound.entries i (omega (arith, first-n))) } in
        let all : Every (λ v. v.place < s.at.items) (pushed key (take n q) entry) = pushed_every key (take n q) entry (λ v. v.place < s.at.items) entries there in
        record {
          few_items = sound.few_items;
          items_fit = sound.items_fit;
          few_entries = omega (arith, sound.few_entries, length-append (pushed key (take n q) entry) (drop (n + 1) q), length-drop (n + 1) q, long);
          queued_fit = omega (arith, length-append (pushed key (take n q) entry) (drop (n + 1) q), long);
          entries = λ i h.
              subst (λ (v : Entry). v.place < s.at.items) (sym (get_or-append (pushed key (take n q) entry) (drop (n + 1) q) no_entry i (omega (arith, long))))
              (all.each i (omega (arith, long)));
        }
