-- The queue of a pass as the list of its entries, and what each step of a pass makes of it.
use Rattle.std.proofs.Common.{◌≡◌, refl, sym, ap, ◌∙◌, subst, List, [], ◌∷◌, ◌++◌, ℕ, ◌+◌, ◌-◌, ◌/◌, ◌≤◌, ◌<◌, arith, length, take, drop, length-append, length-drop, length-take-le, get_or-take, take_at, get_or-append-add, get_or-drop, lt-ltb, le-leb}
use native.Mathlib.Decide.{dec_lt, ℕ_discrete}
use borrow.Author.Tests.{lt-leb}
use Rattle.binary_heap.proofs.Each.{Every}
use Rattle.item.specs.Item.{item_words, stored}
use Rattle.binary_heap.specs.Entry.{Entry, no_entry, entry_key}
use Rattle.binary_heap.specs.Sift.{entry_at}
use Rattle.binary_heap.specs.Heap.{pushed, popped}
use Rattle.binary_heap.specs.Queue.{pop_queue}
use Rattle.binary_heap.proofs.PushLaws.{pushed-length}
use Rattle.binary_heap.proofs.PopLaws.{popped-length}
use Rattle.node.specs.Rows.{units_at}
use Rattle.node.specs.Answers.{values_of}
use Rattle.node.specs.Writing.{usable, put, place, write_units, write_at}
use Rattle.node.specs.declared.Node.{Node}
use Rattle.completion.specs.Pass.{Pass, pass_with, refused, and_then, store, enqueue, written, append, items_full, queue_full, store_full}
use Rattle.completion.specs.Sums.{pop_greatest}
use Rattle.completion.proofs.Pushes.{store_done, store-refused, enqueue_done, enqueue-refused, goes_on, stays}
use Rattle.completion.proofs.Soundness.{push_into}

-- The entries of the queue.
abbrev pub entries_of : Pass → List Entry
entries_of s = take s.at.queued s.queue

-- A pass after an item was stored, after a place was queued, and after the greatest entry was popped.
abbrev pub stored_pass : ℕ → ℕ → ℕ → Pass → Pass
stored_pass origin rule handle s =
    pass_with (record { stopped = 0; items = s.at.items + 1; queued = s.at.queued; used = s.at.used })
    (stored s.items s.at.items (record { origin = origin; rule = rule; handle = handle })) s.queue s.units

abbrev pub queued_pass : ℕ → ℕ → Pass → Pass
queued_pass place right s =
    pass_with (record { stopped = 0; items = s.at.items; queued = s.at.queued + 1; used = s.at.used }) s.items
    (pushed (entry_key s.items) (entries_of s) (record { place = place; right = right }) ++ drop (s.at.queued + 1) s.queue) s.units

abbrev pub popped_pass : Pass → Pass
popped_pass s =
    pass_with (record { stopped = s.at.stopped; items = s.at.items; queued = s.at.queued - 1; used = s.at.used }) s.items
    (popped (entry_key s.items) (entries_of s) ++ (no_entry ∷ drop s.at.queued s.queue)) s.units

-- A pass after units were written behind the used ones.
abbrev pub appended_pass : List ℕ → Pass → Pass
appended_pass us s =
    pass_with (record { stopped = 0; items = s.at.items; queued = s.at.queued; used = s.at.used + length us }) s.items s.queue
    (put s.units s.at.used us)

module _ (P : Pass → Type 0) (s : Pass) where
  -- Storing an item ends in one of two ways.
  pub store_cases : (origin rule handle : ℕ) → (s.at.items < length s.items / item_words → P (stored_pass origin rule handle s)) → P (refused items_full s)
      → P (store origin rule handle s)
  store_cases origin rule handle done full =
      elim (dec_lt s.at.items (length s.items / item_words)) [
        | yes place ↦ subst P (sym (store_done s origin rule handle place)) (done place)
        | no none ↦ subst P (sym (store-refused s origin rule handle (omega arith))) full
      ]

  -- Queueing a place ends in one of two ways.
  pub enqueue_cases : (place right : ℕ) → (s.at.queued < length s.queue → P (queued_pass place right s)) → P (refused queue_full s) → P (enqueue place right s)
  enqueue_cases place right done full =
      elim (dec_lt s.at.queued (length s.queue)) [
        | yes free ↦
            subst P (sym (enqueue_done s place right free))
            (subst (λ (w : List Entry). P (pass_with (record { stopped = 0; items = s.at.items; queued = s.at.queued + 1; used = s.at.used }) s.items w s.units))
            (sym (push_into (entry_key s.items) s.queue s.at.queued (record { place = place; right = right }) free)) (done free))
        | no none ↦ subst P (sym (enqueue-refused s place right (omega arith))) full
      ]

  -- What goes on from a pass that was not refused.
  pub then_cases : (next : Pass → Pass) → P s → (s.at.stopped ≡ 0 → P (next s)) → P (and_then s next)
  then_cases next p on =
      elim (ℕ_discrete s.at.stopped 0) [
        | yes e ↦ subst P (sym (goes_on s next e)) (on e)
        | no ne ↦ subst P (sym (stays s next ne)) p
      ]

  -- Writing a node where nothing was refused before ends in one of two ways,
  pub append_goes : (n : Node) → s.at.stopped ≡ 0
      → ((us : List ℕ) → units_at s.at.used n ≡ us → 0 < length us → s.at.used + length us ≤ length (usable s.units) → P (appended_pass us s))
      → P (refused store_full s) → P (append n s)
  unfolding append written write_units place
  append_goes n on done full =
      subst P (sym (goes_on s (λ (t : Pass). written t (write_at t.units t.at.used n).store (values_of (write_at t.units t.at.used n).answer)) on))
      (by_units (units_at s.at.used n) refl)
    where
      by_units : (us : List ℕ) → units_at s.at.used n ≡ us
          → P (written s (write_units s.units s.at.used us).store (values_of (write_units s.units s.at.used us).answer))
      by_units [] is = full
      by_units (u ∷ us) is =
          elim (dec_lt (length (usable s.units)) (s.at.used + length (u ∷ us))) [
            | yes none ↦ rw (place, lt-leb (s.at.used + length (u ∷ us)) (length (usable s.units)) none) full
            | no room ↦
                rw (place, le-leb (s.at.used + length (u ∷ us)) (length (usable s.units)) (omega arith)) (done (u ∷ us) is (omega arith) (omega arith))
          ]

  -- and nothing is done where something was.
  pub append_cases : (n : Node) → P s
      → ((us : List ℕ) → s.at.stopped ≡ 0 → units_at s.at.used n ≡ us → 0 < length us → s.at.used + length us ≤ length (usable s.units)
      → P (appended_pass us s))
      → P (refused store_full s) → P (append n s)
  unfolding append
  append_cases n before done full =
      elim (ℕ_discrete s.at.stopped 0) [
        | yes on ↦ append_goes n on (λ us is some room. done us on is some room) full
        | no stopped ↦ subst P (sym (stays s _ stopped)) before
      ]

  -- Popping the greatest of some entries.
  pub pop_is : 0 < s.at.queued → P (popped_pass s) → P (pop_greatest s)
  unfolding pop_greatest pop_queue
  pop_is some p = rw (pop_greatest, pop_queue, lt-ltb 0 s.at.queued some) p

-- Writing a node stores and queues nothing.
pub append-count : (n : Node) (s : Pass) → (append n s).at.items ≡ s.at.items
append-count n s = append_cases (λ (t : Pass). t.at.items ≡ s.at.items) s n refl (λ us on is some room. refl) refl

pub append-items : (n : Node) (s : Pass) → (append n s).items ≡ s.items
append-items n s = append_cases (λ (t : Pass). t.items ≡ s.items) s n refl (λ us on is some room. refl) refl

pub append_queued : (n : Node) (s : Pass) → (append n s).at.queued ≡ s.at.queued
append_queued n s = append_cases (λ (t : Pass). t.at.queued ≡ s.at.queued) s n refl (λ us on is some room. refl) refl

pub append-queue : (n : Node) (s : Pass) → (append n s).queue ≡ s.queue
append-queue n s = append_cases (λ (t : Pass). t.queue ≡ s.queue) s n refl (λ us on is some room. refl) refl

module _ (s : Pass) (fit : s.at.queued ≤ length s.queue) where
  -- There are as many entries as are counted.
  pub entries-length : length (entries_of s) ≡ s.at.queued
  entries-length = length-take-le s.at.queued s.queue fit

  pub entry_at_lem : (i : ℕ) → i < s.at.queued → entry_at (entries_of s) i ≡ entry_at s.queue i
  entry_at_lem i there = get_or-take s.at.queued s.queue i no_entry there

  -- What each entry has, by its place in the queue.
  pub each_entry : (P : Entry → Type 0) → Every P (entries_of s) → (i : ℕ) → i < s.at.queued → P (entry_at s.queue i)
  each_entry P all i there = subst P (entry_at_lem i there) (all.each i (omega (arith, entries-length)))

  pub every_entry : (P : Entry → Type 0) → ((i : ℕ) → i < s.at.queued → P (entry_at s.queue i)) → Every P (entries_of s)
  every_entry P all = record {
    each = λ i there.
        let counted : i < s.at.queued = omega (arith, entries-length) in
        subst P (sym (entry_at_lem i counted)) (all i counted);
  }

  module _ (place right : ℕ) where
    queue-pushed-length : length (pushed (entry_key s.items) (entries_of s) (record { place = place; right = right })) ≡ s.at.queued + 1
    queue-pushed-length = omega (arith, pushed-length (entry_key s.items) (entries_of s) (record { place = place; right = right }), entries-length)

    -- A push into the queue is a push into the list of entries,
    pub queued_entries : entries_of (queued_pass place right s) ≡ pushed (entry_key s.items) (entries_of s) (record { place = place; right = right })
    queued_entries =
        take_at (pushed (entry_key s.items) (entries_of s) (record { place = place; right = right })) (drop (s.at.queued + 1) s.queue) (s.at.queued + 1) queue-pushed-length

    -- and leaves the room, and what is behind the entries.
    pub queued_length : s.at.queued < length s.queue → length (queued_pass place right s).queue ≡ length s.queue
    queued_length free =
        omega (
          arith,
          length-append (pushed (entry_key s.items) (entries_of s) (record { place = place; right = right })) (drop (s.at.queued + 1) s.queue),
          queue-pushed-length,
          length-drop (s.at.queued + 1) s.queue,
        )

    pub queued_behind : (i : ℕ) → s.at.queued + 1 ≤ i → entry_at (queued_pass place right s).queue i ≡ entry_at s.queue i
    queued_behind i behind =
        let p : List Entry = pushed (entry_key s.items) (entries_of s) (record { place = place; right = right }) in
        let rest : List Entry = drop (s.at.queued + 1) s.queue in
        let there : length p + (i - (s.at.queued + 1)) ≡ i = omega (arith, queue-pushed-length) in
        let from : s.at.queued + 1 + (i - (s.at.queued + 1)) ≡ i = omega arith in
        ap (entry_at (p ++ rest)) (sym there)
        ∙ get_or-append-add p rest (i - (s.at.queued + 1)) no_entry
        ∙ get_or-drop (s.at.queued + 1) s.queue (i - (s.at.queued + 1)) no_entry
        ∙ ap (entry_at s.queue) from

  module _ (some : 0 < s.at.queued) where
    pub some-entries : 0 < length (entries_of s)
    some-entries = omega (arith, entries-length)

    queue-popped-length : length (popped (entry_key s.items) (entries_of s)) ≡ s.at.queued - 1
    queue-popped-length = omega (arith, popped-length (entry_key s.items) (entries_of s) some-entries, entries-length)

    -- A pop from the queue is a pop from the list of entries,
    pub popped-entries : entries_of (popped_pass s) ≡ popped (entry_key s.items) (entries_of s)
    popped-entries =
        take_at (popped (entry_key s.items) (entries_of s)) (no_entry ∷ drop s.at.queued s.queue) (s.at.queued - 1) queue-popped-length

    -- and leaves the room, and behind the entries none and what was there.
    pub popped-words : length (popped_pass s).queue ≡ length s.queue
    popped-words =
        omega (
          arith,
          length-append (popped (entry_key s.items) (entries_of s)) (no_entry ∷ drop s.at.queued s.queue),
          queue-popped-length,
          length-drop s.at.queued s.queue,
        )

    pub popped-last : entry_at (popped_pass s).queue (s.at.queued - 1) ≡ no_entry
    popped-last =
        let p : List Entry = popped (entry_key s.items) (entries_of s) in
        let rest : List Entry = no_entry ∷ drop s.at.queued s.queue in
        let there : length p + 0 ≡ s.at.queued - 1 = omega (arith, queue-popped-length) in
        ap (entry_at (p ++ rest)) (sym there) ∙ get_or-append-add p rest 0 no_entry

    pub popped-behind : (i : ℕ) → s.at.queued ≤ i → entry_at (popped_pass s).queue i ≡ entry_at s.queue i
    popped-behind i behind =
        let p : List Entry = popped (entry_key s.items) (entries_of s) in
        let rest : List Entry = no_entry ∷ drop s.at.queued s.queue in
        let there : length p + (1 + (i - s.at.queued)) ≡ i = omega (arith, queue-popped-length) in
        let from : s.at.queued + (i - s.at.queued) ≡ i = omega arith in
        ap (entry_at (p ++ rest)) (sym there)
        ∙ get_or-append-add p rest (1 + (i - s.at.queued)) no_entry
        ∙ ap (entry_at rest) (let one : 1 + (i - s.at.queued) ≡ Prim.Native.Nat.suc (i - s.at.queued) = omega arith in one)
        ∙ get_or-drop s.at.queued s.queue (i - s.at.queued) no_entry
        ∙ ap (entry_at s.queue) from
