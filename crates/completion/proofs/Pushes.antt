-- What pushes and writes do, where there is a place and where there is none.
use Rattle.std.proofs.Common.{◌≡◌, refl, sym, ap, ap₂, ◌∙◌, List, [], ◌∷◌, ℕ, ◌+◌, ◌/◌, ◌≤◌, ◌<◌, length, leb, arith, lt-ltb, le-ltb, eq-eqb, ne_eqb, Some, None, Result, Ok, Err}
use Rattle.item.specs.Item.{item_words, stored}
use Rattle.binary_heap.specs.Entry.{Entry, entry_key}
use Rattle.binary_heap.specs.Queue.{push_answer, push_queue}
use Rattle.binary_heap.proofs.Answers.{full-tells, count-tells}
use Rattle.laws.proofs.Tests.{either_way}
use Rattle.node.specs.Rows.{units_at}
use Rattle.node.specs.Answers.{nothing, position, values_of, written as written_answer}
use Rattle.node.specs.Writing.{StoreOutcome, usable, place, write_units, write_at}
use Rattle.node.specs.declared.Node.{Node}
use Rattle.node.specs.declared.Unwritten.{Unwritten}
use Rattle.node.specs.declared.Unwritten.TheVariants.{Unfit, NoRoom}
use Rattle.completion.specs.Pass.{Pass, pass_with, refused, and_then, store, enqueue, written, append, items_full, queue_full, store_full}

-- A refusal of the node writer leaves the store.
refusal-keeps : (units : List ℕ) (p : ℕ) (us : List ℕ) → values_of (write_units units p us).answer ≡ nothing → (write_units units p us).store ≡ units
unfolding write_units place
refusal-keeps units p [] none = refl
refusal-keeps units p (u ∷ us) none =
    either_way (leb (p + length (u ∷ us)) (length (usable units)))
    (λ room.
    let told : position (p + length (u ∷ us)) ≡ nothing = rw (place, room) at none in
    let z : ◌≡◌ {A = ℕ} 0 1 = cc in
    absurd (omega arith))
    (λ full. rw (place, full) refl)

module _ (s : Pass) where
  -- An item is stored where there is a place for it.
  pub store_done : (origin rule handle : ℕ) → s.at.items < length s.items / item_words
      → store origin rule handle s ≡ pass_with (record { stopped = 0; items = s.at.items + 1; queued = s.at.queued; used = s.at.used }) (stored s.items s.at.items (record { origin = origin; rule = rule; handle = handle })) s.queue s.units
  unfolding store
  store_done origin rule handle place = rw (store, lt-ltb s.at.items (length s.items / item_words) place) refl

  -- Where there is no place for an item the pass is refused.
  pub store-refused : (origin rule handle : ℕ) → length s.items / item_words ≤ s.at.items → store origin rule handle s ≡ refused items_full s
  unfolding store
  store-refused origin rule handle full = rw (store, le-ltb s.at.items (length s.items / item_words) full) refl

  -- A place is queued where the queue has one free.
  pub enqueue_done : (place right : ℕ) → s.at.queued < length s.queue
      → enqueue place right s ≡ pass_with (record { stopped = 0; items = s.at.items; queued = s.at.queued + 1; used = s.at.used }) s.items (push_queue (entry_key s.items) (length s.queue) s.queue s.at.queued (record { place = place; right = right })) s.units
  unfolding enqueue
  enqueue_done place right free = rw (enqueue, lt-ltb s.at.queued (length s.queue) free) refl

  -- Where the queue is full the pass is refused.
  pub enqueue-refused : (place right : ℕ) → length s.queue ≤ s.at.queued → enqueue place right s ≡ refused queue_full s
  unfolding enqueue
  enqueue-refused place right full = rw (enqueue, le-ltb s.at.queued (length s.queue) full) refl

  -- A pass that was not refused goes on.
  pub goes_on : (next : Pass → Pass) → s.at.stopped ≡ 0 → and_then s next ≡ next s
  unfolding and_then
  goes_on next on = rw (and_then, eq-eqb s.at.stopped 0 on) refl

  -- A pass that was refused stays as it is.
  pub stays : (next : Pass → Pass) → (s.at.stopped ≡ 0 → ⊥) → and_then s next ≡ s
  unfolding and_then
  stays next stopped = rw (and_then, ne_eqb s.at.stopped 0 stopped) refl

  -- A push that the queue refused, and one that it took.
  pub queue-refused : (place right capacity : ℕ) (queue : List Entry) → capacity ≡ length s.queue → push_answer capacity s.at.queued ≡ None
      → queue ≡ push_queue (entry_key s.items) capacity s.queue s.at.queued (record { place = place; right = right })
      → pass_with (record { stopped = queue_full; items = s.at.items; queued = s.at.queued; used = s.at.used }) s.items queue s.units ≡ enqueue place right s
  unfolding push_queue
  queue-refused place right capacity queue room full pushed =
      let no_room : length s.queue ≤ s.at.queued = omega (arith, room, full-tells capacity s.at.queued full) in
      let same : queue ≡ s.queue = pushed ∙ rw (push_queue, le-ltb s.at.queued capacity (omega arith)) refl in
      ap (λ (w : List Entry). pass_with (record { stopped = queue_full; items = s.at.items; queued = s.at.queued; used = s.at.used }) s.items w s.units) same
      ∙ sym (enqueue-refused place right no_room)

  pub queue_took : (place right capacity n : ℕ) (queue : List Entry) → capacity ≡ length s.queue → push_answer capacity s.at.queued ≡ Some n
      → queue ≡ push_queue (entry_key s.items) capacity s.queue s.at.queued (record { place = place; right = right })
      → pass_with (record { stopped = 0; items = s.at.items; queued = n; used = s.at.used }) s.items queue s.units ≡ enqueue place right s
  queue_took place right capacity n queue room count pushed =
      let told = count-tells capacity s.at.queued n count in
      let into = pushed ∙ ap (λ (c : ℕ). push_queue (entry_key s.items) c s.queue s.at.queued (record { place = place; right = right })) room in
      ap₂ (λ (m : ℕ) (w : List Entry). pass_with (record { stopped = 0; items = s.at.items; queued = m; used = s.at.used }) s.items w s.units) told.1 into
      ∙ sym (enqueue_done place right (omega (arith, room, told.0)))

  -- A node is not written where something was refused before.
  pub append-stopped : (n : Node) → (s.at.stopped ≡ 0 → ⊥) → append n s ≡ s
  unfolding append
  append-stopped n stopped = stays _ stopped

  -- The node writer's refusals tell nothing else.
  pub refusal-tells : (why : Unwritten) → values_of (written_answer (Err why)) ≡ nothing
  refusal-tells (Unfit p) = refl
  refusal-tells (NoRoom p) = refl

  module _ (n : Node) (r : Result ℕ Unwritten) (units : List ℕ) where
    -- Else the node writer's answer tells what comes of it: the position behind the node, or a refusal, which leaves the store.
    answered : s.at.stopped ≡ 0 → record { answer = written_answer r; store = units } ≡ write_at s.units s.at.used n → append n s ≡ written s units (values_of (written_answer r))
    unfolding append
    answered going wrote =
        goes_on (λ (u : Pass). written u (write_at u.units u.at.used n).store (values_of (write_at u.units u.at.used n).answer)) going
        ∙ ap (λ (o : StoreOutcome). written s o.store (values_of o.answer)) (sym wrote)

    pub append-wrote : (behind : ℕ) → s.at.stopped ≡ 0 → record { answer = written_answer r; store = units } ≡ write_at s.units s.at.used n → r ≡ Ok behind
        → pass_with (record { stopped = 0; items = s.at.items; queued = s.at.queued; used = behind }) s.items s.queue units ≡ append n s
    unfolding written
    append-wrote behind going wrote is = sym (answered going wrote ∙ ap (λ (w : Result ℕ Unwritten). written s units (values_of (written_answer w))) is)

    kept : record { answer = written_answer r; store = units } ≡ write_at s.units s.at.used n → values_of (written_answer r) ≡ nothing → units ≡ s.units
    kept wrote none =
        ap (λ (o : StoreOutcome). o.store) wrote
        ∙ refusal-keeps s.units s.at.used (units_at s.at.used n) (sym (ap (λ (o : StoreOutcome). values_of o.answer) wrote) ∙ none)

    pub append-refused : s.at.stopped ≡ 0 → record { answer = written_answer r; store = units } ≡ write_at s.units s.at.used n
        → values_of (written_answer r) ≡ nothing
        → pass_with (record { stopped = store_full; items = s.at.items; queued = s.at.queued; used = s.at.used }) s.items s.queue units ≡ append n s
    unfolding written
    append-refused going wrote none =
        ap (λ (w : List ℕ). pass_with (record { stopped = store_full; items = s.at.items; queued = s.at.queued; used = s.at.used }) s.items s.queue w)
        (kept wrote none)
        ∙ sym (answered going wrote ∙ ap (written s units) none)
