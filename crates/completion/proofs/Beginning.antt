-- The pass of a position on a well-formed state of an accepted grammar begins pending.
use Rattle.std.proofs.Common.{◌≡◌, sym, ap, subst, List, ℕ, zero, suc, ◌+◌, ◌-◌, ◌*◌, ◌/◌, ◌≤◌, ◌<◌, add-one, arith, length, get_or, length-take}
use native.Mathlib.Decide.{dec_lt}
use lib.ListN.{get_or-eq_default}
use Rattle.laws.specs.Bits.{word_bits}
use Rattle.bits.specs.Width.{row_words}
use Rattle.item.specs.Item.{item_words, item_at}
use Rattle.binary_heap.specs.Entry.{entry_words, entry_key}
use Rattle.binary_heap.proofs.Top.{empty-heap}
use Rattle.binary_heap.proofs.Held.{held-length, held_none}
use Rattle.grammar.specs.Rules.{Rule, Grammar, no_rule, rule_count}
use Rattle.grammar.specs.Accepted.{Accepted, max_rules}
use Rattle.parse.specs.declared.State.{State}
use Rattle.parse.specs.Words.{Words, start_of, max_items, max_sets, max_queued, within, item_room, set_room, queue_room}
use Rattle.parse.specs.WellFormed.{WellFormed, InSet, Fits, second_of}
use Rattle.completion.specs.Pass.{Pass, pass_over}
use Rattle.completion.specs.inner.Ready.{RulesFit, IsSet, Rowed}
use Rattle.completion.proofs.Onward.{SpareQueue}
use Rattle.completion.proofs.Through.{Inside}
use Rattle.completion.specs.inner.Pending.{Grounds, Pending}

-- The rules of an accepted grammar fit.
pub accepted-rules_fit : (g : Grammar) → Accepted g → RulesFit g.rules
accepted-rules_fit g accepted = record { few_rules = accepted.few_rules; lefts = lefts }
  where
    lefts : (r : ℕ) → (get_or g.rules r no_rule).left < word_bits * row_words
    lefts r =
        elim (dec_lt r (rule_count g)) [
          | yes there ↦
              elim (dec_lt 0 r) [
                | yes other ↦ omega (arith, (accepted.lefts r other there).no_wrapper, accepted.few_symbols, accepted.room)
                | no first ↦
                    (let is : 0 ≡ r = omega arith in
                    subst (λ (n : ℕ). (get_or g.rules n no_rule).left < word_bits * row_words) is
                    (omega (arith, accepted.wraps.left, accepted.few_symbols, accepted.room)))
              ]
          | no beyond ↦ omega (arith, ap (λ (r : Rule). r.left) (get_or-eq_default g.rules no_rule {n = r} (omega arith)))
        ]

-- The grounds of a pass, of an accepted grammar.
pub accepted_grounds : (g : Grammar) → Accepted g → (starts rows : List ℕ) → Rowed starts rows → Grounds g.rules starts rows
accepted_grounds g accepted starts rows rowed =
    record { rules_fit = accepted-rules_fit g accepted; rowed = rowed; adjacent = accepted.adjacent; unary_below = accepted.unary_below }

-- The pass of a position begins with the items of the sets, an empty queue, and the used units.
abbrev pub beginning : State → Words → Pass
beginning st v = pass_over (record { stopped = 0; items = st.items; queued = 0; used = st.used }) v.items v.queue v.store

-- A place of an item belongs to a set.
record OfSet (st : State) (v : Words) (p : ℕ) : Type 0 where
  pub set : ℕ
  pub is_set : set ≤ st.set
  pub inside : InSet v set p

module _ {n : ℕ} {rs : List Rule} {st : State} {v : Words} (well : WellFormed n rs st v) (few_rules : length rs ≤ max_rules)
    (few_items : length v.items ≤ item_words * max_items) (few_entries : length v.queue ≤ entry_words * max_queued) (rowed : Rowed v.starts v.rows) where
  find_set : (p k : ℕ) → k ≤ st.set + 1 → p < start_of v k → OfSet st v p
  find_set p zero there below = absurd (omega (arith, well.first_start))
  find_set p (suc k) there below =
      let before : p < start_of v k → OfSet st v p = find_set p k (omega arith) in
      elim (dec_lt p (start_of v k)) [
        | yes earlier ↦ before earlier
        | no from ↦ record { set = k; is_set = omega arith; inside = record { from = omega arith; up_to = subst (λ (m : ℕ). p < start_of v m) (sym (add-one k)) below } }
      ]

  -- Each item is one of a set.
  set_of : (p : ℕ) → p < st.items → OfSet st v p
  set_of p there = find_set p (st.set + 1) (omega arith) (omega (arith, well.last_start))

  fits_at : (p : ℕ) (of : OfSet st v p) → Fits rs of.set (item_at v.items p)
  fits_at p of = well.fit of.set p of.is_set of.inside

  -- Starts never fall, up to the last; behind it they are 0.
  start_up : (d k : ℕ) → k + d ≡ st.set + 1 → start_of v k ≤ st.items
  start_up zero k is = omega (arith, ap (λ (m : ℕ). start_of v m) (let same : k ≡ st.set + 1 = omega arith in same), well.last_start)
  start_up (suc d) k is = omega (arith, start_up d (k + 1) (omega arith), well.never_falls k (omega arith))

  pub start_fits : (k : ℕ) → start_of v k ≤ st.items
  start_fits k =
      elim (dec_lt k (st.set + 2)) [
        | yes there ↦ start_up (st.set + 1 - k) k (omega arith)
        | no beyond ↦ omega (arith, well.spare_starts k (omega arith))
      ]

  -- Only sets up to the latest have items.
  pub inside-set : (k p : ℕ) → Inside v.starts k p → k ≤ st.set
  inside-set k p inside =
      elim (dec_lt st.set k) [
        | yes beyond ↦ absurd (omega (arith, well.spare_starts (k + 1) (omega arith), inside.up_to))
        | no there ↦ omega arith
      ]

  -- Every set up to the latest is one.
  pub is_set : (k : ℕ) → k ≤ st.set → IsSet v.starts k
  is_set k there = record { there = omega (arith, rowed.sets, well.set_fits); upwards = well.never_falls k there }

  few_sets : st.set < max_sets
  few_sets = omega (arith, rowed.few_sets, well.set_fits)

  begins-ordered : (k p : ℕ) → start_of v k ≤ p → p + 1 < start_of v (k + 1) → second_of rs (item_at v.items p) ≤ second_of rs (item_at v.items (p + 1))
  begins-ordered k p from up_to =
      let latest : k ≤ st.set = inside-set k p (record { from = from; up_to = omega arith }) in
      let one : InSet v k p = record { from = from; up_to = omega arith } in
      let next : InSet v k (p + 1) = record { from = omega arith; up_to = up_to } in
      let fits : Fits rs k (item_at v.items p) = well.fit k p latest one in
      let fits_next : Fits rs k (item_at v.items (p + 1)) = well.fit k (p + 1) latest next in
      omega (arith, well.rise k p latest one next, few_sets, few_rules)

  -- A well-formed state's pass begins sound, charted and pending.
  pub begins_pending : Pending rs v.starts (beginning st v)
  begins_pending =
      record {
        sound = record {
          few_items = few_items;
          items_fit = well.items_fit;
          few_entries = omega (arith, few_entries, held-length v.queue);
          queued_fit = omega arith;
          entries = λ i there. absurd (omega arith);
        };
        charted = record {
          rules = λ p there. (fits_at p (set_of p there)).is_rule;
          origins = λ p there.
              let of : OfSet st v p = set_of p there in is_set (item_at v.items p).origin (omega (arith, (fits_at p of).earlier, of.is_set));
          starts_fit = start_fits;
          ordered = begins-ordered;
        };
        earlier = λ k p from up_to.
            (well.fit k p (inside-set k p (record { from = from; up_to = up_to })) (record { from = from; up_to = up_to })).earlier;
        heap = empty-heap (entry_key v.items);
      }

  -- Its queue has no entry.
  pub begins_spare : SpareQueue (beginning st v)
  begins_spare = record { spare = λ i behind. held_none v.queue well.spare_queue i }

-- The words within the capacities are few, and have a start for each row and one behind.
pub within-few_items : (w : Words) → length (within w).items ≤ item_words * max_items
within-few_items w = omega (arith, length-take (item_words * item_room w) w.items)

pub within-few_entries : (w : Words) → length (within w).queue ≤ entry_words * max_queued
within-few_entries w = omega (arith, length-take (entry_words * queue_room w) w.queue)

pub within-rowed : (w : Words) → 0 < length (within w).rows / row_words → Rowed (within w).starts (within w).rows
within-rowed w some =
    record {
      few_sets = omega (arith, length-take (row_words * set_room w) w.rows);
      sets = omega (arith, length-take (row_words * set_room w) w.rows, length-take (set_room w + 1) w.starts);
    }
