-- Steps 2 and 3 as a whole: what a pass leaves.
use Rattle.std.proofs.Common.{◌≡◌, refl, ◌∙◌, List, ℕ, ◌*◌, ◌≤◌, ◌<◌, arith, length, get_or}
use Rattle.item.specs.Item.{item_words, item_at, origin_at, rule_at}
use Rattle.binary_heap.specs.Entry.{no_entry, entry_words}
use Rattle.binary_heap.specs.Sift.{entry_at}
use Rattle.grammar.specs.Rules.{Rule, Grammar}
use Rattle.grammar.specs.Accepted.{Accepted, max_rules}
use Rattle.parse.specs.declared.State.{State}
use Rattle.parse.specs.Words.{Words, max_items, max_sets, max_queued}
use Rattle.parse.specs.WellFormed.{WellFormed, placing}
use Rattle.completion.specs.Pass.{Pass}
use Rattle.completion.specs.Scan.{scan_all}
use Rattle.completion.specs.Sums.{complete_all_sums}
use Rattle.completion.specs.inner.Ready.{IsSet, Rowed, PassFits, Charted}
use Rattle.completion.proofs.Onward.{Onward, SpareQueue}
use Rattle.completion.proofs.Charting.{Steady, steady_all_sums}
use Rattle.completion.specs.inner.Pending.{Grounds, Pending}
use Rattle.completion.proofs.Pending.{pending_steady}
use Rattle.completion.proofs.Scanning.{Scannable, steady_scan_all, pending_scan_all}
use Rattle.completion.proofs.Distinct.{Fresh, pass-fresh}
use Rattle.completion.proofs.Refusals.{Stops, Ends, on, stops_scan_all, all-sums-end}
use Rattle.completion.proofs.Beginning.{beginning, accepted_grounds, begins_pending, is_set}

-- Pass `t` is what steps 2 and 3 made of pass `s`, with `e` the latest set.
pub record Passed (rs : List Rule) (starts : List ℕ) (e : ℕ) (s t : Pass) : Type 0 where
  -- nothing that was there is touched; counts and entries are in bounds; items are of rules and sets
  pub onward : Onward s t
  pub sound : PassFits t
  pub charted : Charted rs starts t
  -- the new items differ in origin or rule, and are of sets up to the latest
  pub origins : (p : ℕ) → s.at.items ≤ p → p < t.at.items → origin_at t.items p ≤ e
  pub distinct : (p q : ℕ) → s.at.items ≤ p → p < q → q < t.at.items → origin_at t.items p ≡ origin_at t.items q → rule_at t.items p ≡ rule_at t.items q → ⊥
  -- the queue is empty, or a push met full items or a full queue
  pub ends : Ends t

-- A position's pass from a pending one with an empty queue.
pub pass_done : {rs : List Rule} {starts rows : List ℕ} → Grounds rs starts rows → (e : ℕ) → IsSet starts e → (kinds : List ℕ) → Scannable rs kinds
    → (s : Pass) → Pending rs starts s → s.at.queued ≡ 0 → Stops s
    → Passed rs starts e s (complete_all_sums rs starts rows (scan_all rs starts rows e kinds s))
pass_done {rs} {starts} {rows} grounds e set kinds scannable s pending nothing stops =
    by_parts (complete_all_sums rs starts rows (scan_all rs starts rows e kinds s))
    (steady_all_sums rs starts s rows (scan_all rs starts rows e kinds s) (steady_scan_all rs starts rows e s set kinds s (pending_steady s pending)))
    (pass-fresh grounds e kinds scannable s pending nothing set)
    (all-sums-end grounds (scan_all rs starts rows e kinds s) (pending_scan_all grounds set kinds s pending) (stops_scan_all rs starts rows e kinds s stops))
  where
    by_parts : (t : Pass) → Steady rs starts s t → Fresh rs e s.at.items t → Ends t → Passed rs starts e s t
    by_parts t steady fresh ends =
        record {
          onward = steady.onward;
          sound = steady.sound;
          charted = steady.charted;
          origins = fresh.origins;
          distinct = fresh.distinct;
          ends = ends;
        }

module _ {rs : List Rule} {starts : List ℕ} {e : ℕ} {s t : Pass} (passed : Passed rs starts e s t) where
  -- No two new items have one place in the order of a set.
  pub passed_apart : length rs ≤ max_rules → e < max_sets → (p q : ℕ) → s.at.items ≤ p → p < q → q < t.at.items
      → placing rs (item_at t.items p) ≡ placing rs (item_at t.items q) → ⊥
  passed_apart few_rules few_sets p q from less there same =
      passed.distinct p q from less there apart.0 apart.1
    where
      apart : (origin_at t.items p ≡ origin_at t.items q) × (rule_at t.items p ≡ rule_at t.items q)
      apart =
          let rule-p : rule_at t.items p < length rs = passed.charted.rules p (omega arith) in
          let rule-q : rule_at t.items q < length rs = passed.charted.rules q there in
          let origin-p : origin_at t.items p ≤ e = passed.origins p from (omega arith) in
          let origin-q : origin_at t.items q ≤ e = passed.origins q (omega arith) there in
          omega arith

  -- Where no push was refused the queue has no entry again.
  pub passed_queue : SpareQueue s → t.at.stopped ≡ 0 → (i : ℕ) → entry_at t.queue i ≡ no_entry
  passed_queue spare going i = (passed.onward.spare_queue spare).spare i (omega (arith, by_end passed.ends))
    where
      by_end : Ends t → t.at.queued ≡ 0
      by_end (Ends.empty still none) = none
      by_end (Ends.full-items stopped full) = absurd (omega arith)
      by_end (Ends.full-queue stopped full) = absurd (omega arith)
      by_end (Ends.full-store stopped) = absurd (omega arith)

  -- Item words behind the new items are 0, if those behind the old were.
  pub passed_spare : ((i : ℕ) → item_words * s.at.items ≤ i → get_or s.items i 0 ≡ 0) → (i : ℕ) → item_words * t.at.items ≤ i → get_or t.items i 0 ≡ 0
  passed_spare spare i behind = passed.onward.same_spare i behind ∙ spare i (omega (arith, passed.onward.more-items))

-- A position's pass on any well-formed state of an accepted grammar.
pub position_passed : (g : Grammar) → Accepted g → {n : ℕ} {st : State} {v : Words} → WellFormed n g.rules st v
    → length v.items ≤ item_words * max_items → length v.queue ≤ entry_words * max_queued → Rowed v.starts v.rows → (kinds : List ℕ)
    → Scannable g.rules kinds
    → Passed g.rules v.starts st.set (beginning st v)
    (complete_all_sums g.rules v.starts v.rows (scan_all g.rules v.starts v.rows st.set kinds (beginning st v)))
position_passed g accepted {n} {st} {v} well few_items few_entries rowed kinds scannable =
    pass_done (accepted_grounds g accepted v.starts v.rows rowed) st.set
    (is_set well accepted.few_rules few_items few_entries rowed st.set (omega arith)) kinds scannable (beginning st v)
    (begins_pending well accepted.few_rules few_items few_entries rowed) refl (on refl)
