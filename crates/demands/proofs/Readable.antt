-- The store of a pass: the used units read to their end, the others are fillers, and every handle is the head of a node that reading them meets. No
-- step of a pass loses that: nodes are written behind the used units, and an item is stored with the head of a node written before.
use mathlib.Core.Path.{◌≡◌, sym, ap, ◌∙◌, subst, subst₂}
use mathlib.Core.List.{List, ◌++◌}
use Prim.Native.Nat.{ℕ, ◌+◌, ◌*◌, ◌/◌, ◌≤◌, ◌<◌}
use native.Mathlib.Decide.{dec_lt, ℕ_discrete}
use native.Mathlib.Omega.{arith}
use lib.ListN.{length, take, length-append}
use lib.Seq.{length-take-le}
use Rattle.laws.proofs.Turns.{until-keeps}
use Rattle.item.specs.Item.{Item, item_words, item_at, handle_at}
use Rattle.item.proofs.Words.{stored_item, stored_item_other}
use Rattle.binary_heap.specs.Sift.{entry_at}
use Rattle.node.specs.Rows.{units_at, all_ones}
use Rattle.node.specs.Writing.{usable, put}
use Rattle.node.specs.declared.Node.{Node}
use Rattle.node.specs.declared.Node.TheVariants.{Sum, Evaluated}
use Rattle.node.proofs.Runs.{length-put, length-usable}
use Rattle.grammar.specs.Rules.{Rule, Grammar}
use Rattle.parse.specs.declared.State.{State}
use Rattle.parse.specs.Words.{Words, filled}
use Rattle.parse.specs.Heads.{ToEnd, Meets}
use Rattle.parse.specs.WellFormed.{WellFormed, left_of}
use Rattle.parse.specs.inner.Parts.{Filled}
use Rattle.parse.proofs.Padded.{filled-behind}
use Rattle.parse.proofs.Appended.{filled_spare, filled_put, Appended, appended_reads, appended_keeps, appended_new}
use Rattle.completion.specs.Pass.{Pass, refused, store, enqueue, append, items_full, queue_full, store_full}
use Rattle.completion.specs.Complete.{complete_medial_items, complete_unary_predictions, complete}
use Rattle.completion.specs.Scan.{scan_all}
use Rattle.completion.specs.Sums.{greatest, summands, product_node, sum_ends, pop_greatest, next_summand, pop_sum, summed, complete_sum, rests, complete_all_sums}
use Rattle.completion.proofs.Entries.{stored_pass, appended_pass, store_cases, enqueue_cases, then_cases, append_goes, append_cases}
use Rattle.completion.proofs.Through.{medial_items_keep, unary_predictions_go, binary_predictions_go, complete_cases}
use Rattle.completion.proofs.Scanning.{scan_all-keeps}
use Rattle.completion.proofs.Beginning.{beginning}
use Rattle.demands.specs.Steps.{scanned, completed}

-- The used units of a pass, taken as a store of their own.
abbrev pub used_of : Pass → List ℕ
used_of s = take s.at.used s.units

pub record Readable (s : Pass) : Type 0 where
  pub used_fit : s.at.used ≤ length s.units
  pub spare : Filled s.units s.at.used
  pub reads : ToEnd (used_of s) 0
  pub handles : (p : ℕ) → p < s.at.items → Meets (used_of s) (handle_at s.items p) 0

-- And so is the handle of the pair that is completed, unless the pass was refused.
pub record Linked (link : ℕ) (s : Pass) : Type 0 where
  pub readable : Readable s
  pub linked : s.at.stopped ≡ 0 → Meets (used_of s) link 0

-- A pass that is refused keeps its store.
readable_refused : (number : ℕ) (s : Pass) → Readable s → Readable (refused number s)
readable_refused number s readable =
    record { used_fit = readable.used_fit; spare = readable.spare; reads = readable.reads; handles = readable.handles }

-- A node that was written behind the used units.
module _ (s : Pass) (readable : Readable s) (n : Node) (us : List ℕ) (is : units_at s.at.used n ≡ us) (some : 0 < length us)
    (room : s.at.used + length us ≤ length (usable s.units)) where
  long : length (used_of s) ≡ s.at.used
  long = length-take-le s.at.used s.units readable.used_fit

  same : units_at (length (used_of s)) n ≡ us
  same = ap (λ (p : ℕ). units_at p n) long ∙ is

  in_store : s.at.used + length us ≤ length s.units
  in_store = omega (arith, length-usable s.units)

  wrote : Appended (length s.units) (used_of s) n (s.at.used + length us) (put s.units s.at.used us)
  wrote = record {
    some = omega (arith, ap length same);
    fits = omega (arith, ap length same, long, length-usable s.units);
    behind_is = omega (arith, ap length same, long, length-append (used_of s) (units_at (length (used_of s)) n));
    store_is =
        ap (λ (w : List ℕ). put w s.at.used us) (filled-behind s.units s.at.used readable.used_fit readable.spare)
        ∙ ap (λ (p : ℕ). put (filled (length s.units) (used_of s)) p us) (sym long)
        ∙ filled_put (length s.units) (used_of s) us (omega (arith, long, in_store))
        ∙ ap (λ (w : List ℕ). filled (length s.units) (used_of s ++ w)) (sym same);
  }

  readable_written : Readable (appended_pass us s)
  readable_written = record {
    used_fit = omega (arith, in_store, length-put s.units s.at.used us);
    spare = subst₂ Filled (sym wrote.store_is) (sym wrote.behind_is) (filled_spare (length s.units) (used_of s ++ units_at (length (used_of s)) n));
    reads = appended_reads wrote readable.reads;
    handles = λ p there. appended_keeps wrote (readable.handles p there);
  }

  -- What was met is met, and its own head too.
  still_met : {h : ℕ} → Meets (used_of s) h 0 → Meets (used_of (appended_pass us s)) h 0
  still_met met = appended_keeps wrote met

  new-met : Meets (used_of (appended_pass us s)) s.at.used 0
  new-met = subst (λ (h : ℕ). Meets (used_of (appended_pass us s)) h 0) long (appended_new wrote readable.reads)

-- Writing a node,
pub linked_append : {link : ℕ} (n : Node) (s : Pass) → Linked link s → Linked link (append n s)
linked_append {link} n s linked =
    append_cases (Linked link) s n linked
    (λ us on is some room.
    record {
      readable = readable_written s linked.readable n us is some room;
      linked = λ still. still_met s linked.readable n us is some room (linked.linked on);
    })
    (record { readable = readable_refused store_full s linked.readable; linked = λ still. absurd (omega (arith, still)) })

-- that has its head where the used units ended,
pub linked_new : (n : Node) (s : Pass) → Readable s → Linked s.at.used (append n s)
linked_new n s readable = elim (ℕ_discrete s.at.stopped 0) [
  | no stopped ↦ linked_append n s (record { readable = readable; linked = λ on. absurd (stopped on) })
  | yes on ↦
      append_goes (Linked s.at.used) s n on
      (λ us is some room. record { readable = readable_written s readable n us is some room; linked = λ still. new-met s readable n us is some room })
      (record { readable = readable_refused store_full s readable; linked = λ still. absurd (omega (arith, still)) })
]

-- storing an item with the handle of the pair,
pub linked_store : {link : ℕ} (k r : ℕ) (s : Pass) → s.at.stopped ≡ 0 → Linked link s → Linked link (store k r link s)
linked_store {link} k r s on linked =
    store_cases (Linked link) s k r link
    (λ place.
    record {
      readable = record {
        used_fit = linked.readable.used_fit;
        spare = linked.readable.spare;
        reads = linked.readable.reads;
        handles = λ p there. elim (dec_lt p s.at.items) [ yes old ↦ as_before p old | no new ↦ as_stored p (omega arith) place ];
      };
      linked = λ still. linked.linked on;
    })
    (record { readable = readable_refused items_full s linked.readable; linked = λ still. absurd (omega (arith, still)) })
  where
    item : Item
    item = record { origin = k; rule = r; handle = link }

    as_before : (p : ℕ) → p < s.at.items → Meets (used_of s) (handle_at (stored_pass k r link s).items p) 0
    as_before p old =
        subst (λ (i : Item). Meets (used_of s) i.handle 0) (sym (stored_item_other s.items s.at.items item p (λ e. omega arith)))
        (linked.readable.handles p old)

    as_stored : (p : ℕ) → p ≡ s.at.items → s.at.items < length s.items / item_words → Meets (used_of s) (handle_at (stored_pass k r link s).items p) 0
    as_stored p is place =
        subst (λ (i : Item). Meets (used_of s) i.handle 0)
        (sym (ap (item_at (stored_pass k r link s).items) is ∙ stored_item s.items s.at.items item (omega arith))) (linked.linked on)

-- queueing a place,
pub linked_enqueue : {link : ℕ} (place right : ℕ) (s : Pass) → s.at.stopped ≡ 0 → Linked link s → Linked link (enqueue place right s)
linked_enqueue {link} place right s on linked =
    enqueue_cases (Linked link) s place right
    (λ free.
    record {
      readable = record {
        used_fit = linked.readable.used_fit;
        spare = linked.readable.spare;
        reads = linked.readable.reads;
        handles = linked.readable.handles;
      };
      linked = λ still. linked.linked on;
    })
    (record { readable = readable_refused queue_full s linked.readable; linked = λ still. absurd (omega (arith, still)) })

-- and popping one.
linked_pop : {link : ℕ} (s : Pass) → Linked link s → Linked link (pop_greatest s)
unfolding pop_greatest
linked_pop s linked = record {
  readable = record {
    used_fit = linked.readable.used_fit;
    spare = linked.readable.spare;
    reads = linked.readable.reads;
    handles = linked.readable.handles;
  };
  linked = linked.linked;
}

module _ (rs : List Rule) (starts rows : List ℕ) where
  -- So completing a pair keeps it,
  pub linked_complete : (k x link : ℕ) (s : Pass) → Linked link s → Linked link (complete rs starts rows k x link s)
  linked_complete k x link s linked =
      complete_cases rs starts rows k x link (Linked link) s linked
      (λ there.
      binary_predictions_go rs starts rows k x link (λ r. Linked link) (λ r t linked. linked) (λ r t begins two on linked. linked_store k r t on linked)
      (complete_unary_predictions rs rows k x link (complete_medial_items rs starts k x link s))
      (unary_predictions_go rs starts rows k x link (λ r. Linked link) (λ r t linked. linked)
      (λ r t begins one on linked.
      let stored : Linked link (store k r link t) = linked_store k r t on linked in
      then_cases (Linked link) (store k r link t) _ stored (λ still. linked_enqueue t.at.items all_ones (store k r link t) still stored))
      (complete_medial_items rs starts k x link s)
      (medial_items_keep rs starts rows k x link (Linked link) (λ p t inside second on linked. linked_enqueue p link t on linked) s linked)))

  -- a sum gives the handle of its pair,
  pub linked_summed : (k x : ℕ) (s : Pass) → Readable s → Linked s.at.used (summed rs k x s)
  unfolding pop_sum next_summand
  linked_summed k x s readable =
      let n : Node = Sum (summands rs k x s) x in
      until-keeps (sum_ends rs k x) next_summand (Linked s.at.used)
      (λ t goes linked. linked_append (product_node t.items (entry_at t.queue 0)) (pop_greatest t) (linked_pop t linked))
      (append n s).at.queued (append n s) (linked_new n s readable)

  -- scanning the kinds of a position keeps it,
  pub readable_scan : (e : ℕ) (kinds : List ℕ) (s : Pass) → Readable s → Readable (scan_all rs starts rows e kinds s)
  readable_scan e kinds =
      scan_all-keeps rs starts rows e kinds Readable
      (λ t s of there readable. (linked_complete e t s.at.used (append (Evaluated t) s) (linked_new (Evaluated t) s readable)).readable)

  -- and all sums keep it.
  pub readable_sums : (s : Pass) → Readable s → Readable (complete_all_sums rs starts rows s)
  unfolding complete_all_sums complete_sum
  readable_sums s readable =
      until-keeps rests (complete_sum rs starts rows) Readable
      (λ t goes readable.
      (linked_complete (greatest t).origin (left_of rs (greatest t)) t.at.used (summed rs (greatest t).origin (left_of rs (greatest t)) t)
      (linked_summed (greatest t).origin (left_of rs (greatest t)) t readable)).readable)
      (length starts * length rs) s readable

module _ {n : ℕ} {rs : List Rule} {s : State} {v : Words} (well : WellFormed n rs s v) where
  -- A pass over a well-formed state begins so,
  pub readable_begins : Readable (beginning s v)
  readable_begins = record { used_fit = well.units_fit; spare = record { each = well.spare_units }; reads = well.reads; handles = well.handles }

-- AND ENDS SO.
pub readable_completed : (g : Grammar) {n : ℕ} {s : State} {v : Words} → WellFormed n g.rules s v → (kinds : List ℕ) → Readable (completed g s v kinds)
readable_completed g {s = s} {v = v} well kinds =
    readable_sums g.rules v.starts v.rows (scanned g s v kinds)
    (readable_scan g.rules v.starts v.rows s.set kinds (beginning s v) (readable_begins well))
