-- What the steps of one position leave in the words, as the code goes about them.
use mathlib.Core.Path.{◌≡◌, refl, sym, ap, ap₂, ◌∙◌, subst}
use mathlib.Core.Bool.{Bool, true, false}
use mathlib.Core.List.{List, ◌++◌}
use Prim.Native.Nat.{ℕ, ◌+◌, ◌*◌, ◌/◌, ◌≤◌, ◌<◌}
use native.Mathlib.Decide.{dec_lt}
use native.Mathlib.Omega.{arith}
use lib.ListN.{length, get_or, take, length-take, get_or-eq_default}
use lib.Seq.{ext_get_or, get_or-take}
use borrow.Author.Tests.{ltb-true, ltb-false}
use Rattle.bits.specs.Width.{row_words}
use Rattle.item.specs.Item.{Item, item_words, flat}
use Rattle.binary_heap.specs.Entry.{Entry, entry_words, entries_in}
use Rattle.binary_heap.specs.Sift.{entry_at}
use Rattle.binary_heap.proofs.Held.{none_held}
use Rattle.grammar.specs.Rules.{Grammar, Rule}
use Rattle.grammar.specs.inner.Decoded.{rules_of, decoded, Chained}
use Rattle.grammar.proofs.Decoding.{in_count}
use Rattle.grammar.proofs.Facts.{second-low}
use Rattle.parse.specs.declared.State.{State}
use Rattle.parse.specs.Words.{Words, start_of, padded, filled}
use Rattle.parse.specs.WellFormed.{WellFormed}
use Rattle.completion.specs.Pass.{Pass}
use Rattle.completion.specs.inner.Ready.{RulesFit, HasRow, IsSet, Rowed, PassFits, UnitsFit, Charted, KindsFit}
use Rattle.completion.specs.inner.Pending.{Grounds, Pending}
use Rattle.completion.proofs.Waiting.{rule-second}
use Rattle.completion.proofs.Onward.{onward_take, units_onward}
use Rattle.completion.proofs.Pending.{pending_steady}
use Rattle.completion.proofs.Scanning.{steady_scan_all, pending_scan_all}
use Rattle.completion.proofs.Beginning.{beginning, start_fits, is_set, begins_pending, begins_spare, accepted_grounds, accepted-rules_fit}
use Rattle.completion.proofs.Passed.{Passed, position_passed, passed_queue, passed_spare}
use Rattle.advance.specs.inner.Advances.{lent, has_room, advance_answer, without_new, advance_words, Advances}
use Rattle.advance.specs.Advance.{next_state, next_words, last_kept, predictions}
use Rattle.std.specs.Prelude.{Option, Some, None}
use Rattle.advance.specs.inner.Ready.{Advanceable}
use Rattle.parse.proofs.Padded.{padded_ext, padded-length, padded-word, filled-behind}
use Rattle.advance.proofs.Advancing.{answer_done, answer-refused, words_done, words-refused}
use Rattle.advance.proofs.Steps.{without_new_lem, ready, ready_lent, ready_used, advances_whole}
use Rattle.grammar.specs.declared.Grammar as held
use Rattle.demands.specs.Positions.{is_position}
use Rattle.demands.specs.Steps.{Outcome, scanned, completed, with_nodes, stepped}
use Rattle.recognizer.specs.inner.Steppable.{Steppable}
use Rattle.demands.proofs.Positions.{Predicted, position_scannable, position-fits}
use Rattle.demands.proofs.Ways.{kept_of, new_of, reach_of, kept, is_full, is_no_room, is_done}

module _ (gr : held.Grammar) (table : List (List ℕ)) (s : State) (v : Words) (can : Steppable (decoded gr) table s v) (kinds : List ℕ) where
  abbrev g : Grammar
  g = decoded gr

  abbrev rs : List Rule
  rs = rules_of gr.rules

  abbrev pass : Pass
  pass = completed g s v kinds

  -- The words with what the pass stored.
  abbrev u : Words
  u = record { items = pass.items; starts = v.starts; rows = v.rows; queue = v.queue; store = v.store }

  -- The same with the nodes that it wrote, and the state with their number.
  abbrev w : Words
  w = record { items = pass.items; starts = v.starts; rows = v.rows; queue = v.queue; store = pass.units }

  abbrev reached : State
  reached = record { set = s.set; items = s.items; used = pass.at.used }

  well : WellFormed gr.symbols rs s v
  well = can.well_formed

  begins : Pending rs v.starts (beginning s v)
  begins = begins_pending well can.accepted.few_rules can.few_items can.few_entries can.rowed

  latest : IsSet v.starts s.set
  latest = is_set well can.accepted.few_rules can.few_items can.few_entries can.rowed s.set (omega arith)

  units_fit : UnitsFit (beginning s v)
  units_fit = record { few_units = can.few_units; used_fit = well.units_fit }

  -- The latest row is there, and the kinds of a position are symbols of it.
  pub row_there : HasRow v.rows s.set
  row_there = record { few_sets = can.rowed.few_sets; row = omega (arith, well.set_fits) }

  pub kinds_fit : is_position gr.tokens kinds ≡ true → KindsFit kinds
  kinds_fit = position-fits gr.tokens kinds (omega (arith, can.accepted.room, can.accepted.few_symbols))

  -- What scanning the kinds asks.
  pub scan_asks : KindsFit kinds → Chained gr.rules.words gr.rules.count → (RulesFit rs × Rowed v.starts v.rows × Chained gr.rules.words gr.rules.count) × ((IsSet v.starts s.set × KindsFit kinds) × (PassFits (beginning s v) × UnitsFit (beginning s v) × Charted rs v.starts (beginning s v)))
  scan_asks fit chained = ((accepted-rules_fit g can.accepted, can.rowed, chained), ((latest, fit), (begins.sound, units_fit, begins.charted)))

  -- What the sums ask.
  pub sums_ask : Grounds rs v.starts v.rows × Pending rs v.starts (scanned g s v kinds) × UnitsFit (scanned g s v kinds)
  sums_ask =
      let grounds : Grounds rs v.starts v.rows = accepted_grounds g can.accepted v.starts v.rows can.rowed in (
        grounds,
        pending_scan_all grounds latest kinds (beginning s v) begins,
        units_onward (steady_scan_all rs v.starts v.rows s.set (beginning s v) latest kinds (beginning s v) (pending_steady (beginning s v) begins)).onward units_fit,
      )

  module _ (position : is_position gr.tokens kinds ≡ true) where
    passed : Passed rs v.starts s.set (beginning s v) pass
    passed = position_passed g can.accepted well can.few_items can.few_entries can.rowed kinds (position_scannable g can.accepted kinds position)

    -- The items of the sets are as they were.
    same-front : (n : ℕ) → n ≤ item_words * s.items → take n pass.items ≡ take n v.items
    same-front n few = onward_take passed.onward n few

    -- Clearing what was stored and queued gives the words back.
    pub cleared_items : padded (length pass.items) (take (item_words * s.items) pass.items) ≡ v.items
    cleared_items =
        ap₂ padded passed.onward.item_words_lem (same-front (item_words * s.items) (omega arith))
        ∙ sym
        (padded_ext (length v.items) (take (item_words * s.items) v.items) v.items (omega (arith, length-take (item_words * s.items) v.items)) refl
        (λ i there.
        elim (dec_lt i (item_words * s.items)) [
          | yes front ↦ sym (get_or-take (item_words * s.items) v.items i 0 front)
          | no behind ↦
              well.spare_items i (omega arith)
              ∙ sym (get_or-eq_default (take (item_words * s.items) v.items) 0 {n = i} (omega (arith, length-take (item_words * s.items) v.items)))
        ]))

    -- The units that were used are as they were, and so fillers behind them give the store back.
    same_units : take s.used pass.units ≡ take s.used v.store
    same_units =
        ext_get_or 0 (take s.used pass.units) (take s.used v.store)
        (omega (arith, length-take s.used pass.units, length-take s.used v.store, passed.onward.unit-words))
        (λ i there.
        let below : i < s.used = omega (arith, length-take s.used pass.units) in
        get_or-take s.used pass.units i 0 below ∙ passed.onward.same_units i below ∙ sym (get_or-take s.used v.store i 0 below))

    pub unwritten : filled (length pass.units) (take s.used pass.units) ≡ v.store
    unwritten =
        ap₂ filled passed.onward.unit-words same_units ∙ sym (filled-behind v.store s.used well.units_fit (record { each = well.spare_units }))

    zeros_same : (q : List ℕ) → length q ≡ length v.queue → ((i : ℕ) → get_or q i 0 ≡ 0) → q ≡ v.queue
    zeros_same q long zero = ext_get_or 0 q v.queue long (λ i there. zero i ∙ sym (well.spare_queue i))

    pub cleared_queue : (q : List ℕ) → length q ≡ length v.queue → padded (length q) (take 0 q) ≡ v.queue
    cleared_queue q long =
        zeros_same (padded (length q) (take 0 q)) (padded-length (length q) (take 0 q) (omega arith) ∙ long) (λ i. padded-word (length q) (take 0 q) i)

    module _ (going : pass.at.stopped ≡ 0) where
      -- The queue is empty again, and so its words are those that were there.
      pub queue_back : (q : List ℕ) → length q ≡ length v.queue → entries_in q ≡ pass.queue → q ≡ v.queue
      queue_back q long holds =
          zeros_same q long
          (none_held q (length v.queue / entry_words) (long ∙ can.whole_entries)
          (λ k.
          ap (λ (h : List Entry). entry_at h k) holds
          ∙ passed_queue passed (begins_spare well can.accepted.few_rules can.few_items can.few_entries can.rowed) going k))

      without : without_new s u ≡ v
      without =
          ap (λ (i : List ℕ). let w : Words = record { items = i; starts = v.starts; rows = v.rows; queue = v.queue; store = v.store } in w)
          (without_new_lem s v u (omega (arith, well.items_fit)) (record { each = well.spare_items }) passed.onward.item_words_lem (same-front (item_words * s.items) (omega arith)))

      -- What the advance asks.
      asks : Advanceable gr.rules.words gr.rules.count table s u pass.at.items
      asks =
          let count : length rs ≡ gr.rules.count = in_count gr.rules.words 0 0 gr.rules.count in
          ready gr.symbols gr.rules.words gr.rules.count table s u pass.at.items (subst (WellFormed gr.symbols rs s) (sym without) well) can.rowed.sets
          (record {
            few = omega (arith, count, can.accepted.few_rules);
            runs = passed.onward.more-items;
            there = omega (arith, passed.sound.items_fit);
            rules = λ p from there. omega (arith, count, passed.charted.rules p there);
          })
          (omega (arith, passed.sound.items_fit, passed.sound.few_items))
          passed.origins
          (record { each = passed_spare passed well.spare_items })
          (λ r there two.
          omega (
            arith,
            second-low g can.accepted r (omega (arith, count)) (λ e. two (rule-second gr.rules.words gr.rules.count r there ∙ e)),
            rule-second gr.rules.words gr.rules.count r there,
            can.accepted.few_symbols,
          ))
          can.shape

      pub advance_asks : Advanceable gr.rules.words gr.rules.count table reached (lent pass.items v.starts v.rows) pass.at.items
      advance_asks = ready_used gr.rules.words gr.rules.count table s pass.at.used (lent pass.items v.starts v.rows) pass.at.items
          (ready_lent gr.rules.words gr.rules.count table s u pass.at.items asks)

      -- Before the new items the words are those that were there.
      next-same : (k m : ℕ) (new : List Item) (row : List ℕ) → start_of v (last_kept k m + 1) ≤ s.items → next_words k m w new row ≡ next_words k m (with_nodes pass.units v) new row
      next-same k m new row low =
          ap₂ (λ (n : ℕ) (front : List ℕ). let w : Words = record {
            items = padded n (front ++ flat new);
            starts = (next_words k m v new row).starts;
            rows = (next_words k m v new row).rows;
            queue = (next_words k m v new row).queue;
            store = pass.units;
          } in w)
          passed.onward.item_words_lem (same-front (item_words * start_of v (last_kept k m + 1)) (omega arith))

      module _ (there : Predicted s v kinds) (r : Option State) (items starts rows : List ℕ)
          (advances : Advances rs table reached (lent pass.items v.starts v.rows) pass.at.items r (lent items starts rows)) where
        abbrev after : Words
        after = record { items = items; starts = starts; rows = rows; queue = v.queue; store = pass.units }

        whole : (r ≡ advance_answer rs reached w pass.at.items) × (after ≡ advance_words rs table reached w pass.at.items)
        whole =
            advances_whole gr.rules.words gr.rules.count table reached w pass.at.items r items starts rows
            (record { each = λ i from. well.spare_queue i }) advances

        -- No room for the new set: 9. What was written becomes fillers again.
        pub advance_refused : r ≡ None → (store : List ℕ) → store ≡ filled (length pass.units) (take s.used pass.units)
            → record { number = 9; state = s; words = with_nodes store after } ≡ stepped g table s v kinds
        advance_refused no_room store is = by_room (has_room rs reached w pass.at.items) refl
          where
            by_room : (b : Bool) → has_room rs reached w pass.at.items ≡ b → record { number = 9; state = s; words = with_nodes store after } ≡ stepped g table s v kinds
            by_room true room =
                let both : None ≡ Some (next_state pass.at.used (kept_of g s v kinds) w (new_of g s v kinds)) =
                sym no_room ∙ whole.0 ∙ answer_done rs table reached w pass.at.items room in
                let z : ◌≡◌ {A = ℕ} 0 1 = cc in
                absurd (omega arith)
            by_room false room =
                ap₂ (λ (a : Words) (units : List ℕ). kept 9 s (with_nodes units a)) (whole.1 ∙ words-refused rs table reached w pass.at.items room) (is ∙ unwritten)
                ∙ ap (kept 9 s) without
                ∙ sym (is_no_room g table s v kinds position there going (ltb-false (kept_of g s v kinds + 1) (length v.rows / row_words) room))

        -- The new set is the latest.
        pub advance_done : (next : State) → r ≡ Some next → record { number = 0; state = next; words = after } ≡ stepped g table s v kinds
        advance_done next done = by_room (has_room rs reached w pass.at.items) refl
          where
            by_room : (b : Bool) → has_room rs reached w pass.at.items ≡ b → record { number = 0; state = next; words = after } ≡ stepped g table s v kinds
            by_room false room =
                let both : Some next ≡ None = sym done ∙ whole.0 ∙ answer-refused rs table reached w pass.at.items room in
                let z : ◌≡◌ {A = ℕ} 0 1 = cc in
                absurd (omega arith)
            by_room true room =
                let both : Some next ≡ Some (next_state pass.at.used (kept_of g s v kinds) w (new_of g s v kinds)) =
                sym done ∙ whole.0 ∙ answer_done rs table reached w pass.at.items room in
                let same : next ≡ next_state pass.at.used (kept_of g s v kinds) w (new_of g s v kinds) = cc in
                let row = predictions rs table (new_of g s v kinds) in
                ap₂ (λ (n : State) (w : Words). let o : Outcome = record { number = 0; state = n; words = w } in o) same
                (whole.1 ∙ words_done rs table reached w pass.at.items room ∙ next-same s.set (reach_of g s v kinds) (new_of g s v kinds) row
                (start_fits well can.accepted.few_rules can.few_items can.few_entries can.rowed (kept_of g s v kinds + 1)))
                ∙ sym (is_done g table s v kinds position there going (ltb-true (kept_of g s v kinds + 1) (length v.rows / row_words) room))

    -- A push met full items or a full queue, or a node a full store: 7, 8 or 14, and the words are as they were.
    pub pass-refused : Predicted s v kinds → (pass.at.stopped ≡ 0 → ⊥) → (number : ℕ) (items queue q store : List ℕ) → number ≡ pass.at.stopped
        → length q ≡ length v.queue → items ≡ padded (length pass.items) (take (item_words * s.items) pass.items) → queue ≡ padded (length q) (take 0 q)
        → store ≡ filled (length pass.units) (take s.used pass.units)
        → record { number = number; state = s; words = record { items = items; starts = v.starts; rows = v.rows; queue = queue; store = store } } ≡ stepped g table s v kinds
    pass-refused there stopped number items queue q store is long cleared emptied filled-again =
        ap₂ (λ (i q : List ℕ). let o : Outcome = record { number = number; state = s; words = record { items = i; starts = v.starts; rows = v.rows; queue = q; store = store } } in o)
        (cleared ∙ cleared_items) (emptied ∙ cleared_queue q long)
        ∙ ap (λ (units : List ℕ). kept number s (with_nodes units v)) (filled-again ∙ unwritten)
        ∙ ap (λ (n : ℕ). kept n s v) is
        ∙ sym (is_full g table s v kinds position there stopped)
