-- A step that is done: its state is well formed, and its chart is what earley calls the next one.
use mathlib.Core.Path.{◌≡◌, refl, sym, ap, ◌∙◌, subst, subst₂}
use mathlib.Core.Logic.{◌⊎◌, inl, inr}
use mathlib.Core.Bool.{true}
use mathlib.Core.List.{List}
use Prim.Native.Nat.{ℕ, suc, ◌+◌, ◌-◌, ◌*◌, ◌/◌, ◌≤◌, ◌<◌}
use native.Mathlib.Decide.{dec_lt}
use native.Mathlib.Numerals.{add-one}
use native.Mathlib.Omega.{arith}
use lib.ListN.{length, get_or}
use Rattle.laws.specs.Bits.{Holds, row_of}
use Rattle.bits.specs.Width.{row_words}
use Rattle.item.specs.Item.{Item, item_words, item_at}
use Rattle.grammar.specs.Rules.{Grammar, none, rule_at as rule_at_g}
use Rattle.grammar.specs.Accepted.{Accepted, max_symbols}
use Rattle.grammar.specs.Prediction.{Predicts, Reaches}
use Rattle.grammar.proofs.Facts.{second-low}
use Rattle.parse.specs.declared.State.{State}
use Rattle.parse.specs.Words.{Words, start_of}
use Rattle.parse.specs.Heads.{Meets}
use Rattle.parse.specs.WellFormed.{WellFormed, InSet, second_of}
use Rattle.parse.proofs.Capacities.{SameSizes}
use Rattle.completion.specs.Pass.{Pass}
use Rattle.completion.proofs.Beginning.{beginning, start_fits}
use Rattle.completion.proofs.Passed.{Passed, position_passed, passed_apart}
use Rattle.advance.specs.inner.Order.{All}
use Rattle.advance.specs.inner.Advances.{without_new}
use Rattle.advance.specs.Advance.{predictions}
use Rattle.advance.proofs.Placed.{no_item}
use Rattle.advance.proofs.Ordering.{Among, at_all, all_map}
use Rattle.advance.proofs.Pruning.{kept_pruned, kept-all, last-greatest}
use Rattle.advance.proofs.Following.{predictions_wide}
use Rattle.advance.proofs.Advancing.{new-few, greatest-below}
use Rattle.advance.proofs.Keeping.{Newcomer, well_formed_again}
use Rattle.advance.proofs.Steps.{without_new_lem}
use Rattle.earley.proofs.Next.{Stored, Led, Unpruned, Pruned, Next}
use Rattle.demands.specs.Positions.{is_position}
use Rattle.demands.specs.Steps.{completed, with_nodes}
use Rattle.demands.proofs.Positions.{position_scannable}
use Rattle.demands.proofs.Chart.{Has, New, chart_of, Completed}
use Rattle.demands.proofs.Cut.{Cut}
use Rattle.demands.proofs.Readable.{used_of, Readable, readable_completed}
use Rattle.demands.proofs.Tables.{holds_same, table_shape, predictions-below, Leads, predictions_lead, lead_predictions}
use Rattle.demands.proofs.Ways.{new_of, reach_of, kept_of, following}
use Rattle.demands.proofs.Members.{PlaceIn, Standing, among_place, place_among, new-standing, new-second, new-there, new_rises, greatest_among}
use Rattle.advance.proofs.Moved.{Movable, kept-below, start-kept, start-last, item_kept, item_new, row_kept, row_latest, row_cleared, row_new, moved_sizes}

module _ {g : Grammar} {table : List (List ℕ)} {s : State} {v : Words} (accepted : Accepted g) (predicts : Predicts g row_words table)
    (well : WellFormed g.symbols g.rules s v) (cut : Cut v) (kinds : List ℕ) (position : is_position g.tokens kinds ≡ true)
    (room : kept_of g s v kinds + 1 < length v.rows / row_words) where
  abbrev pass : Pass
  pass = completed g s v kinds

  abbrev new : List Item
  new = new_of g s v kinds

  abbrev m : ℕ
  m = reach_of g s v kinds

  abbrev kept : ℕ
  kept = kept_of g s v kinds

  abbrev row : List ℕ
  row = predictions g.rules table new

  abbrev s' : State
  s' = (following g table s v kinds).state

  abbrev v' : Words
  v' = (following g table s v kinds).words

  passed : Passed g.rules v.starts s.set (beginning s v) pass
  passed = position_passed g accepted well cut.few_items cut.few_entries cut.rowed kinds (position_scannable g accepted kinds position)

  readable : Readable pass
  readable = readable_completed g well kinds

  -- The state and the words with the nodes that the pass has written.
  abbrev written-state : State
  written-state = record { set = s.set; items = s.items; used = pass.at.used }

  abbrev written : Words
  written = with_nodes pass.units v

  -- A new item stands where the pass has stored it.
  pub standing : {i : Item} → Among i new → Standing pass.items s.items pass.at.items i
  standing among = new-standing g.rules pass.items s.items pass.at.items among

  two : {i : Item} → Among i new → second_of g.rules i ≡ none → ⊥
  two among = new-second g.rules pass.items s.items pass.at.items among

  newcomer : {i : Item} → Among i new → Newcomer g.rules s.set (used_of pass) i
  newcomer {i} among =
      let at : Standing pass.items s.items pass.at.items i = standing among in
      record {
        origin-low = omega (arith, ap (λ (j : Item). j.origin) at.is, passed.origins at.place at.from_on at.up_to);
        is_rule = omega (arith, ap (λ (j : Item). j.rule) at.is, passed.charted.rules at.place at.up_to);
        has_second = two among;
        met = subst (λ (j : Item). Meets (used_of pass) j.handle 0) at.is (readable.handles at.place at.up_to);
      }

  newcomers : All (Newcomer g.rules s.set (used_of pass)) new
  newcomers = at_all new (λ q l. newcomer (place_among new q l))

  -- Its second is a symbol.
  second-symbol : {i : Item} → Newcomer g.rules s.set (used_of pass) i → second_of g.rules i < g.symbols
  second-symbol {i} comer = second-low g accepted i.rule comer.is_rule comer.has_second

  reaches : m ≤ s.set
  reaches = greatest-below s.set (all_map (λ (i : Item) (f : Newcomer g.rules s.set (used_of pass) i). f.origin-low) newcomers)

  items-room : item_words * (s.items + length new) ≤ length v.items
  items-room = omega (arith, new-few g.rules pass.items s.items pass.at.items, passed.onward.more-items, passed.onward.item_words_lem, passed.sound.items_fit)

  row_wide : length row ≡ row_words
  row_wide =
      predictions_wide g.rules table new (table_shape accepted predicts)
      (all_map (λ (i : Item) (f : Newcomer g.rules s.set (used_of pass) i). let l : second_of g.rules i < max_symbols = omega (arith, second-symbol f, accepted.few_symbols) in l) newcomers)

  movable : Movable s v m new row
  movable = record {
    starts_fit = cut.rowed.sets;
    latest_fits = well.set_fits;
    set_fits = room;
    reaches = reaches;
    items_fit = omega (arith, items-room, start_fits well accepted.few_rules cut.few_items cut.few_entries cut.rowed (kept + 1));
    row_wide = row_wide;
  }

  -- A step leaves as many words as there were.
  pub following_sizes : SameSizes v' v
  following_sizes =
      let moved = moved_sizes movable in
      record { items = moved.items; starts = moved.starts; rows = moved.rows; queue = moved.queue; store = passed.onward.unit-words }

  -- The nodes that the pass has written leave it well formed.
  written-well : WellFormed g.symbols g.rules written-state written
  written-well = record {
    set_fits = well.set_fits;
    items_fit = well.items_fit;
    units_fit = readable.used_fit;
    first_start = well.first_start;
    second_start = well.second_start;
    never_falls = well.never_falls;
    last_start = well.last_start;
    fit = λ k p there inside. well.fit k p there (record { from = inside.from; up_to = inside.up_to });
    rise = λ k p there inside next.
        well.rise k p there (record { from = inside.from; up_to = inside.up_to }) (record { from = next.from; up_to = next.up_to });
    symbols = well.symbols;
    spare_items = well.spare_items;
    spare_starts = well.spare_starts;
    spare_rows = well.spare_rows;
    spare_queue = well.spare_queue;
    spare_units = readable.spare.each;
    reads = readable.reads;
    handles = λ p there.
        subst (λ (i : Item). Meets (used_of pass) i.handle 0) (passed.onward.same-items p there)
        (readable.handles p (omega (arith, passed.onward.more-items)));
  }

  -- THE STATE STAYS WELL FORMED.
  pub following_well : WellFormed g.symbols g.rules s' v'
  following_well =
      well_formed_again g.symbols g.rules written-state written new row
      (record {
        sets = subst (WellFormed g.symbols g.rules written-state) (sym same) written-well;
        starts_fit = cut.rowed.sets;
        items_fit = items-room;
        set_fits = room;
        new-fit = newcomers;
        new-rise =
            new_rises g.rules pass.items s.items pass.at.items
            (passed_apart passed accepted.few_rules (omega (arith, cut.rowed.few_sets, well.set_fits)));
        row_wide = row_wide;
        row_below = predictions-below accepted predicts new;
      })
    where
      items : (without_new written-state written).items ≡ v.items
      items = without_new_lem s v v (omega (arith, well.items_fit)) (record { each = well.spare_items }) refl refl

      same : without_new written-state written ≡ written
      same = λ k. record { items = items k; starts = v.starts; rows = v.rows; queue = v.queue; store = pass.units }

  -- Where a set that is kept ends the next starts at the latest.
  below_base : (k p : ℕ) → k ≤ kept → InSet v k p → p < start_of v (kept + 1)
  below_base k p l i =
      omega (arith, i.up_to, last-greatest v.starts kept (λ j b. well.never_falls j (omega (arith, kept-below movable))) (k + 1) (omega arith))

  -- A set that is kept has the items that it had, at their places.
  pub kept-place : (k p : ℕ) → k ≤ kept → InSet v' k p → InSet v k p
  kept-place k p l i = record {
    from = omega (arith, i.from, start-kept movable k (omega arith));
    up_to = omega (arith, i.up_to, start-kept movable (k + 1) (omega arith));
  }

  pub kept_item : (k p : ℕ) → k ≤ kept → InSet v k p → item_at v'.items p ≡ item_at v.items p
  kept_item k p l i = item_kept movable p (below_base k p l i)

  old_has : (k o r : ℕ) → k ≤ kept → Has v' k o r → Has v k o r
  old_has k o r l has =
      let inside : InSet v k has.place = kept-place k has.place l has.in_set in
      let same : item_at v'.items has.place ≡ item_at v.items has.place = kept_item k has.place l inside in
      record {
        place = has.place;
        in_set = inside;
        origin = sym (ap (λ (i : Item). i.origin) same) ∙ has.origin;
        rule = sym (ap (λ (i : Item). i.rule) same) ∙ has.rule;
      }

  has_old : (k o r : ℕ) → k ≤ kept → Has v k o r → Has v' k o r
  has_old k o r l has =
      let same : item_at v'.items has.place ≡ item_at v.items has.place = kept_item k has.place l has.in_set in
      record {
        place = has.place;
        in_set = record {
          from = omega (arith, has.in_set.from, start-kept movable k (omega arith));
          up_to = omega (arith, has.in_set.up_to, start-kept movable (k + 1) (omega arith));
        };
        origin = ap (λ (i : Item). i.origin) same ∙ has.origin;
        rule = ap (λ (i : Item). i.rule) same ∙ has.rule;
      }

  -- The new set has the new items.
  start-new : start_of v' (suc kept) ≡ start_of v (kept + 1)
  start-new = start-kept movable (suc kept) (omega arith) ∙ ap (start_of v) (sym (add-one kept))

  end-new : start_of v' (suc kept + 1) ≡ start_of v (kept + 1) + length new
  end-new = start-last movable (suc kept + 1) (omega arith)

  -- One of the new items has the origin `o` and the rule `r`.
  record Newly (o r : ℕ) : Type 0 where
    pub item : Item
    pub among : Among item new
    pub origin : item.origin ≡ o
    pub rule : item.rule ≡ r

  -- The item at a place of the new set is one of them.
  pub new-place : (p : ℕ) → InSet v' (suc kept) p → Among (item_at v'.items p) new
  new-place p i = subst (λ (j : Item). Among j new) (sym there) (place_among new q few)
    where
      q : ℕ
      q = p - start_of v (kept + 1)

      few : q < length new
      few = omega (arith, i.from, i.up_to, start-new, end-new)

      at : start_of v (kept + 1) + q ≡ p
      at = omega (arith, i.from, start-new)

      there : item_at v'.items p ≡ get_or new q no_item
      there = ap (item_at v'.items) (sym at) ∙ item_new movable q few

  has_new : (o r : ℕ) → Has v' (suc kept) o r → Newly o r
  has_new o r has =
      record { item = item_at v'.items has.place; among = new-place has.place has.in_set; origin = has.origin; rule = has.rule }

  new-has : {i : Item} → Among i new → Has v' (suc kept) i.origin i.rule
  new-has {i} among =
      let at : PlaceIn new i = among_place among in
      let same : item_at v'.items (start_of v (kept + 1) + at.place) ≡ i = item_new movable at.place at.within ∙ at.at in
      record {
        place = start_of v (kept + 1) + at.place;
        in_set = record { from = omega (arith, start-new); up_to = omega (arith, end-new, at.within) };
        origin = ap (λ (i : Item). i.origin) same;
        rule = ap (λ (i : Item). i.rule) same;
      }

  -- The new row has what the new items lead to.
  new_led : (x : ℕ) → Holds (row_of row_words v'.rows (suc kept)) x → Led g (chart_of s' v') (suc kept) x
  new_led x held =
      let leads : Leads g.rules table new x =
      predictions_lead g.rules table x new (holds_same row (row_of row_words v'.rows (suc kept)) x (λ i. sym (row_new movable (suc kept) (sym (add-one kept)) i)) held) in
      record {
        origin = leads.item.origin;
        rule = leads.item.rule;
        item = new-has leads.among;
        reaches = predicts.reached (second_of g.rules leads.item) x leads.holds;
      }

  led_new : (x : ℕ) → Led g (chart_of s' v') (suc kept) x → Holds (row_of row_words v'.rows (suc kept)) x
  led_new x led =
      let newly : Newly led.origin led.rule = has_new led.origin led.rule led.item in
      holds_same (row_of row_words v'.rows (suc kept)) row x (row_new movable (suc kept) (sym (add-one kept)))
      (lead_predictions g.rules table x newly.among
      (predicts.all (second_of g.rules newly.item) x (second-symbol (newcomer newly.among))
      (subst (λ (r : ℕ). Reaches g (rule_at_g g r).second x) (sym newly.rule) led.reaches)))

  module _ (exactly : Completed g s v kinds) where
    -- What the completed pairs call for are the new items.
    new-stored : {i : Item} → Among i new → Stored g (chart_of s v) exactly.done i.origin i.rule
    new-stored {i} among =
        let at : Standing pass.items s.items pass.at.items i = standing among in
        exactly.called i.origin i.rule
        (record {
          place = at.place;
          behind = at.from_on;
          before = at.up_to;
          origin = ap (λ (j : Item). j.origin) at.is;
          rule = ap (λ (j : Item). j.rule) at.is;
        })
        (two among)

    stored-new : (o r : ℕ) → Stored g (chart_of s v) exactly.done o r → Newly o r
    stored-new o r stored =
        let at : New s pass o r = exactly.stored o r stored in
        record {
          item = item_at pass.items at.place;
          among =
              new-there g.rules pass.items s.items pass.at.items at.place at.behind at.before
              (λ e. stored.two (ap (λ (q : ℕ). (rule_at_g g q).second) (sym at.rule) ∙ e));
          origin = at.origin;
          rule = at.rule;
        }

    newly_stored : {o r : ℕ} → Newly o r → Stored g (chart_of s v) exactly.done o r
    newly_stored newly = subst₂ (Stored g (chart_of s v) exactly.done) newly.origin newly.rule (new-stored newly.among)

    newly_has : {o r : ℕ} → Newly o r → Has v' (suc kept) o r
    newly_has newly = subst₂ (Has v' (suc kept)) newly.origin newly.rule (new-has newly.among)

    pruning : Unpruned (chart_of s v) kept (chart_of s' v') ⊎ Pruned g (chart_of s v) exactly.done kept (chart_of s' v')
    pruning = elim (dec_lt 1 (s.set - m)) [
      | yes a ↦ inr (record {
        fewer = omega (arith, kept_pruned s.set m a);
        origins = λ {o} {r} stored.
            let newly : Newly o r = stored-new o r stored in
            omega (arith, kept_pruned s.set m a, newly.origin, greatest_among g.rules s.set new newly.among);
        row = λ {x} held. row_cleared movable a x held;
      })
      | no a ↦
          let all : s.set - m ≤ 1 = omega arith in
          inl (record {
            all = kept-all s.set m all;
            row = λ {x}. (
              (λ held. holds_same (row_of row_words v.rows kept) (row_of row_words v'.rows kept) x (λ i. sym (row_latest movable all i)) held),
              (λ held. holds_same (row_of row_words v'.rows kept) (row_of row_words v.rows kept) x (row_latest movable all) held),
            );
          })
    ]

    -- THE CHART IS THE NEXT ONE.
    pub following_next : Next g (chart_of s v) exactly.done kept (chart_of s' v')
    following_next = record {
      last = add-one kept;
      items = λ {s = k} {o} {r} l. (old_has k o r l, has_old k o r l);
      rows = λ {s = k} {x} l. (
        (λ held. holds_same (row_of row_words v.rows k) (row_of row_words v'.rows k) x (λ i. sym (row_kept movable k l i)) held),
        (λ held. holds_same (row_of row_words v'.rows k) (row_of row_words v.rows k) x (row_kept movable k l) held),
      );
      pruning = pruning;
      new_items = λ {o} {r}. ((λ has. newly_stored (has_new o r has)), (λ stored. newly_has (stored-new o r stored)));
      new_row = λ {x}. (new_led x, led_new x);
    }
