-- A pass that is not refused, turn by turn: it runs as the forest's theory has it, and writes each turn's node.
use Rattle.std.proofs.Common.{◌≡◌, refl, sym, ◌∙◌, ap, subst, subst₂, Bool, true, false, List, [], ◌∷◌, map, ◌⊎◌, inl, inr, ℕ, zero, suc, ◌+◌, ◌≤◌, ◌<◌, arith, length, get_or, take, take-suc}
use mathlib.Core.Bool.{false≢true}
use mathlib.Core.List.Memᴰ.{head as here}
use mathlib.Core.List.Memᴰ.{not-nil as no_member}
use mathlib.Core.List.Memᴰ.{tail as there}
use mathlib.Core.List.{Memᴰ as Member}
use native.Mathlib.Decide.{dec_lt, ℕ_discrete}
use lib.ListN.{length-map}
use Rattle.laws.specs.Bits.{row_of}
use Rattle.laws.specs.Counts.{count, once}
use Rattle.laws.specs.Turns.{until}
use Rattle.laws.proofs.Bits.{holds_true}
use Rattle.laws.proofs.Counts.{count-append}
use Rattle.laws.proofs.Tests.{either_way}
use Rattle.laws.proofs.Turns.{until-rests, until_turns, until-keeps}
use Rattle.bits.specs.Width.{row_words}
use Rattle.item.specs.Item.{Item, item_at, origin_at, handle_at}
use Rattle.binary_heap.specs.Entry.{Entry}
use Rattle.grammar.specs.Rules.{Grammar, Rule}
use Rattle.grammar.specs.Accepted.{Accepted}
use Rattle.grammar.proofs.Facts.{left-high}
use Rattle.parse.specs.declared.State.{State}
use Rattle.parse.specs.Words.{Words}
use Rattle.parse.specs.WellFormed.{left_of}
use Rattle.node.specs.Rows.{units_at}
use Rattle.node.specs.Writing.{usable}
use Rattle.node.specs.Reading.{stand}
use Rattle.node.specs.declared.Node.{Node as Written}
use Rattle.node.specs.declared.Node.TheVariants.{Sum, Evaluated}
use Rattle.node.proofs.InOrder.{WrittenFrom}
use Rattle.completion.specs.Pass.{Pass, append}
use Rattle.completion.specs.Complete.{predicted, complete}
use Rattle.completion.specs.Sums.{greatest, summands, summed, complete_sum, rests}
use Rattle.completion.specs.inner.Ready.{IsSet, PassFits}
use Rattle.completion.specs.inner.Pending.{Grounds, Pending}
use Rattle.completion.proofs.Entries.{entries_of, append-count}
use Rattle.completion.proofs.Turning.{summed-items, not_resting, rests-stopped}
use Rattle.completion.proofs.Onward.{Onward, onward_trans}
use Rattle.completion.proofs.Charting.{Charts, Steady, steady_refl, steady_append, steady_pop, steady_summed, steady_complete, steady_sum, greatest_charts}
use Rattle.completion.proofs.Heaped.{sound-entries}
use Rattle.completion.proofs.Pending.{pending_steady, pending_sum}
use Rattle.completion.proofs.Scanning.{Leaf, Scannable}
use Rattle.completion.proofs.Once.{Beneath, pair_of}
use Rattle.completion.proofs.Distinct.{OfPair, first_of, complete_of_pair}
use Rattle.completion.proofs.Beginning.{beginning}
use Rattle.demands.proofs.Positions.{place_member}
use Rattle.demands.proofs.Chart.{chart_of}
use Rattle.earley.proofs.Steps.{Kinds}
use Rattle.forest.specs.Forests.{Product}
use Rattle.forest.proofs.Counted.{member_counted, counted_member}
use Rattle.forest.proofs.Tied.{Turn, Terms, Summed, Scanned, Run}
use Rattle.forest.proofs.Entries.{Pair, same-pair, Items, product_of, terms, Linked, Read, Fed}
use Rattle.forest.proofs.Calls.{Looped, looped_once}
use Rattle.forest.proofs.Planted.{Writing, handles-before}
use Rattle.forest.proofs.Units.{spell, unit_store, written_onward, sum-stands, leaf-stands}
use Rattle.planting.specs.Pops.{Reached}
use Rattle.planting.proofs.Falling.{beneath_order, every_member, rest_beneath, after_beneath}
use Rattle.planting.proofs.Popping.{top_of, products_for, append-entries, sum-counts, Owned, products_owned, products-some}
use Rattle.planting.proofs.Pushing.{Good, calls, complete-pushed, complete_good, SameNodes, complete-nodes, complete_links}
use Rattle.planting.proofs.Written.{append-wrote, append_small, sum-written, summed_small, append-stands, append-behind, onward_stands, sum_node_good, summands-length, all-spelt}
use Rattle.planting.proofs.Scans.{leaf-unit}
use Rattle.planting.proofs.Places.{items_of}
use Rattle.planting.proofs.Looping.{turn_of, turn_looped, turn-asked}

-- What holds of the latest turn and of those before it holds of all.
latest : (P : Turn Entry Pair → Type 0) {t : Turn Entry Pair} {past : List (Turn Entry Pair)} → P t → ((u : Turn Entry Pair) → Member u past → P u)
    → (u : Turn Entry Pair) → Member u (t ∷ past) → P u
latest P p f u (here is) = subst P (sym is) p
latest P p f u (there m) = f u m

-- Completed with one turn more.
more_linked : {t : Turn Entry Pair} {past : List (Turn Entry Pair)} {k x h : ℕ} → Linked past k x h → Linked (t ∷ past) k x h
more_linked l = record { turn = l.turn; member = there l.member; set = l.set; symbol = l.symbol; handle = l.handle }

module _ {g : Grammar} (accepted : Accepted g) (st : State) (v : Words) (kinds : List ℕ) (grounds : Grounds g.rules v.starts v.rows) (end : Pass) where
  abbrev rs : List Rule
  rs = g.rules

  abbrev is : Items
  is = items_of st v end

  abbrev w : Terms Entry Pair
  w = terms g is (beneath_order rs)

  -- A turn's entries were popped from a pass that the step came to.
  pub record PoppedAt (t : Turn Entry Pair) : Type 0 where
    pub pass : Pass
    pub reached : Reached g st v kinds pass
    pub set : (greatest pass).origin ≡ t.pair.set
    pub symbol : left_of rs (greatest pass) ≡ t.pair.symbol
    pub handle : pass.at.used ≡ t.handle
    pub products : t.products ≡ products_for rs (greatest pass).origin (left_of rs (greatest pass)) pass
    pub written : stand (usable end.units) t.handle (units_at t.handle (Sum (length t.products) t.pair.symbol)) ≡ true
    pub same : (e : Entry) → Member e t.products → item_at end.items e.place ≡ item_at pass.items e.place

  -- How many of the first `n` kinds are predicted: each has a leaf, of one unit.
  abbrev pub leaves_of : ℕ → ℕ
  leaves_of n = count (predicted v.rows st.set) (take n kinds)

  -- The pass up to `u`, behind the first `n` kinds: its turns, run and written; each of a kind or fed, and completed by its loops; the leaves, one behind
  -- another; and each item stored is of a turn.
  pub record SoFar (n : ℕ) (u : Pass) : Type 1 where
    pub past : List (Turn Entry Pair)
    pub run : Run w past (entries_of u)
    pub looped : (t : Turn Entry Pair) → Member t past → Looped g (chart_of st v) is t
    pub writing : Writing g is (unit_store v.store) st.used past (unit_store u.units) u.at.used
    pub begun : (t : Turn Entry Pair) → Member t past → Read (chart_of st v) kinds t ⊎ Fed t
    pub popped : (t : Turn Entry Pair) → Member t past → g.tokens ≤ t.pair.symbol → PoppedAt t
    pub leaves : (i : ℕ) → i < n → predicted v.rows st.set (get_or kinds i 0) ≡ true → Linked past st.set (get_or kinds i 0) (st.used + leaves_of i)
    pub has : st.items ≤ u.at.items
    pub stored : (p : ℕ) → st.items ≤ p → p < u.at.items → Linked past (origin_at u.items p) (first_of rs (item_at u.items p)) (handle_at u.items p)

  -- An entry of a pair beneath is so with the items at the end.
  below_end : (k x : ℕ) (u : Pass) → PassFits u → Onward u end → (e : Entry) → Member e (entries_of u)
      → Beneath rs (record { set = k; symbol = x }) (pair_of rs (item_at u.items e.place)) → w.Below (w.pair_of e) (record { set = k; symbol = x })
  below_end k x u sound onward e m beneath =
      subst (λ (i : Item). Beneath rs (record { set = k; symbol = x }) (pair_of rs i))
      (sym (onward.same-items e.place (every_member (λ v. v.place < u.at.items) (sound-entries u sound) m))) beneath

  -- Items that stay are of the turns that they were of.
  kept_linked : {s u : Pass} → Steady rs v.starts s u → (past : List (Turn Entry Pair)) → u.at.items ≡ s.at.items
      → ((p : ℕ) → st.items ≤ p → p < s.at.items → Linked past (origin_at s.items p) (first_of rs (item_at s.items p)) (handle_at s.items p))
      → (p : ℕ) → st.items ≤ p → p < u.at.items → Linked past (origin_at u.items p) (first_of rs (item_at u.items p)) (handle_at u.items p)
  kept_linked {s} {u} steady past same before p from up_to_lem =
      let old : p < s.at.items = omega arith in
      subst (λ (i : Item). Linked past i.origin (first_of rs i) i.handle) (sym (steady.onward.same-items p old)) (before p from old)

  -- One pair completed from pass `u`, behind which the pass ends.
  module _ (k x link : ℕ) (set : IsSet v.starts k) (u : Pass) (steady : Steady rs v.starts u u) (has : st.items ≤ u.at.items) where
    abbrev after : Pass
    after = complete rs v.starts v.rows k x link u

    after_steady : Steady rs v.starts u after
    after_steady = steady_complete rs v.starts u v.rows k x link set u steady

    module _ (good : Good after) where
      -- What it calls for is queued behind it.
      called_queued : (e : Entry) → Member e (calls rs v.starts v.rows k x link u) → Member e (entries_of after)
      called_queued e m =
          counted_member w.tell e (entries_of after)
          (let one = member_counted w.tell m in
          omega (arith, complete-pushed rs v.starts v.rows k x link set u steady.sound steady.charted good (w.tell.same e)))

    -- The items that it stores are of its turn, and the others of the turns before it.
    stored_linked : (past : List (Turn Entry Pair)) (t : Turn Entry Pair) → t.pair.set ≡ k → t.pair.symbol ≡ x → t.handle ≡ link
        → ((p : ℕ) → st.items ≤ p → p < u.at.items → Linked past (origin_at u.items p) (first_of rs (item_at u.items p)) (handle_at u.items p))
        → (p : ℕ) → st.items ≤ p → p < after.at.items
        → Linked (t ∷ past) (origin_at after.items p) (first_of rs (item_at after.items p)) (handle_at after.items p)
    stored_linked past t is_set is-symbol is-handle before p from up_to_lem =
        elim (dec_lt p u.at.items) [
          | yes old ↦
              subst (λ (i : Item). Linked (t ∷ past) i.origin (first_of rs i) i.handle) (sym (after_steady.onward.same-items p old))
              (more_linked (before p from old))
          | no new ↦
              (let of : OfPair rs k x (λ r. Unit {0}) u.at.items after = complete_of_pair rs v.starts v.rows u k x link set u steady in
              record {
                turn = t;
                member = here refl;
                set = is_set ∙ sym (of.origins p (omega arith) up_to_lem);
                symbol = is-symbol ∙ sym (of.firsts p (omega arith) up_to_lem);
                handle = is-handle
                    ∙ sym (complete_links rs v.starts v.rows k x link set u steady.sound steady.charted p (omega arith) up_to_lem);
              })
        ]

  -- A turn of one of the first `n` kinds.
  pub record OfKind (n : ℕ) (t : Turn Entry Pair) : Type 0 where
    pub place : ℕ
    pub before : place < n
    pub set : t.pair.set ≡ st.set
    pub symbol : t.pair.symbol ≡ get_or kinds place 0

  -- While kinds are read: every turn is of one of them, and has written one unit.
  pub record Reading (n : ℕ) (u : Pass) : Type 1 where
    pub so_far : SoFar n u
    pub of_kinds : (t : Turn Entry Pair) → Member t so_far.past → OfKind n t
    pub used : u.at.used ≡ st.used + leaves_of n

  -- Before the first kind there is no turn.
  pub none_read : Reading 0 (beginning st v)
  unfolding count
  none_read =
      record {
        so_far = record {
          past = [];
          run = Run.start;
          looped = λ t m. absurd (no_member m);
          writing = Writing.start;
          begun = λ t m. absurd (no_member m);
          popped = λ t m. absurd (no_member m);
          leaves = λ i less. absurd (omega arith);
          has = omega arith;
          stored = λ p from up_to_lem. absurd (omega arith);
        };
        of_kinds = λ t m. absurd (no_member m);
        used = omega arith;
      }

  -- One kind more is one leaf more, if it is predicted.
  one_more-leaf : (n : ℕ) → n < length kinds → leaves_of (suc n) ≡ leaves_of n + once (predicted v.rows st.set (get_or kinds n 0))
  unfolding count
  one_more-leaf n inside =
      let test : ℕ → Bool = predicted v.rows st.set in
      omega (arith, ap (count test) (take-suc kinds n 0 inside), count-append test (take n kinds) (get_or kinds n 0 ∷ []))

  -- A turn of one of the first kinds is one of one more.
  of_kind_more : {n : ℕ} {t : Turn Entry Pair} → OfKind n t → OfKind (suc n) t
  of_kind_more o = record { place = o.place; before = omega (arith, o.before); set = o.set; symbol = o.symbol }

  -- A kind that is not predicted is passed over.
  pub passed_over : (n : ℕ) → n < length kinds → (u : Pass) → predicted v.rows st.set (get_or kinds n 0) ≡ false → Reading n u → Reading (suc n) u
  passed_over n inside u off reading =
      let before : SoFar n u = reading.so_far in
      record {
        so_far = record {
          past = before.past;
          run = before.run;
          looped = before.looped;
          writing = before.writing;
          begun = before.begun;
          popped = before.popped;
          leaves = λ i less row.
              elim (dec_lt i n) [
                | yes earlier ↦ before.leaves i earlier row
                | no latest ↦
                    (let is : i ≡ n = omega arith in
                    absurd (false≢true (sym off ∙ ap (λ j. predicted v.rows st.set (get_or kinds j 0)) (sym is) ∙ row)))
              ];
          has = before.has;
          stored = before.stored;
        };
        of_kinds = λ t m. of_kind_more (reading.of_kinds t m);
        used = omega (arith, reading.used, one_more-leaf n inside, ap once off);
      }

  -- A KIND IS A TURN: its node is written, and the latest set is completed with it.
  module _ (set : IsSet v.starts st.set) (scannable : Scannable rs kinds) (tokens : Kinds g kinds) (n : ℕ) (inside : n < length kinds) (s : Pass)
      (fits : Steady rs v.starts s s) (row : predicted v.rows st.set (get_or kinds n 0) ≡ true) (reading : Reading n s)
      (good : Good (complete rs v.starts v.rows st.set (get_or kinds n 0) s.at.used (append (Evaluated (get_or kinds n 0)) s)))
      (onward : Onward (complete rs v.starts v.rows st.set (get_or kinds n 0) s.at.used (append (Evaluated (get_or kinds n 0)) s)) end)
      (beneath : (x : ℕ) → Leaf rs x → (e : Entry)
      → Member e (entries_of (complete rs v.starts v.rows st.set (get_or kinds n 0) s.at.used (append (Evaluated (get_or kinds n 0)) s)))
      → Beneath rs (record { set = st.set; symbol = x })
      (pair_of rs (item_at (complete rs v.starts v.rows st.set (get_or kinds n 0) s.at.used (append (Evaluated (get_or kinds n 0)) s)).items e.place))) where
    abbrev kind : ℕ
    kind = get_or kinds n 0

    abbrev before : SoFar n s
    before = reading.so_far

    abbrev leaf-pass : Pass
    leaf-pass = append (Evaluated kind) s

    abbrev kind_after : Pass
    kind_after = complete rs v.starts v.rows st.set kind s.at.used leaf-pass

    abbrev kind_turn : Turn Entry Pair
    kind_turn = turn_of rs v st.set kind s.at.used [] leaf-pass

    of_position : Member kind kinds
    of_position = place_member kinds n inside

    is_token : kind < g.tokens
    is_token = tokens.tokens kind of_position

    same_count : leaf-pass.at.items ≡ s.at.items
    same_count = append-count (Evaluated kind) s

    leaf-has : st.items ≤ leaf-pass.at.items
    leaf-has = omega (arith, before.has, same_count)

    to_leaf : Steady rs v.starts s leaf-pass
    to_leaf = steady_append rs v.starts s (Evaluated kind) s fits

    leaf_steady : Steady rs v.starts leaf-pass leaf-pass
    leaf_steady = steady_refl rs v.starts leaf-pass to_leaf.sound to_leaf.charted

    kind_steady : Steady rs v.starts leaf-pass kind_after
    kind_steady = after_steady st.set kind s.at.used set leaf-pass leaf_steady leaf-has

    leaf_good : Good leaf-pass
    leaf_good =
        complete_good rs v.starts v.rows st.set kind s.at.used set leaf-pass to_leaf.sound to_leaf.charted good

    kind_looped : Looped g (chart_of st v) is kind_turn
    kind_looped =
        turn_looped g st v st.set kind s.at.used set [] leaf-pass end to_leaf.sound to_leaf.charted leaf-has good onward
        (append_small (Evaluated kind) s leaf_good)

    -- All turns are of kinds still,
    all_of_kinds : (t : Turn Entry Pair) → Member t (kind_turn ∷ before.past) → OfKind (suc n) t
    all_of_kinds =
        latest (OfKind (suc n)) (record { place = n; before = omega arith; set = refl; symbol = refl }) (λ t m. of_kind_more (reading.of_kinds t m))

    -- and what is queued is of pairs beneath each of theirs.
    all_beneath : (t : Turn Entry Pair) (e : Entry) → Member t (kind_turn ∷ before.past) → Member e (entries_of kind_after) → w.Below (w.pair_of e) t.pair
    all_beneath t e m queued =
        let o : OfKind (suc n) t = all_of_kinds t m in
        let leaf : Leaf rs (get_or kinds o.place 0) =
        scannable.leaf (get_or kinds o.place 0) (place_member kinds o.place (omega (arith, o.before))) in
        subst (λ (p : Pair). w.Below (w.pair_of e) p) (sym (same-pair o.set o.symbol))
        (below_end st.set (get_or kinds o.place 0) kind_after kind_steady.sound onward e queued (beneath (get_or kinds o.place 0) leaf e queued))

    kind_scanned : Scanned w before.past (entries_of s) kind_turn (entries_of kind_after)
    kind_scanned =
        record {
          rises = handles-before before.writing;
          nothing = refl;
          pushed = λ test.
              complete-pushed rs v.starts v.rows st.set kind s.at.used set leaf-pass to_leaf.sound to_leaf.charted good test
              ∙ ap (λ l. count test l + count test kind_turn.calls) (append-entries (Evaluated kind) s);
          all-below = all_beneath;
          new = λ t m same.
              let o : OfKind n t = reading.of_kinds t m in
              scannable.once o.place n o.before inside (sym o.symbol ∙ ap (λ (p : Pair). p.symbol) same);
          asked = turn-asked (beneath_order rs) kind_looped;
          each-once = looped_once kind_turn kind_looped;
        }

    leaf-written : WrittenFrom s.units s.at.used (Evaluated kind ∷ []) leaf-pass.units leaf-pass.at.used
    leaf-written = WrittenFrom.more (append-wrote (Evaluated kind) s leaf_good) WrittenFrom.none

    same_nodes : SameNodes leaf-pass kind_after
    same_nodes = complete-nodes rs v.starts v.rows st.set kind s.at.used leaf-pass

    -- The leaves stand one behind another.
    kind_leaves : (i : ℕ) → i < suc n → predicted v.rows st.set (get_or kinds i 0) ≡ true
        → Linked (kind_turn ∷ before.past) st.set (get_or kinds i 0) (st.used + leaves_of i)
    kind_leaves i less row =
        elim (dec_lt i n) [
          | yes earlier ↦ more_linked (before.leaves i earlier row)
          | no last ↦
              (let is : n ≡ i = omega arith in
              subst (λ i. Linked (kind_turn ∷ before.past) st.set (get_or kinds i 0) (st.used + leaves_of i)) is
              (record { turn = kind_turn; member = here refl; set = refl; symbol = refl; handle = reading.used }))
        ]

    pub kind_read : Reading (suc n) kind_after
    kind_read =
        record {
          so_far = record {
            past = kind_turn ∷ before.past;
            run = Run.scan before.run kind_scanned;
            looped = latest (Looped g (chart_of st v) is) kind_looped before.looped;
            writing = subst₂ (λ units used. Writing g is (unit_store v.store) st.used (kind_turn ∷ before.past) (unit_store units) used)
                (sym same_nodes.units) (sym same_nodes.used)
                (Writing.writes before.writing (record { leaf = λ less. refl; sums = λ big. absurd (omega (arith, is_token)) }) refl (written_onward leaf-written)
                (leaf-stands leaf-written));
            begun = latest (λ t. Read (chart_of st v) kinds t ⊎ Fed t)
                (inl (record { latest = refl; kind = of_position; row = holds_true (row_of row_words v.rows st.set) kind row })) before.begun;
            popped = latest (λ (t : Turn Entry Pair). g.tokens ≤ t.pair.symbol → PoppedAt t) (λ big. absurd (omega (arith, is_token))) before.popped;
            leaves = kind_leaves;
            has = omega (arith, leaf-has, kind_steady.onward.more-items);
            stored = stored_linked st.set kind s.at.used set leaf-pass leaf_steady leaf-has before.past kind_turn refl refl refl leaf-stored;
          };
          of_kinds = all_of_kinds;
          used = omega (
            arith,
            same_nodes.used,
            append-behind (Evaluated kind) s leaf_good,
            leaf-unit s.at.used kind (omega (arith, is_token, accepted.room, accepted.few_symbols)),
            reading.used,
            one_more-leaf n inside,
            ap once row,
          );
        }
      where
        leaf-stored : (p : ℕ) → st.items ≤ p → p < leaf-pass.at.items
            → Linked before.past (origin_at leaf-pass.items p) (first_of rs (item_at leaf-pass.items p)) (handle_at leaf-pass.items p)
        leaf-stored = kept_linked to_leaf before.past same_count before.stored

  -- A SUM IS A TURN: its entries are popped, its nodes written, and its pair completed.
  module _ (s : Pass) (pending : Pending rs v.starts s) (some : 0 < s.at.queued) (reached : Reached g st v kinds s) (n : ℕ) (so_far : SoFar n s)
      (good : Good (complete rs v.starts v.rows (greatest s).origin (left_of rs (greatest s)) s.at.used (summed rs (greatest s).origin (left_of rs (greatest s)) s)))
      (onward : Onward (complete rs v.starts v.rows (greatest s).origin (left_of rs (greatest s)) s.at.used (summed rs (greatest s).origin (left_of rs (greatest s)) s)) end) where
    abbrev k : ℕ
    k = (greatest s).origin

    abbrev x : ℕ
    x = left_of rs (greatest s)

    abbrev popped : Pass
    popped = summed rs (greatest s).origin (left_of rs (greatest s)) s

    abbrev sum-after : Pass
    sum-after = complete rs v.starts v.rows k x s.at.used popped

    abbrev products : List Entry
    products = products_for rs k x s

    abbrev turn : Turn Entry Pair
    turn = turn_of rs v k x s.at.used products popped

    popped_steady : Steady rs v.starts s popped
    popped_steady = steady_summed rs v.starts s k x s (pending_steady s pending)

    here_steady : Steady rs v.starts popped popped
    here_steady = steady_refl rs v.starts popped popped_steady.sound popped_steady.charted

    charts : Charts rs v.starts (greatest s)
    charts = greatest_charts rs v.starts s s some (pending_steady s pending)

    popped-has : st.items ≤ popped.at.items
    popped-has = omega (arith, so_far.has, summed-items rs k x s)

    then_steady : Steady rs v.starts popped sum-after
    then_steady = after_steady k x s.at.used charts.is_set popped here_steady popped-has

    popped_good : Good popped
    popped_good =
        complete_good rs v.starts v.rows k x s.at.used charts.is_set popped popped_steady.sound popped_steady.charted good

    popped_onward : Onward popped end
    popped_onward = onward_trans then_steady.onward onward

    sum_looped : Looped g (chart_of st v) is turn
    sum_looped =
        turn_looped g st v k x s.at.used charts.is_set products popped end popped_steady.sound popped_steady.charted popped-has good onward
        (summed_small rs k x s popped_good)

    -- A product's item is at the end what it was when it was popped.
    product_item : (e : Entry) → Member e products → item_at end.items e.place ≡ item_at s.items e.place
    product_item e m =
        (onward_trans popped_steady.onward popped_onward).same-items e.place (products_owned rs k x s pending.sound e m).there

    product-own : (e : Entry) → Member e products → w.pair_of e ≡ turn.pair
    product-own e m =
        let own : Owned rs s k x e = products_owned rs k x s pending.sound e m in
        same-pair (ap (λ (i : Item). i.origin) (product_item e m) ∙ own.origin) (ap (left_of rs) (product_item e m) ∙ own.left)

    sum-summed : Summed w so_far.past (entries_of s) turn (entries_of popped) (entries_of sum-after)
    sum-summed =
        record {
          rises = handles-before so_far.writing;
          greatest = top_of s;
          some = products-some rs s some;
          popped = sum-counts rs k x s pending.sound;
          own = product-own;
          rest_below = λ e m. below_end k x popped popped_steady.sound popped_onward e m (rest_beneath grounds s pending some e m);
          pushed = complete-pushed rs v.starts v.rows k x s.at.used charts.is_set popped popped_steady.sound popped_steady.charted good;
          calls_below = λ e m.
              let n : Member e (entries_of sum-after) = called_queued k x s.at.used charts.is_set popped here_steady popped-has good e m in
              below_end k x sum-after then_steady.sound onward e n (after_beneath grounds s pending some s.at.used e n);
          asked = turn-asked (beneath_order rs) sum_looped;
          each-once = looped_once turn sum_looped;
        }

    -- The Sum with its number and its Products, as they are spelt.
    abbrev factors : List Product
    factors = map (product_of is) products

    sum-nodes : WrittenFrom s.units s.at.used (Sum (length factors) x ∷ map spell factors) popped.units popped.at.used
    sum-nodes =
        subst₂ (λ (n : ℕ) (l : List Written). WrittenFrom s.units s.at.used (Sum n x ∷ l) popped.units popped.at.used)
        (summands-length grounds s pending some ∙ sym (length-map products (product_of is)))
        (all-spelt is s.items products (λ e m. ap (λ (i : Item). i.rule) (product_item e m)) (λ e m. ap (λ (i : Item). i.handle) (product_item e m)))
        (sum-written rs k x s popped_good)

    -- The Sum stands at the end, with its number and its left side.
    sum_node-stands : stand (usable end.units) s.at.used (units_at s.at.used (Sum (length products) x)) ≡ true
    sum_node-stands =
        let n : Written = Sum (summands rs k x s) x in
        let on : Good (append n s) = sum_node_good rs k x s popped_good in
        let node-steady : Steady rs v.starts s (append n s) = steady_append rs v.starts s n s (pending_steady s pending) in
        let to-popped : Onward (append n s) popped =
        (steady_pop rs v.starts (append n s) k x (append n s) (steady_refl rs v.starts (append n s) node-steady.sound node-steady.charted)).onward in
        subst (λ m. stand (usable end.units) s.at.used (units_at s.at.used (Sum m x)) ≡ true) (summands-length grounds s pending some)
        (onward_stands (onward_trans to-popped popped_onward) s.at.used n (append-stands n s on) (let behind = append-behind n s on in omega arith))

    same-sum-nodes : SameNodes popped sum-after
    same-sum-nodes = complete-nodes rs v.starts v.rows k x s.at.used popped

    sum_so_far : SoFar n sum-after
    sum_so_far =
        record {
          past = turn ∷ so_far.past;
          run = Run.sum so_far.run sum-summed;
          looped = latest (Looped g (chart_of st v) is) sum_looped so_far.looped;
          writing = subst₂ (λ units used. Writing g is (unit_store v.store) st.used (turn ∷ so_far.past) (unit_store units) used)
              (sym same-sum-nodes.units) (sym same-sum-nodes.used)
              (Writing.writes so_far.writing
              (record { leaf = λ less. absurd (omega (arith, left-high g accepted (greatest s).rule charts.is_rule)); sums = λ big. refl }) refl
              (written_onward sum-nodes) (sum-stands factors sum-nodes));
          begun = latest (λ t. Read (chart_of st v) kinds t ⊎ Fed t) (inr (record { entry = top_of s; product = products-some rs s some })) so_far.begun;
          popped = latest (λ (t : Turn Entry Pair). g.tokens ≤ t.pair.symbol → PoppedAt t)
              (λ big. record { pass = s; reached = reached; set = refl; symbol = refl; handle = refl; products = refl; written = sum_node-stands; same = product_item })
              so_far.popped;
          leaves = λ i less row. more_linked (so_far.leaves i less row);
          has = omega (arith, popped-has, then_steady.onward.more-items);
          stored = stored_linked k x s.at.used charts.is_set popped here_steady popped-has so_far.past turn refl refl refl popped-stored;
        }
      where
        popped-stored : (p : ℕ) → st.items ≤ p → p < popped.at.items
            → Linked so_far.past (origin_at popped.items p) (first_of rs (item_at popped.items p)) (handle_at popped.items p)
        popped-stored = kept_linked popped_steady so_far.past (summed-items rs k x s) so_far.stored

  -- ALL SUMS, up to the end.
  module _ (good : Good end) (n : ℕ) where
    abbrev sum-next : Pass → Pass
    sum-next = complete_sum rs v.starts v.rows

    pub sums_so_far : (m : ℕ) (s : Pass) → Pending rs v.starts s → Reached g st v kinds s → until m rests (complete_sum rs v.starts v.rows) s ≡ end
        → SoFar n s → SoFar n end
    unfolding until complete_sum
    sums_so_far zero s pending reached ends so_far = subst (SoFar n) ends so_far
    sums_so_far (suc m) s pending reached ends so_far =
        let next : Pending rs v.starts (sum-next s) → Reached g st v kinds (sum-next s) → until m rests sum-next (sum-next s) ≡ end
        → SoFar n (sum-next s) → SoFar n end = sums_so_far m (sum-next s) in
        either_way (rests s) (λ at_rest. subst (SoFar n) (sym (until-rests rests sum-next (suc m) s at_rest) ∙ ends) so_far)
        (λ goes. one_more goes (sym (until_turns rests sum-next m s goes) ∙ ends) next)
      where
        one_more : rests s ≡ false → until m rests sum-next (sum-next s) ≡ end
            → (Pending rs v.starts (sum-next s) → Reached g st v kinds (sum-next s) → until m rests sum-next (sum-next s) ≡ end → SoFar n (sum-next s)
            → SoFar n end) → SoFar n end
        one_more goes ends next =
            let some : 0 < s.at.queued = (not_resting s goes).1 in
            let a : Pass = sum-next s in
            let going : Pending rs v.starts a = pending_sum grounds s pending some in
            let on : Good a =
            elim (ℕ_discrete a.at.stopped 0) [
              | yes e ↦ record { on = e }
              | no not ↦ subst Good (sym ends ∙ until-rests rests sum-next m a (rests-stopped a not)) good
            ] in
            let to_end : Onward a end =
            subst (Onward a) ends
            (until-keeps rests sum-next (Steady rs v.starts a)
            (λ u goes. steady_sum rs v.starts a v.rows u (not_resting u goes).1) m a (pending_steady a going)).onward in
            next going (Reached.sum reached goes) ends (sum_so_far s pending some reached n so_far on to_end)
