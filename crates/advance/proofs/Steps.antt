-- What a caller of steps 4 to 6 cites: they may be called on a well formed state, and leave one.
use Rattle.std.proofs.Common.{◌≡◌, refl, sym, ap, ap₂, ◌∙◌, Bool, true, false, List, [], ◌++◌, append-nil, ℕ, zero, suc, ◌+◌, ◌-◌, ◌*◌, ◌/◌, ◌≤◌, ◌<◌, arith, length, get_or, take, replicate, ltb-true, ltb-false, Option}
use native.Mathlib.Decide.{dec_lt}
use Rattle.laws.specs.Bits.{Below}
use Rattle.laws.specs.Records as records
use Rattle.laws.proofs.Bits.{union-below}
use Rattle.bits.specs.Width.{row_words}
use Rattle.item.specs.Item.{Item, item_words, item_at, origin_at, rule_at, handle_at}
use Rattle.item.proofs.Order.{Words as U32, Alike}
use Rattle.grammar.specs.Rules.{Rule, none}
use Rattle.grammar.specs.Accepted.{max_symbols}
use Rattle.grammar.specs.inner.Decoded.{second_in, rules_in}
use Rattle.grammar.proofs.Decoding.{in_count}
use Rattle.parse.specs.declared.State.{State}
use Rattle.parse.specs.inner.Parts.{Clear}
use Rattle.parse.specs.Words.{Words, max_items, max_sets, padded}
use Rattle.parse.specs.Heads.{Meets}
use Rattle.parse.specs.WellFormed.{second_of, used_units, WellFormed}
use Rattle.advance.specs.NewItems.{items_from, sorted, binary}
use Rattle.advance.specs.inner.Order.{All, Stored}
use Rattle.advance.specs.inner.Advances.{lent, new_of, reach_of, kept_of, has_room, advance_answer, without_new, advance_words, Advances}
use Rattle.advance.specs.Advance.{predictions, next_state, next_words}
use Rattle.advance.specs.inner.Ready.{Advanceable}
use Rattle.prediction.specs.inner.Tables.{Shape}
use Rattle.advance.proofs.Placing.{second_in_lem}
use Rattle.advance.proofs.Ordering.{Rises, Differ, all_both, sorted_rises, differ_apart}
use Rattle.laws.proofs.Lists.{zeros_word}
use Rattle.parse.proofs.Padded.{clear_padded}
use Rattle.advance.proofs.Sorting.{items-all}
use Rattle.advance.proofs.Pruning.{kept_pruned, kept-all}
use Rattle.advance.proofs.Following.{predictions_wide}
use Rattle.advance.proofs.Advancing.{answer_done, answer-refused, words_done, words-refused, binary_cases, binary-all, binary-second, new-all, new-few}
use Rattle.advance.proofs.Keeping.{Newcomer, below_zeros, well_formed_again}

-- Words that differ from those of the sets in the new items alone are, without these, those words.
pub without_new_lem : (s : State) (v₀ v : Words) → item_words * s.items ≤ length v₀.items → Clear v₀.items (item_words * s.items)
    → length v.items ≡ length v₀.items → take (item_words * s.items) v.items ≡ take (item_words * s.items) v₀.items
    → (without_new s v).items ≡ v₀.items
unfolding records.flat
without_new_lem s v₀ v fits c long same =
    ap₂ (λ (n : ℕ) (front : List ℕ). padded n (front ++ [])) long same
    ∙ ap (padded (length v₀.items)) (append-nil (take (item_words * s.items) v₀.items))
    ∙ sym (clear_padded v₀.items (item_words * s.items) fits c)

-- A well formed state, with new items behind its sets, is ready for the steps.
pub ready : (n : ℕ) (rules : List ℕ) (count : ℕ) (table : List (List ℕ)) (s : State) (v : Words) (to : ℕ)
    → WellFormed n (rules_in rules count) s (without_new s v) → length v.starts ≡ length v.rows / row_words + 1
    → Stored count v.items s.items to → to ≤ max_items → ((p : ℕ) → s.items ≤ p → p < to → origin_at v.items p ≤ s.set) → Clear v.items (item_words * to)
    → ((r : ℕ) → r < count → (second_in rules r ≡ none → ⊥) → second_in rules r < max_symbols) → Shape row_words table
    → Advanceable rules count table s v to
ready n rules count table s v to w fit held room origins c seconds shape = record {
  set_fits = w.set_fits;
  starts_fit = fit;
  never_falls = w.never_falls;
  last_start = w.last_start;
  new = held;
  room = room;
  origins = origins;
  spare_items = c;
  spare_starts = record { each = w.spare_starts };
  spare_rows = record { each = w.spare_rows };
  seconds = seconds;
  shape = shape;
}

-- The used units are not asked for.
pub ready_used : (rules : List ℕ) (count : ℕ) (table : List (List ℕ)) (s : State) (used : ℕ) (v : Words) (to : ℕ) → Advanceable rules count table s v to
    → Advanceable rules count table (record { set = s.set; items = s.items; used = used }) v to
ready_used rules count table s used v to h = record {
  set_fits = h.set_fits;
  starts_fit = h.starts_fit;
  never_falls = h.never_falls;
  last_start = h.last_start;
  new = h.new;
  room = h.room;
  origins = h.origins;
  spare_items = h.spare_items;
  spare_starts = h.spare_starts;
  spare_rows = h.spare_rows;
  seconds = h.seconds;
  shape = h.shape;
}

-- The steps touch neither queue nor store: what they ask and leave of the words without them says all of the words with an empty queue.
module _ (rules : List ℕ) (count : ℕ) (table : List (List ℕ)) (s : State) (v : Words) (to : ℕ) where
  abbrev part : Words
  part = lent v.items v.starts v.rows

  pub ready_lent : Advanceable rules count table s v to → Advanceable rules count table s part to
  ready_lent h = record {
    set_fits = h.set_fits;
    starts_fit = h.starts_fit;
    never_falls = h.never_falls;
    last_start = h.last_start;
    new = h.new;
    room = h.room;
    origins = h.origins;
    spare_items = h.spare_items;
    spare_starts = h.spare_starts;
    spare_rows = h.spare_rows;
    seconds = h.seconds;
    shape = h.shape;
  }

  pub advances_whole : (r : Option State) (items starts rows : List ℕ) → Clear v.queue 0
      → Advances (rules_in rules count) table s part to r (lent items starts rows)
      → (r ≡ advance_answer (rules_in rules count) s v to)
      × (◌≡◌ {A = Words} (record { items = items; starts = starts; rows = rows; queue = v.queue; store = v.store }) (advance_words (rules_in rules count) table s v to))
  advances_whole r items starts rows c a = by_room (has_room rs s v to) refl
    where
      rs : List Rule
      rs = rules_in rules count

      empty : v.queue ≡ replicate (length v.queue) 0
      empty =
          let whole : length v.queue - 0 ≡ length v.queue = omega arith in
          clear_padded v.queue 0 (omega arith) c ∙ ap (λ (n : ℕ). replicate n 0) whole

      words : {x y : Words} → x.items ≡ y.items → x.starts ≡ y.starts → x.rows ≡ y.rows → x.queue ≡ y.queue → x.store ≡ y.store → x ≡ y
      words p q i j o = λ k. record { items = p k; starts = q k; rows = i k; queue = j k; store = o k }

      by_room : (b : Bool) → has_room rs s v to ≡ b
          → (r ≡ advance_answer rs s v to) × (◌≡◌ {A = Words} (record { items = items; starts = starts; rows = rows; queue = v.queue; store = v.store }) (advance_words rs table s v to))
      by_room true e =
          let same = words_done rs table s part to e in (
            a.answer_is ∙ answer_done rs table s part to e ∙ sym (answer_done rs table s v to e),
            words (a.items_are ∙ ap (λ (x : Words). x.items) same) (a.starts_are ∙ ap (λ (x : Words). x.starts) same) (a.rows_are ∙ ap (λ (x : Words). x.rows) same) empty refl
                ∙ sym (words_done rs table s v to e),
          )
      by_room false e =
          let same = words-refused rs table s part to e in (
            a.answer_is ∙ answer-refused rs table s part to e ∙ sym (answer-refused rs table s v to e),
            words (a.items_are ∙ ap (λ (x : Words). x.items) same) (a.starts_are ∙ ap (λ (x : Words). x.starts) same) (a.rows_are ∙ ap (λ (x : Words). x.rows) same) refl refl
                ∙ sym (words-refused rs table s v to e),
          )

-- Where there is no room for the new set no set was to be dropped.
pub full-keeps-all : (rules : List ℕ) (count : ℕ) (table : List (List ℕ)) (s : State) (v : Words) (to : ℕ) → Advanceable rules count table s v to
    → has_room (rules_in rules count) s v to ≡ false → kept_of (rules_in rules count) s v to ≡ s.set
full-keeps-all rules count table s v to h e = elim (dec_lt 1 (s.set - m)) [
  | yes a ↦ absurd (omega (arith, kept_pruned s.set m a, ltb-false (kept_of (rules_in rules count) s v to + 1) (length v.rows / row_words) e, h.set_fits))
  | no a ↦ kept-all s.set m (omega arith)
]
  where
    m : ℕ
    m = reach_of (rules_in rules count) s v to

-- Those with a second rise where all do.
pub binary_rises : (rs : List Rule) {is : List Item} → Rises rs is → Rises rs (binary rs is)
unfolding binary
binary_rises rs Rises.empty = Rises.empty
binary_rises rs (Rises.also {i} {is} a r) = binary_cases rs (Rises rs) i is (λ e. binary_rises rs r) (λ n. Rises.also (binary-all rs a) (binary_rises rs r))

-- What step 3 gives beside that: the new items differ in origin or rule.
pub record Distinct (w : List ℕ) (from to : ℕ) : Type 0 where
  pub differ : (p q : ℕ) → from ≤ p → p < q → q < to → origin_at w p ≡ origin_at w q → rule_at w p ≡ rule_at w q → ⊥

-- The items of such a stretch differ.
items_differ : (w : List ℕ) (from n : ℕ) → Distinct w from (from + n) → Differ (items_from w from n)
unfolding items_from
items_differ w from zero h = Differ.empty
items_differ w from (suc n) h =
    Differ.also
    (items-all (λ (j : Item). Alike (item_at w from) j → ⊥) w (from + 1) n
    (λ q a b e. h.differ from q (omega arith) (omega arith) (omega arith) e.origins e.rules))
    (items_differ w (from + 1) n (record { differ = λ p q a b c. h.differ p q (omega arith) b (omega arith) }))

-- The new row has no bit that the table's rows have not.
predictions-below : (n : ℕ) (rs : List Rule) (table : List (List ℕ)) {is : List Item} → ((k : ℕ) → k < max_symbols → Below n (get_or table k []))
    → All (λ (i : Item). second_of rs i < max_symbols) is → Below n (predictions rs table is)
unfolding predictions
predictions-below n rs table h All.empty = below_zeros n (replicate row_words 0) (zeros_word row_words)
predictions-below n rs table h (All.also {i} {is} l ls) =
    union-below n (predictions rs table is) (get_or table (second_of rs i) []) (predictions-below n rs table h ls) (h (second_of rs i) l)

module _ (n : ℕ) (rules : List ℕ) (count : ℕ) (table : List (List ℕ)) (s : State) (v : Words) (to : ℕ)
    (sets : WellFormed n (rules_in rules count) s (without_new s v)) (h : Advanceable rules count table s v to)
    (few : length v.rows / row_words ≤ max_sets) (distinct : Distinct v.items s.items to)
    (met : (p : ℕ) → s.items ≤ p → p < to → Meets (used_units s v) (handle_at v.items p) 0)
    (bits : (k : ℕ) → k < max_symbols → Below n (get_or table k [])) where
  abbrev rs : List Rule
  rs = rules_in rules count

  abbrev new : List Item
  new = new_of rs s v to

  abbrev stored : List Item
  stored = items_from v.items s.items (to - s.items)

  u32 : All U32 stored
  u32 =
      items-all U32 v.items s.items (to - s.items)
      (λ p a b.
      let inside : p < to = omega (arith, h.new.runs) in
      record {
        origin-fits = omega (arith, h.origins p a inside, h.set_fits, few);
        rule_fits = omega (arith, h.new.rules p a inside, h.new.few);
      })

  differ : Differ stored
  differ = items_differ v.items s.items (to - s.items) (record { differ = λ p q a b c. distinct.differ p q a b (omega (arith, h.new.runs)) })

  -- The new set rises strictly by second, rule, origin.
  pub rises : Rises rs new
  rises = binary_rises rs (sorted_rises rs stored (differ_apart rs u32 differ))

  many : length rs ≡ count
  many = in_count rules 0 0 count

  seconds : All (λ (i : Item). second_of rs i ≡ none → ⊥) new
  seconds = binary-second rs (sorted rs stored)

  ruled : All (λ (i : Item). i.rule < count) new
  ruled = new-all rs {P = λ (i : Item). i.rule < count} v.items s.items to h.new.rules

  low : All (λ (i : Item). i.origin ≤ s.set) new
  low = new-all rs {P = λ (i : Item). i.origin ≤ s.set} v.items s.items to h.origins

  handled : All (λ (i : Item). Meets (used_units s v) i.handle 0) new
  handled = new-all rs {P = λ (i : Item). Meets (used_units s v) i.handle 0} v.items s.items to met

  newcomers : All (Newcomer rs s.set (used_units s v)) new
  newcomers =
      all_both (λ (i : Item) (f : (i.origin ≤ s.set) × Meets (used_units s v) i.handle 0) (g : (i.rule < count) × (second_of rs i ≡ none → ⊥)).
      record { origin-low = f.0; is_rule = omega (arith, g.0, many); has_second = g.1; met = f.1 })
      (all_both (λ (i : Item) (o : i.origin ≤ s.set) (x : Meets (used_units s v) i.handle 0). (o, x)) low handled)
      (all_both (λ (i : Item) (r : i.rule < count) (x : second_of rs i ≡ none → ⊥). (r, x)) ruled seconds)

  symbols : All (λ (i : Item). second_of rs i < max_symbols) new
  symbols =
      all_both (λ (i : Item) (r : i.rule < count) (x : second_of rs i ≡ none → ⊥).
      let l : second_of rs i < max_symbols = omega (arith, second_in_lem rules count i r, h.seconds i.rule r (λ e. x (second_in_lem rules count i r ∙ e))) in l)
      ruled seconds

  -- The state after steps 4 to 6 is well formed.
  pub steps_keep : has_room rs s v to ≡ true
      → WellFormed n rs (next_state s.used (kept_of rs s v to) v new) (next_words s.set (reach_of rs s v to) v new (predictions rs table new))
  steps_keep room =
      well_formed_again n rs s v new (predictions rs table new)
      (record {
        sets = sets;
        starts_fit = h.starts_fit;
        items_fit = omega (arith, new-few rs v.items s.items to, h.new.there, h.new.runs);
        set_fits = ltb-true _ _ room;
        new-fit = newcomers;
        new-rise = rises;
        row_wide = predictions_wide rs table new h.shape symbols;
        row_below = predictions-below n rs table bits symbols;
      })
