-- Steps 4 to 6 together.
use Rattle.std.proofs.Common.{◌≡◌, refl, sym, ap, ap₂, ◌∙◌, true, false, List, [], ◌∷◌, ◌++◌, append-nil, ℕ, suc, ◌+◌, ◌-◌, ◌*◌, ◌/◌, ◌≤◌, ◌<◌, arith, length, get_or, take, ext_get_or, length-take-le, get_or-take, lt-ltb, le-ltb, eq-eqb, ne_eqb, Some, None}
use native.Mathlib.Decide.{ℕ_discrete}
use Rattle.laws.specs.Records as records
use Rattle.bits.specs.Width.{row_words}
use Rattle.item.specs.Item.{Item, item_words, item_at, flat}
use Rattle.grammar.specs.Rules.{Rule, none}
use Rattle.grammar.specs.Accepted.{max_symbols}
use Rattle.grammar.specs.inner.Decoded.{second_in, rules_in}
use Rattle.parse.specs.declared.State.{State}
use Rattle.parse.specs.inner.Parts.{Clear}
use Rattle.parse.specs.Words.{Words, start_of, padded}
use Rattle.parse.specs.WellFormed.{second_of}
use Rattle.advance.specs.NewItems.{items_from, sorted, binary, new_items}
use Rattle.advance.specs.inner.Order.{All}
use Rattle.advance.specs.inner.Advances.{Follows, new_of, reach_of, kept_of, has_room, advance_answer, without_new, advance_words, Advances}
use Rattle.advance.specs.Advance.{highest, greatest_origin, last_kept, predictions, ending, next_state, next_words}
use Rattle.advance.specs.inner.Ready.{Followable, Advanceable}
use Rattle.advance.proofs.Placed.{no_item, items-count}
use Rattle.advance.proofs.Placing.{second_in_lem}
use Rattle.advance.proofs.Ordering.{all_at, all_both, sorted-length, sorted_all}
use Rattle.advance.proofs.Sorting.{items-all}
use Rattle.advance.proofs.Pruning.{start-below}
use Rattle.advance.proofs.Following.{ending-length, ending_at, ending-before, ending-behind, items-ending, kept_low}

module _ (rs : List Rule) where
  -- The two ways of an item.
  pub binary_cases : (P : List Item → Type 0) (i : Item) (is : List Item)
      → (second_of rs i ≡ none → P (binary rs is)) → ((second_of rs i ≡ none → ⊥) → P (i ∷ binary rs is)) → P (binary rs (i ∷ is))
  unfolding binary
  binary_cases P i is out in' = elim (ℕ_discrete (second_of rs i) none) [
    | yes e ↦ rw (binary, eq-eqb (second_of rs i) none e) (out e)
    | no n ↦ rw (binary, ne_eqb (second_of rs i) none n) (in' n)
  ]

  -- Those with a second are some of them, ..
  pub binary-all : {P : Item → Type 0} {is : List Item} → All P is → All P (binary rs is)
  unfolding binary
  binary-all All.empty = All.empty
  binary-all {P} (All.also {i} {is} p ps) = binary_cases (All P) i is (λ e. binary-all ps) (λ n. All.also p (binary-all ps))

  pub binary-few : (is : List Item) → length (binary rs is) ≤ length is
  unfolding binary
  binary-few [] = omega arith
  binary-few (i ∷ is) = binary_cases (λ (js : List Item). length js ≤ suc (length is)) i is (λ e. omega (arith, binary-few is)) (λ n. omega (arith, binary-few is))

  -- .. and each has one.
  pub binary-second : (is : List Item) → All (λ (i : Item). second_of rs i ≡ none → ⊥) (binary rs is)
  unfolding binary
  binary-second [] = All.empty
  binary-second (i ∷ is) = binary_cases (All (λ (j : Item). second_of rs j ≡ none → ⊥)) i is (λ e. binary-second is) (λ n. All.also n (binary-second is))

  -- What step 4 leaves of a stretch of items.
  pub new-all : {P : Item → Type 0} (w : List ℕ) (from to : ℕ) → ((p : ℕ) → from ≤ p → p < to → P (item_at w p)) → All P (new_items rs w from to)
  new-all {P} w from to h = binary-all (sorted_all rs (items-all P w from (to - from) (λ p a b. h p a (omega arith))))

  pub new-few : (w : List ℕ) (from to : ℕ) → length (new_items rs w from to) ≤ to - from
  new-few w from to = omega (arith, binary-few (sorted rs (items_from w from (to - from))), sorted-length rs (items_from w from (to - from)), items-count w from (to - from))

-- A bound of each origin bounds the greatest.
highest-below : (e : ℕ) {is : List Item} → All (λ (i : Item). i.origin ≤ e) is → highest is ≤ e
unfolding highest
highest-below e All.empty = omega arith
highest-below e (All.also p ps) = omega (arith, highest-below e ps)

pub greatest-below : (e : ℕ) {is : List Item} → All (λ (i : Item). i.origin ≤ e) is → greatest_origin e is ≤ e
unfolding greatest_origin
greatest-below e All.empty = omega arith
greatest-below e (All.also p ps) = highest-below e (All.also p ps)

-- Items put down further than others.
ending-over : (w : List ℕ) (from base : ℕ) (is js : List Item) → base ≤ from → item_words * (from + length is) ≤ length w → ending (ending w from is) base js ≡ ending w base js
ending-over w from base is js l fits =
    ap₂ (λ (n : ℕ) (front : List ℕ). padded n (front ++ flat js)) whole
    (ext_get_or 0 (take (item_words * base) (ending w from is)) (take (item_words * base) w) (few ∙ sym few')
    (λ i m.
    let b : i < item_words * base = omega (arith, few) in
    get_or-take (item_words * base) (ending w from is) i 0 b ∙ ending-before w from is fits i (omega arith) ∙ sym (get_or-take (item_words * base) w i 0 b)))
  where
    whole : length (ending w from is) ≡ length w
    whole = ending-length w from is fits

    few : length (take (item_words * base) (ending w from is)) ≡ item_words * base
    few = length-take-le (item_words * base) (ending w from is) (omega (arith, whole))

    few' : length (take (item_words * base) w) ≡ item_words * base
    few' = length-take-le (item_words * base) w (omega arith)

-- What the steps answer and leave, where there is room and where there is none.
module _ (rs : List Rule) (table : List (List ℕ)) (s : State) (v : Words) (to : ℕ) where
  pub answer_done : has_room rs s v to ≡ true → advance_answer rs s v to ≡ Some (next_state s.used (kept_of rs s v to) v (new_of rs s v to))
  unfolding advance_answer
  answer_done e = rw (advance_answer, e) refl

  pub answer-refused : has_room rs s v to ≡ false → advance_answer rs s v to ≡ None
  unfolding advance_answer
  answer-refused e = rw (advance_answer, e) refl

  pub words_done : has_room rs s v to ≡ true → advance_words rs table s v to ≡ next_words s.set (reach_of rs s v to) v (new_of rs s v to) (predictions rs table (new_of rs s v to))
  unfolding advance_words
  words_done e = rw (advance_words, e) refl

  pub words-refused : has_room rs s v to ≡ false → advance_words rs table s v to ≡ without_new s v
  unfolding advance_words
  words-refused e = rw (advance_words, e) refl

module _ (rules : List ℕ) (count : ℕ) (table : List (List ℕ)) (s : State) (v : Words) (to : ℕ) (h : Advanceable rules count table s v to) where
  abbrev rs : List Rule
  rs = rules_in rules count

  abbrev new : List Item
  new = new_of rs s v to

  few : length new ≤ to - s.items
  few = new-few rs v.items s.items to

  room : item_words * (s.items + length new) ≤ length v.items
  room = omega (arith, few, h.new.there, h.new.runs)

  module _ (end : ℕ) (items₁ : List ℕ) (end_is : end ≡ s.items + length new) (are : items₁ ≡ ending v.items s.items new) where
    pub end_low : end ≤ to
    end_low = omega (arith, end_is, few, h.new.runs)

    pub long : length items₁ ≡ length v.items
    long = ap length are ∙ ending-length v.items s.items new room

    now_new : items_from items₁ s.items (end - s.items) ≡ new
    now_new = ap₂ (λ (x : List ℕ) (n : ℕ). items_from x s.items n) are (omega (arith, end_is)) ∙ items-ending v.items s.items new room

    item : (p : ℕ) → s.items ≤ p → p < end → item_at items₁ p ≡ get_or new (p - s.items) no_item
    item p a b =
        let at : p ≡ s.items + (p - s.items) = omega arith in
        ap₂ item_at are at ∙ ending_at v.items s.items new room (p - s.items) (omega (arith, end_is))

    pub clear : Clear items₁ (item_words * end)
    clear = record { each = λ i l. ap (λ (x : List ℕ). get_or x i 0) are ∙ ending-behind v.items s.items new room i (omega (arith, end_is)) }

    -- What the greatest origin asks.
    pub reach_asks : (s.items ≤ end) × (item_words * end ≤ length items₁)
    reach_asks = (omega (arith, end_is), omega (arith, long, end_is, room))

    -- What clearing them asks.
    pub clear_asks : (item_words * s.items ≤ length items₁) × (item_words * end ≤ length items₁) × Clear items₁ (item_words * end)
    clear_asks = (omega (arith, long, room), reach_asks.1, clear)

    module _ (m : ℕ) (m-is : m ≡ greatest_origin s.set (items_from items₁ s.items (end - s.items))) where
      reach : m ≡ reach_of rs s v to
      reach = m-is ∙ ap (greatest_origin s.set) now_new

      pub reaches : m ≤ s.set
      reaches = omega (arith, reach, greatest-below s.set (new-all rs {P = λ (i : Item). i.origin ≤ s.set} v.items s.items to h.origins))

      module _ (kept : ℕ) (kept-is : kept ≡ last_kept s.set m) where
        kept_of_lem : kept ≡ kept_of rs s v to
        kept_of_lem = kept-is ∙ ap (last_kept s.set) reach

        pub kept-below : kept ≤ s.set
        kept-below = omega (arith, kept-is, kept_low s.set m reaches)

        -- Where there is no room the new items are cleared.
        pub refuses : length v.rows / row_words ≤ kept + 1 → {items₂ : List ℕ} → items₂ ≡ padded (length items₁) (take (item_words * s.items) items₁)
            → Advances rs table s v to None (record { items = items₂; starts = v.starts; rows = v.rows; queue = []; store = [] })
        unfolding records.flat
        refuses l q = record {
          answer_is = sym (answer-refused rs table s v to full);
          items_are = q ∙ cut ∙ sym (ap (λ (x : Words). x.items) (words-refused rs table s v to full));
          starts_are = sym (ap (λ (x : Words). x.starts) (words-refused rs table s v to full));
          rows_are = sym (ap (λ (x : Words). x.rows) (words-refused rs table s v to full));
        }
          where
            full : has_room rs s v to ≡ false
            full = le-ltb (kept_of rs s v to + 1) (length v.rows / row_words) (omega (arith, kept_of_lem))

            nothing : (x : List ℕ) → padded (length x) (take (item_words * s.items) x) ≡ ending x s.items []
            nothing x = ap (padded (length x)) (sym (append-nil (take (item_words * s.items) x)))

            cut : padded (length items₁) (take (item_words * s.items) items₁) ≡ ending v.items s.items []
            cut = nothing items₁ ∙ ap (λ (x : List ℕ). ending x s.items []) are ∙ ending-over v.items s.items s.items new [] (omega arith) room

        -- Where there is room what steps 5 and 6 ask holds.
        pub next_asks : kept + 1 < length v.rows / row_words → Followable rules count table s.set items₁ v.starts v.rows s.items end m
        next_asks l = record {
          prunable = record {
            runs = omega (arith, end_is);
            there = reach_asks.1;
            starts_there = omega (arith, h.starts_fit, h.set_fits);
            rows_there = omega (arith, h.set_fits);
            never_falls = h.never_falls;
            last_start = h.last_start;
            spare_items = clear;
            spare_starts = h.spare_starts;
            spare_rows = h.spare_rows;
            reaches = reaches;
          };
          held = record { few = h.new.few; runs = omega (arith, end_is); there = reach_asks.1; rules = λ p a b. omega (arith, ap (λ (i : Item). i.rule) (item p a b), all_at ruled (p - s.items) (omega (arith, end_is))) };
          room = omega (arith, end_low, h.room);
          seconds = λ p a b. omega (arith, ap (λ (i : Item). second_in rules i.rule) (item p a b), all_at symbols (p - s.items) (omega (arith, end_is)));
          shape = h.shape;
          starts_fit = omega (arith, h.starts_fit, kept-is);
          rows_fit = omega (arith, kept-is);
        }
          where
            ruled : All (λ (i : Item). i.rule < count) new
            ruled = new-all rs {P = λ (i : Item). i.rule < count} v.items s.items to h.new.rules

            symbols : All (λ (i : Item). second_in rules i.rule < max_symbols) new
            symbols =
                all_both (λ (i : Item) (r : i.rule < count) (n : second_of rs i ≡ none → ⊥).
                h.seconds i.rule r (λ e. n (second_in_lem rules count i r ∙ e)))
                ruled (binary-second rs (sorted rs (items_from v.items s.items (to - s.items))))

        -- Then they are done.
        pub advances : kept + 1 < length v.rows / row_words → {t : State} {v' : Words}
            → Follows s.used s.set m (record { items = items₁; starts = v.starts; rows = v.rows; queue = []; store = [] }) (items_from items₁ s.items (end - s.items))
            (predictions rs table (items_from items₁ s.items (end - s.items))) t v'
            → Advances rs table s v to (Some t) v'
        advances l f = record {
          answer_is = ap Some (f.state_is ∙ state) ∙ sym (answer_done rs table s v to some);
          items_are = f.items_are ∙ items ∙ sym (ap (λ (x : Words). x.items) (words_done rs table s v to some));
          starts_are = f.starts_are ∙ starts ∙ sym (ap (λ (x : Words). x.starts) (words_done rs table s v to some));
          rows_are = f.rows_are ∙ rows ∙ sym (ap (λ (x : Words). x.rows) (words_done rs table s v to some));
        }
          where
            some : has_room rs s v to ≡ true
            some = lt-ltb (kept_of rs s v to + 1) (length v.rows / row_words) (omega (arith, kept_of_lem))

            v₁ : Words
            v₁ = record { items = items₁; starts = v.starts; rows = v.rows; queue = []; store = [] }

            state : next_state s.used (last_kept s.set m) v₁ (items_from items₁ s.items (end - s.items)) ≡ next_state s.used (kept_of rs s v to) v new
            state = ap₂ (λ (k : ℕ) (is : List Item). next_state s.used k v is) (ap (last_kept s.set) reach) now_new

            low : start_of v (last_kept s.set m + 1) ≤ s.items
            low =
                start-below s.set items₁ v.starts v.rows s.items end m (next_asks l).prunable (last_kept s.set m + 1)
                (omega (arith, kept_low s.set m reaches))

            items : ending items₁ (start_of v (last_kept s.set m + 1)) (items_from items₁ s.items (end - s.items)) ≡ ending v.items (start_of v (kept_of rs s v to + 1)) new
            items =
                ap₂ (λ (x : List ℕ) (is : List Item). ending x (start_of v (last_kept s.set m + 1)) is) are now_new
                ∙ ending-over v.items s.items (start_of v (last_kept s.set m + 1)) new new low room
                ∙ ap (λ (k : ℕ). ending v.items (start_of v (last_kept s.set k + 1)) new) reach

            starts : (next_words s.set m v₁ (items_from items₁ s.items (end - s.items)) []).starts ≡ (next_words s.set (reach_of rs s v to) v new []).starts
            starts = ap₂ (λ (k : ℕ) (is : List Item). (next_words s.set k v is []).starts) reach now_new

            rows : (next_words s.set m v₁ [] (predictions rs table (items_from items₁ s.items (end - s.items)))).rows ≡ (next_words s.set (reach_of rs s v to) v [] (predictions rs table new)).rows
            rows = ap₂ (λ (k : ℕ) (is : List Item). (next_words s.set k v [] (predictions rs table is)).rows) reach now_new
