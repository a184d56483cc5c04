-- A well formed state is well formed after steps 5 and 6.
use Rattle.std.proofs.Common.{◌≡◌, sym, ap, ◌∙◌, subst, List, [], ◌∷◌, ℕ, suc, ◌+◌, ◌-◌, ◌*◌, ◌/◌, ◌%◌, ◌≤◌, ◌<◌, max, arith, length, get_or}
use native.Mathlib.Decide.{dec_lt}
use Rattle.laws.specs.Bits.{word_bits, bit, Below, row_of}
use Rattle.laws.proofs.Bits.{zeros_hold}
use Rattle.laws.proofs.Lists.{zeros_word}
use Rattle.bits.specs.Width.{row_words}
use Rattle.item.specs.Item.{Item, item_words, item_at, handle_at}
use Rattle.grammar.specs.Rules.{Rule, none}
use Rattle.parse.specs.declared.State.{State}
use Rattle.parse.specs.Words.{Words, start_of}
use Rattle.parse.specs.Heads.{Meets}
use Rattle.parse.specs.WellFormed.{second_of, placing, Fits, InSet, used_units, WellFormed}
use Rattle.advance.specs.inner.Order.{All}
use Rattle.advance.specs.inner.Advances.{without_new}
use Rattle.advance.specs.Advance.{highest, greatest_origin, last_kept, next_state, next_words}
use Rattle.advance.proofs.Placed.{no_item, item_eq}
use Rattle.advance.proofs.Ordering.{Rises, all_at, all_map, rises_at}
use Rattle.advance.proofs.Pruning.{kept_pruned, kept-all, last-greatest}
use Rattle.advance.proofs.Following.{ending-before, ending-behind, kept_low}
use Rattle.advance.proofs.Advancing.{greatest-below}
use Rattle.advance.proofs.Moved.{Movable, start-kept, start-last, start_spare, item_kept, item_new, row_kept, row_latest, row_cleared, row_new, row_spare, moved_sizes}

-- Rows of the same words hold the same symbols.
below-same : (n : ℕ) (a b : List ℕ) → ((i : ℕ) → get_or a i 0 ≡ get_or b i 0) → Below n b → Below n a
below-same n a b h l = record {
  none_above = λ s m held. l.none_above s m (record { is_set = ap (λ (w : ℕ). bit w (s % word_bits)) (sym (h (s / word_bits))) ∙ held.is_set });
}

-- A row with nothing in it.
pub below_zeros : (n : ℕ) (a : List ℕ) → ((i : ℕ) → get_or a i 0 ≡ 0) → Below n a
below_zeros n a h = record { none_above = λ s m held. zeros_hold a s h held }

-- No origin is above the greatest.
highest_above : (is : List Item) → All (λ (i : Item). i.origin ≤ highest is) is
unfolding highest
highest_above [] = All.empty
highest_above (i ∷ is) =
    let first : i.origin ≤ max i.origin (highest is) = omega arith in
    All.also first (all_map (λ (j : Item) (l : j.origin ≤ highest is). let m : j.origin ≤ max i.origin (highest is) = omega arith in m) (highest_above is))

pub greatest_above : (e : ℕ) (is : List Item) → All (λ (i : Item). i.origin ≤ greatest_origin e is) is
unfolding greatest_origin
greatest_above e [] = All.empty
greatest_above e (i ∷ is) = highest_above (i ∷ is)

-- An item that may become one of the set behind set `e`, its handle the head of a node that reading the units meets.
pub record Newcomer (rs : List Rule) (e : ℕ) (units : List ℕ) (i : Item) : Type 0 where
  pub origin-low : i.origin ≤ e
  pub is_rule : i.rule < length rs
  pub has_second : second_of rs i ≡ none → ⊥
  pub met : Meets units i.handle 0

-- What is asked of new items, and of their row.
pub record Keepable (n : ℕ) (rs : List Rule) (s : State) (v : Words) (new : List Item) (row : List ℕ) : Type 0 where
  pub sets : WellFormed n rs s (without_new s v)
  pub starts_fit : length v.starts ≡ length v.rows / row_words + 1
  pub items_fit : item_words * (s.items + length new) ≤ length v.items
  pub set_fits : last_kept s.set (greatest_origin s.set new) + 1 < length v.rows / row_words
  pub new-fit : All (Newcomer rs s.set (used_units s v)) new
  pub new-rise : Rises rs new
  pub row_wide : length row ≡ row_words
  pub row_below : Below n row

module _ (n : ℕ) (rs : List Rule) (s : State) (v : Words) (new : List Item) (row : List ℕ) (h : Keepable n rs s v new row) where
  abbrev e : ℕ
  e = s.set

  abbrev m : ℕ
  m = greatest_origin e new

  abbrev kept : ℕ
  kept = last_kept e m

  abbrev base : ℕ
  base = start_of v (kept + 1)

  abbrev t : State
  t = next_state s.used kept v new

  abbrev u : Words
  u = next_words e m v new row

  m_low : m ≤ e
  m_low = greatest-below e (all_map (λ (i : Item) (f : Newcomer rs e (used_units s v) i). f.origin-low) h.new-fit)

  m_below : m ≤ kept
  m_below = elim (dec_lt 1 (e - m)) [ yes a ↦ omega (arith, kept_pruned e m a) | no a ↦ omega (arith, kept-all e m (omega arith), m_low) ]

  base_low : base ≤ s.items
  base_low = omega (arith, last-greatest v.starts e h.sets.never_falls (kept + 1) (omega (arith, kept_low e m m_low)), h.sets.last_start)

  room : item_words * (base + length new) ≤ length v.items
  room = omega (arith, base_low, h.items_fit)

  movable : Movable s v m new row
  movable = record {
    starts_fit = h.starts_fit;
    latest_fits = h.sets.set_fits;
    set_fits = h.set_fits;
    reaches = m_low;
    items_fit = room;
    row_wide = h.row_wide;
  }

  -- An item of a kept set is the one that stood there.
  item_before : (p : ℕ) → p < base → item_at u.items p ≡ item_at (without_new s v).items p
  item_before p l =
      item_kept movable p l
      ∙ sym (item_eq (without_new s v).items v.items p p (word (item_words * p) (omega arith)) (word (item_words * p + 1) (omega arith)) (word (item_words * p + 2) (omega arith)))
    where
      word : (i : ℕ) → i < item_words * base → get_or (without_new s v).items i 0 ≡ get_or v.items i 0
      word i b = ending-before v.items s.items [] (omega (arith, h.items_fit)) i (omega (arith, base_low))

  -- No row of a kept set has a bit too high, nor has the new one.
  row_old : (k : ℕ) → k ≤ kept → Below n (row_of row_words u.rows k)
  row_old k l = elim (dec_lt k kept) [
    | yes a ↦ below-same n (row_of row_words u.rows k) (row_of row_words v.rows k) (row_kept movable k a) (h.sets.symbols k (omega (arith, kept_low e m m_low)))
    | no a ↦
        let here : kept ≡ k = omega arith in
        subst (λ (j : ℕ). Below n (row_of row_words u.rows j)) here last
  ]
    where
      last : Below n (row_of row_words u.rows kept)
      last = elim (dec_lt 1 (e - m)) [
        | yes a ↦ record { none_above = λ x b held. row_cleared movable a x held }
        | no a ↦
            below-same n (row_of row_words u.rows kept) (row_of row_words v.rows kept) (row_latest movable (omega arith)) (h.sets.symbols kept (kept_low e m m_low))
      ]

  row_last : (k : ℕ) → k ≡ kept + 1 → Below n (row_of row_words u.rows k)
  row_last k l = below-same n (row_of row_words u.rows k) row (row_new movable k l) h.row_below

  -- The new items stand behind the sets that are kept.
  new_at : (p : ℕ) → base ≤ p → p < base + length new → item_at u.items p ≡ get_or new (p - base) no_item
  new_at p a b =
      let at : p ≡ base + (p - base) = omega arith in
      ap (item_at u.items) at ∙ item_new movable (p - base) (omega arith)

  -- A place of a kept set, and of the new one.
  in_kept : (k p : ℕ) → k ≤ kept → InSet u k p → InSet (without_new s v) k p
  in_kept k p l i = record { from = omega (arith, i.from, start-kept movable k (omega arith)); up_to = omega (arith, i.up_to, start-kept movable (k + 1) (omega arith)) }

  below_base : (k p : ℕ) → k ≤ kept → InSet u k p → p < base
  below_base k p l i =
      omega (arith, i.up_to, start-kept movable (k + 1) (omega arith), last-greatest v.starts kept (λ j b. h.sets.never_falls j (omega (arith, kept_low e m m_low))) (k + 1) (omega arith))

  in_new : (k p : ℕ) → k ≡ kept + 1 → InSet u k p → (base ≤ p) × (p < base + length new)
  in_new k p l i =
      (omega (arith, i.from, start-kept movable k (omega arith), ap (start_of v) l), omega (arith, i.up_to, start-last movable (k + 1) (omega arith)))

  fit-new : (k p : ℕ) → k ≡ kept + 1 → InSet u k p → Fits rs k (item_at u.items p)
  fit-new k p l i =
      subst (Fits rs k) (sym here)
      (record {
        earlier = omega (arith, all_at (greatest_above e new) q few, m_below);
        is_rule = (all_at h.new-fit q few).is_rule;
        has_second = (all_at h.new-fit q few).has_second;
      })
    where
      q : ℕ
      q = p - base

      few : q < length new
      few = omega (arith, (in_new k p l i).0, (in_new k p l i).1)

      here : item_at u.items p ≡ get_or new q no_item
      here = new_at p (in_new k p l i).0 (in_new k p l i).1

  rise-new : (k p : ℕ) → k ≡ kept + 1 → InSet u k p → InSet u k (p + 1) → placing rs (item_at u.items p) < placing rs (item_at u.items (p + 1))
  rise-new k p l i j =
      let next : p + 1 - base ≡ suc (p - base) = omega (arith, (in_new k p l i).0) in
      omega (
        arith,
        ap (placing rs) (new_at p (in_new k p l i).0 (in_new k p l i).1),
        ap (placing rs) (new_at (p + 1) (in_new k (p + 1) l j).0 (in_new k (p + 1) l j).1 ∙ ap (λ (r : ℕ). get_or new r no_item) next),
        rises_at rs h.new-rise (p - base) (omega (arith, (in_new k (p + 1) l j).1)),
      )

  -- The handle of an item of a kept set was met before, and that of a new one is.
  handle_old : (p : ℕ) → p < base → Meets (used_units s v) (handle_at u.items p) 0
  handle_old p l =
      subst (λ (i : Item). Meets (used_units s v) i.handle 0) (sym (item_before p l)) (h.sets.handles p (omega (arith, base_low)))

  handle-new : (p : ℕ) → base ≤ p → p < base + length new → Meets (used_units s v) (handle_at u.items p) 0
  handle-new p a b =
      subst (λ (i : Item). Meets (used_units s v) i.handle 0) (sym (new_at p a b)) (all_at h.new-fit (p - base) (omega arith)).met

  -- The state is well formed again.
  pub well_formed_again : WellFormed n rs t u
  well_formed_again = record {
    set_fits = omega (arith, h.set_fits, (moved_sizes movable).rows);
    items_fit = omega (arith, room, (moved_sizes movable).items);
    units_fit = h.sets.units_fit;
    first_start = start-kept movable 0 (omega arith) ∙ h.sets.first_start;
    second_start = start-kept movable 1 (omega arith) ∙ h.sets.second_start;
    never_falls = λ k l. elim (dec_lt k (kept + 1)) [
      | yes a ↦ omega (arith, start-kept movable k (omega arith), start-kept movable (k + 1) (omega arith), h.sets.never_falls k (omega (arith, kept_low e m m_low)))
      | no a ↦
          let here : k ≡ kept + 1 = omega arith in
          omega (arith, start-kept movable k (omega arith), ap (start_of v) here, start-last movable (k + 1) (omega arith))
    ];
    last_start = start-last movable (t.set + 1) (omega arith);
    fit = λ k p l i. elim (dec_lt k (kept + 1)) [
      | yes a ↦ subst (Fits rs k) (sym (item_before p (below_base k p (omega arith) i))) (h.sets.fit k p (omega (arith, kept_low e m m_low)) (in_kept k p (omega arith) i))
      | no a ↦ fit-new k p (omega arith) i
    ];
    rise = λ k p l i j. elim (dec_lt k (kept + 1)) [
      | yes a ↦
          omega (
            arith,
            ap (placing rs) (item_before p (below_base k p (omega arith) i)),
            ap (placing rs) (item_before (p + 1) (below_base k (p + 1) (omega arith) j)),
            h.sets.rise k p (omega (arith, kept_low e m m_low)) (in_kept k p (omega arith) i) (in_kept k (p + 1) (omega arith) j),
          )
      | no a ↦ rise-new k p (omega arith) i j
    ];
    symbols = λ k l. elim (dec_lt k (kept + 1)) [ yes a ↦ row_old k (omega arith) | no a ↦ row_last k (omega arith) ];
    spare_items = λ i l. ending-behind v.items base new room i l;
    spare_starts = λ i l. start_spare movable i (omega arith);
    spare_rows = λ i l. row_spare movable i (omega arith);
    spare_queue = λ i. zeros_word (length v.queue) i;
    spare_units = h.sets.spare_units;
    reads = h.sets.reads;
    handles = λ p l. elim (dec_lt p base) [ yes a ↦ handle_old p a | no a ↦ handle-new p (omega arith) l ];
  }
