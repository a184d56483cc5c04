-- Step 5: the greatest origin, the sets that are kept, and the new items moved behind them.
use Rattle.std.proofs.Common.{◌≡◌, refl, sym, ap, ap₂, ◌∙◌, List, ◌∷◌, ◌++◌, append_assoc, ℕ, zero, suc, ◌+◌, ◌-◌, ◌*◌, ◌≤◌, ◌<◌, max, arith, length, get_or, take, replicate, length-append, length-take-le, take_at, lt-ltb, le-ltb}
use Rattle.bits.specs.Width.{row_words}
use Rattle.item.specs.Item.{Item, item_words, item_at, flat}
use Rattle.item.proofs.Words.{flat-length}
use Rattle.advance.specs.NewItems.{items_from, placed}
use Rattle.parse.specs.Words.{padded}
use Rattle.advance.specs.inner.Advances.{Pruned}
use Rattle.advance.specs.Advance.{highest, greatest_origin, last_kept, kept_rows, ending}
use Rattle.advance.specs.inner.Ready.{Prunable}
use Rattle.advance.proofs.Placed.{items-count, items_at, items_down, items_none, item_eq, placed_ext}
use Rattle.std.specs.List.{CopiedTo, SameBelow, SameFrom}
use Rattle.parse.proofs.Padded.{clear_padded, padded_zeros}
use Rattle.advance.proofs.Dropping.{cut-ending}

-- From the last item down, the greatest origin so far.
module _ (w : List ℕ) (from to : ℕ) where
  pub record Reaching (p m : ℕ) : Type 0 where
    pub above : from ≤ p
    pub below : p ≤ to
    pub is : m ≡ highest (items_from w p (to - p))

  pub reaching-start : from ≤ to → Reaching to 0
  unfolding highest
  reaching-start l = record { above = l; below = omega arith; is = sym (ap highest (items_none w to (to - to) (omega arith))) }

  pub reaching-next : (p m : ℕ) → Reaching p m → from < p → {r : ℕ} → r ≡ max m (item_at w (p - 1)).origin → Reaching (p - 1) r
  unfolding highest
  reaching-next p m s l e = record {
    above = omega arith;
    below = omega (arith, s.below);
    is = omega (arith, e, s.is, ap highest (items_down w p to (omega arith) s.below));
  }

  pub reaching-ends : (e p m : ℕ) → Reaching p m → p ≤ from → (from ≡ to → ⊥) → m ≡ greatest_origin e (items_from w from (to - from))
  unfolding greatest_origin
  reaching-ends e p m s l some =
      s.is ∙ ap (λ (q : ℕ). highest (items_from w q (to - q))) here ∙ sym (ap (greatest_origin e) first ∙ sym (ap highest first))
    where
      here : p ≡ from
      here = omega (arith, s.above)

      next : from + 1 - 1 ≡ from
      next = omega arith

      there : from + 1 ≤ to
      there = omega (arith, s.above, s.below, here)

      first : items_from w from (to - from) ≡ item_at w from ∷ items_from w (from + 1) (to - (from + 1))
      first =
          ap (λ (q : ℕ). items_from w q (to - q)) (sym next) ∙ items_down w (from + 1) to (omega arith) there
          ∙ ap (λ (q : ℕ). item_at w q ∷ items_from w (from + 1) (to - (from + 1))) next

  pub reaching_none : (e : ℕ) → from ≡ to → e ≡ greatest_origin e (items_from w from (to - from))
  unfolding greatest_origin
  reaching_none e h = sym (ap (greatest_origin e) (items_none w from (to - from) (omega arith)))

-- Sets are dropped, or all are kept.
pub kept_pruned : (e m : ℕ) → 1 < e - m → last_kept e m ≡ m + 1
kept_pruned e m l = rw (last_kept, lt-ltb 1 (e - m) l) refl

pub kept-all : (e m : ℕ) → e - m ≤ 1 → last_kept e m ≡ e
kept-all e m l = rw (last_kept, le-ltb 1 (e - m) l) refl

pub rows_pruned : (e m : ℕ) (rows : List ℕ) → 1 < e - m → kept_rows e m rows ≡ take (row_words * (m + 1)) rows ++ replicate row_words 0
rows_pruned e m rows l = rw (kept_rows, lt-ltb 1 (e - m) l) refl

pub rows_all : (e m : ℕ) (rows : List ℕ) → e - m ≤ 1 → kept_rows e m rows ≡ take (row_words * (e + 1)) rows
rows_all e m rows l = rw (kept_rows, le-ltb 1 (e - m) l) refl

-- The items of a stretch are copied down, and they are so many words.
module _ (w : List ℕ) (from to base : ℕ) (low : base ≤ from) (runs : from ≤ to) (there : item_words * to ≤ length w) {span : ℕ} (whole : span ≡ item_words * (to - from)) where
  abbrev moved : List Item
  moved = items_from w from (to - from)

  module _ (words : List ℕ) (long : length words ≡ length w) (copied : CopiedTo w words (item_words * from) (item_words * base) span) (below : SameBelow w words (item_words * base)) (above : SameFrom w words (item_words * base + span)) where
    -- Then they stand from the place `base` on, ..
    pub moved_down : words ≡ placed w base (base + (to - from)) moved
    moved_down =
        placed_ext w base (base + (to - from)) moved (omega arith) (omega arith) (items-count w from (to - from) ∙ omega arith) words long
        (λ i l. below i 0 l) (λ i l. above i 0 (omega arith))
        (λ q l.
        let few : q < to - from = omega (arith, items-count w from (to - from)) in
        item_eq words w (base + q) (from + q) (at (item_words * (base + q)) (item_words * (from + q)) (omega arith) (omega arith) (omega arith))
        (at (item_words * (base + q) + 1) (item_words * (from + q) + 1) (omega arith) (omega arith) (omega arith))
        (at (item_words * (base + q) + 2) (item_words * (from + q) + 2) (omega arith) (omega arith) (omega arith))
        ∙ sym (items_at w from (to - from) q few))
      where
        at : (i j : ℕ) → item_words * base ≤ i → i < item_words * base + span → j ≡ item_words * from + (i - item_words * base) → get_or words i 0 ≡ get_or w j 0
        at i j a b e = copied i 0 a b ∙ ap (λ (k : ℕ). get_or w k 0) (sym e)

    -- .. and the words behind them are cleared.
    pub moved_ends : {words' : List ℕ} → words' ≡ padded (length words) (take (item_words * (base + (to - from))) words) → words' ≡ ending w base moved
    moved_ends e =
        e ∙ ap₂ padded long
        (ap (take (item_words * (base + (to - from)))) (moved_down ∙ sym (append_assoc (take (item_words * base) w) (flat moved) _))
        ∙ take_at (take (item_words * base) w ++ flat moved) _ (item_words * (base + (to - from)))
        (omega (arith, length-append (take (item_words * base) w) (flat moved), length-take-le (item_words * base) w (omega arith), flat-length moved, items-count w from (to - from))))

-- Starts that never fall are no higher than the last.
pub last-greatest : (starts : List ℕ) (e : ℕ) → ((k : ℕ) → k ≤ e → get_or starts k 0 ≤ get_or starts (k + 1) 0) → (k : ℕ) → k ≤ e + 1 → get_or starts k 0 ≤ get_or starts (e + 1) 0
last-greatest starts e falls k l = up (e + 1 - k) k (omega arith)
  where
    up : (d k : ℕ) → k + d ≡ e + 1 → get_or starts k 0 ≤ get_or starts (e + 1) 0
    up zero k a = let here : k ≡ e + 1 = omega arith in omega (arith, ap (λ (j : ℕ). get_or starts j 0) here)
    up (suc d) k a = omega (arith, falls k (omega arith), up d (k + 1) (omega arith))

module _ (e : ℕ) (items starts rows : List ℕ) (from to m : ℕ) (h : Prunable e items starts rows from to m) where
  -- No set starts behind the new items.
  pub start-below : (k : ℕ) → k ≤ e + 1 → get_or starts k 0 ≤ from
  start-below k l = omega (arith, last-greatest starts e h.never_falls k l, h.last_start)

  abbrev new : List Item
  new = items_from items from (to - from)

  -- Where all sets are kept nothing changes.
  pub all-kept : e - m ≤ 1 → Pruned e m items starts rows new from items starts rows
  all-kept l = record {
    start_is = sym h.last_start ∙ ap (λ (k : ℕ). get_or starts (k + 1) 0) (sym (kept-all e m l));
    items_are = clear_padded items (item_words * to) h.there h.spare_items ∙ cut-ending items from to new h.runs h.there refl;
    starts_are = clear_padded starts (e + 2) h.starts_there h.spare_starts ∙ ap (λ (k : ℕ). padded (length starts) (take (k + 2) starts)) (sym (kept-all e m l));
    rows_are = clear_padded rows (row_words * (e + 1)) h.rows_there h.spare_rows ∙ ap (padded (length rows)) (sym (rows_all e m rows l));
  }

  -- Where sets are dropped set m+1 is the last, ..
  pub base_below : 1 < e - m → {base : ℕ} → base ≡ get_or starts (m + 2) 0 → base ≤ from
  base_below l b = omega (arith, b, start-below (m + 2) (omega arith))

  -- .. and the starts and rows of the others are cleared, and so is row m+1.
  rows_cleared : 1 < e - m → padded (length rows) (take (row_words * (m + 1)) rows) ≡ padded (length rows) (kept_rows e m rows)
  rows_cleared l =
      sym (padded_zeros (length rows) (take (row_words * (m + 1)) rows) row_words
      (omega (arith, length-take-le (row_words * (m + 1)) rows (omega (arith, h.rows_there)), h.rows_there)))
      ∙ ap (padded (length rows)) (sym (rows_pruned e m rows l))

  pub sets_dropped : 1 < e - m → {base : ℕ} {items' starts' rows' : List ℕ} → base ≡ get_or starts (m + 2) 0
      → items' ≡ ending items base new
      → starts' ≡ padded (length starts) (take (m + 3) starts)
      → rows' ≡ padded (length rows) (take (row_words * (m + 1)) rows)
      → Pruned e m items starts rows new base items' starts' rows'
  sets_dropped l b i s r = record {
    start_is = b ∙ ap (λ (k : ℕ). get_or starts k 0) second;
    items_are = i;
    starts_are = s ∙ ap (λ (k : ℕ). padded (length starts) (take k starts)) third;
    rows_are = r ∙ rows_cleared l;
  }
    where
      second : m + 2 ≡ last_kept e m + 1
      second = omega (arith, kept_pruned e m l)

      third : m + 3 ≡ last_kept e m + 2
      third = omega (arith, kept_pruned e m l)
