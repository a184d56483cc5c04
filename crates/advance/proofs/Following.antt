-- Steps 5 and 6: the new items become the latest set.
use Rattle.std.proofs.Common.{◌≡◌, refl, sym, ap, ap₂, ◌∙◌, ◌⊎◌, inl, inr, List, [], ◌∷◌, ◌++◌, append-nil, ℕ, ◌+◌, ◌-◌, ◌*◌, ◌≤◌, ◌<◌, arith, length, get_or, set, take, replicate, length-append, length-take, length-drop, ext_get_or, length-take-le, get_or-take, get_or-append-add}
use native.Mathlib.Decide.{dec_lt}
use lib.ListN.{length-replicate, get_or-append, get_or-eq_default}
use Rattle.laws.specs.Bits.{row_of, with_row}
use Rattle.laws.proofs.Bits.{union_wide}
use Rattle.laws.proofs.Rows.{row_word, with_row_ext}
use Rattle.bits.specs.Width.{row_words}
use Rattle.item.specs.Item.{Item, item_words, item_at, flat}
use Rattle.item.proofs.Words.{flat-length, item_of_flat}
use Rattle.grammar.specs.Rules.{Rule}
use Rattle.grammar.specs.Accepted.{max_symbols}
use Rattle.grammar.specs.inner.Decoded.{second_in, rules_in}
use Rattle.parse.specs.Words.{Words, max_items, padded}
use Rattle.parse.specs.WellFormed.{second_of}
use Rattle.advance.specs.NewItems.{items_from}
use Rattle.advance.specs.inner.Order.{All}
use Rattle.advance.specs.inner.Advances.{Pruned, Follows}
use Rattle.advance.specs.Advance.{last_kept, kept_rows, predictions, ending}
use Rattle.advance.specs.inner.Ready.{Predictable, Followable}
use Rattle.prediction.specs.inner.Tables.{Shape}
use Rattle.advance.proofs.Placed.{no_item, items-count, items_at, items_are, item_eq, behind-words}
use Rattle.advance.proofs.Placing.{second_in_lem}
use Rattle.laws.proofs.Lists.{zeros_word}
use Rattle.parse.proofs.Padded.{padded-length, padded-word, padded-set}
use Rattle.advance.proofs.Pruning.{kept_pruned, kept-all, rows_pruned, rows_all, start-below}
use Rattle.advance.proofs.Sorting.{items-all}

-- Items, and 0 behind them.
module _ (w : List ℕ) (base : ℕ) (is : List Item) (fits : item_words * (base + length is) ≤ length w) where
  front : length (take (item_words * base) w) ≡ item_words * base
  front = length-take-le (item_words * base) w (omega arith)

  taken : length (take (item_words * base) w ++ flat is) ≡ item_words * (base + length is)
  taken = omega (arith, length-append (take (item_words * base) w) (flat is), front, flat-length is)

  pub ending-length : length (ending w base is) ≡ length w
  ending-length = padded-length (length w) (take (item_words * base) w ++ flat is) (omega (arith, taken))

  -- They stand at their places ..
  pub ending_at : (q : ℕ) → q < length is → item_at (ending w base is) (base + q) ≡ get_or is q no_item
  ending_at q l =
      item_eq (ending w base is) (take (item_words * base) w ++ flat is) (base + q) (base + q)
      (padded-word (length w) (take (item_words * base) w ++ flat is) (item_words * (base + q)))
      (padded-word (length w) (take (item_words * base) w ++ flat is) (item_words * (base + q) + 1))
      (padded-word (length w) (take (item_words * base) w ++ flat is) (item_words * (base + q) + 2))
      ∙ behind-words (take (item_words * base) w) (flat is) base q front
      ∙ ap (λ (x : List ℕ). item_at x q) (sym (append-nil (flat is)))
      ∙ item_of_flat is [] q no_item l

  pub items-ending : items_from (ending w base is) base (length is) ≡ is
  items-ending = items_are (ending w base is) base is ending_at

  -- .. and the words before them as they stood.
  pub ending-before : (i : ℕ) → i < item_words * base → get_or (ending w base is) i 0 ≡ get_or w i 0
  ending-before i l =
      padded-word (length w) (take (item_words * base) w ++ flat is) i
      ∙ get_or-append (take (item_words * base) w) (flat is) 0 i (omega (arith, front))
      ∙ get_or-take (item_words * base) w i 0 l

  pub ending-behind : (i : ℕ) → item_words * (base + length is) ≤ i → get_or (ending w base is) i 0 ≡ 0
  ending-behind i l = padded-word (length w) (take (item_words * base) w ++ flat is) i ∙ get_or-eq_default (take (item_words * base) w ++ flat is) 0 {n = i} (omega (arith, taken))

-- A row put behind rows that have 0 behind them.
module _ (width size : ℕ) (rows : List ℕ) (k : ℕ) (long : length rows ≡ width * k) (fits : width * k + width ≤ size) where
  pub row_clear : row_of width (padded size rows) k ≡ replicate width 0
  row_clear =
      ext_get_or 0 (row_of width (padded size rows) k) (replicate width 0) (wide ∙ sym (length-replicate {A = ℕ} width 0))
      (λ i l.
      row_word width (padded size rows) k i (omega (arith, wide))
      ∙ padded-word size rows (width * k + i)
      ∙ get_or-eq_default rows 0 {n = width * k + i} (omega arith)
      ∙ sym (zeros_word width i))
    where
      wide : length (row_of width (padded size rows) k) ≡ width
      wide = simp (length-take, length-drop) (omega (arith, padded-length size rows (omega arith)))

  pub row-behind : (row : List ℕ) → length row ≡ width → with_row width (padded size rows) k row ≡ padded size (rows ++ row)
  row-behind row wide =
      sym (with_row_ext width (padded size rows) k row wide (omega (arith, whole)) (padded size (rows ++ row))
      (padded-length size (rows ++ row) (omega (arith, both)) ∙ sym whole)
      (λ i l.
      padded-word size (rows ++ row) (width * k + i)
      ∙ ap (λ (n : ℕ). get_or (rows ++ row) (n + i) 0) (sym long)
      ∙ get_or-append-add rows row i 0)
      (λ j o. padded-word size (rows ++ row) j ∙ outside j o ∙ sym (padded-word size rows j)))
    where
      whole : length (padded size rows) ≡ size
      whole = padded-length size rows (omega arith)

      both : length (rows ++ row) ≡ width * k + width
      both = omega (arith, length-append rows row)

      outside : (j : ℕ) → (j < width * k) ⊎ (width * k + width ≤ j) → get_or (rows ++ row) j 0 ≡ get_or rows j 0
      outside j (inl l) = get_or-append rows row 0 j (omega arith)
      outside j (inr l) = get_or-eq_default (rows ++ row) 0 {n = j} (omega (arith, both)) ∙ sym (get_or-eq_default rows 0 {n = j} (omega arith))

-- The union of rows is a row.
pub predictions_wide : (rs : List Rule) (table : List (List ℕ)) (is : List Item) → Shape row_words table → All (λ (i : Item). second_of rs i < max_symbols) is
    → length (predictions rs table is) ≡ row_words
unfolding predictions
predictions_wide rs table [] s All.empty = refl
predictions_wide rs table (i ∷ is) s (All.also h hs) =
    union_wide row_words (predictions rs table is) (get_or table (second_of rs i) []) (predictions_wide rs table is s hs) (s.row (second_of rs i) h).width_is

-- No set behind the latest is kept.
pub kept_low : (e m : ℕ) → m ≤ e → last_kept e m ≤ e
kept_low e m l = elim (dec_lt 1 (e - m)) [ yes a ↦ omega (arith, kept_pruned e m a) | no a ↦ omega (arith, kept-all e m (omega arith)) ]

-- A row for each set that is kept.
pub kept_rows-length : (e m : ℕ) (rows : List ℕ) → m ≤ e → row_words * (e + 1) ≤ length rows → length (kept_rows e m rows) ≡ row_words * (last_kept e m + 1)
kept_rows-length e m rows l fits = elim (dec_lt 1 (e - m)) [
  | yes a ↦ ap length (rows_pruned e m rows a) ∙ omega (arith, length-append (take (row_words * (m + 1)) rows) (replicate row_words 0), length-take-le (row_words * (m + 1)) rows (omega arith), kept_pruned e m a)
  | no a ↦ ap length (rows_all e m rows (omega arith)) ∙ length-take-le (row_words * (e + 1)) rows fits ∙ omega (arith, kept-all e m (omega arith))
]

module _ (rules : List ℕ) (count : ℕ) (table : List (List ℕ)) (e : ℕ) (items starts rows : List ℕ) (from to m : ℕ) (h : Followable rules count table e items starts rows from to m) where
  abbrev rs : List Rule
  rs = rules_in rules count

  abbrev new : List Item
  new = items_from items from (to - from)

  abbrev v : Words
  v = record { items = items; starts = starts; rows = rows; queue = []; store = [] }

  many : length new ≡ to - from
  many = items-count items from (to - from)

  module _ (kept start : ℕ) (items₁ starts₁ rows₁ : List ℕ) (k : kept ≡ last_kept e m) (p : Pruned e m items starts rows new start items₁ starts₁ rows₁) where
    -- They stand no higher than before.
    pub start-low : start ≤ from
    start-low =
        omega (arith, p.start_is, start-below e items starts rows from to m h.prunable (last_kept e m + 1) (omega (arith, kept_low e m h.prunable.reaches)))

    room : item_words * (start + length new) ≤ length items
    room = omega (arith, start-low, many, h.prunable.there, h.prunable.runs)

    long : length items₁ ≡ length items
    long = ap length p.items_are ∙ ending-length items start new room

    now_new : items_from items₁ start (start + (to - from) - start) ≡ new
    now_new = ap₂ (λ (x : List ℕ) (n : ℕ). items_from x start n) p.items_are (omega (arith, many)) ∙ items-ending items start new room

    moved : (q : ℕ) → start ≤ q → q < start + (to - from) → item_at items₁ q ≡ item_at items (from + (q - start))
    moved q a b =
        let at : q ≡ start + (q - start) = omega arith in
        ap₂ item_at p.items_are at ∙ ending_at items start new room (q - start) (omega (arith, many)) ∙ items_at items from (to - from) (q - start) (omega arith)

    rows_long : length (kept_rows e m rows) ≡ row_words * (kept + 1)
    rows_long = kept_rows-length e m rows h.prunable.reaches h.prunable.rows_there ∙ omega (arith, k)

    rows_fit : row_words * (kept + 1) + row_words ≤ length rows
    rows_fit = omega (arith, h.rows_fit, k)

    -- What the prediction asks of them.
    pub follows_asks : Predictable rules count table items₁ rows₁ start (start + (to - from)) (kept + 1)
    follows_asks = record {
      held = record {
        few = h.held.few;
        runs = omega arith;
        there = omega (arith, long, start-low, h.prunable.there, h.prunable.runs);
        rules = λ q a b. omega (arith, ap (λ (i : Item). i.rule) (moved q a b), h.held.rules (from + (q - start)) (omega arith) (omega (arith, h.prunable.runs)));
      };
      seconds = λ q a b. omega (arith, ap (λ (i : Item). second_in rules i.rule) (moved q a b), h.seconds (from + (q - start)) (omega arith) (omega (arith, h.prunable.runs)));
      shape = h.shape;
      row_there = omega (arith, ap length p.rows_are ∙ padded-length (length rows) (kept_rows e m rows) (omega (arith, rows_long, rows_fit)), rows_fit);
      row_clear = ap (λ (x : List ℕ). row_of row_words x (kept + 1)) p.rows_are ∙ row_clear row_words (length rows) (kept_rows e m rows) (kept + 1) rows_long rows_fit;
    }

    -- The number of items fits a word.
    pub end_fits : start + (to - from) ≤ max_items
    end_fits = omega (arith, start-low, h.room, h.prunable.runs)

    -- So they follow the sets that are kept.
    pub follows : (used : ℕ) {rows₂ : List ℕ} → rows₂ ≡ with_row row_words rows₁ (kept + 1) (predictions rs table (items_from items₁ start (start + (to - from) - start)))
        → Follows used e m v new (predictions rs table new) (record { set = kept + 1; items = start + (to - from); used = used })
        (record { items = items₁; starts = set starts₁ (kept + 2) (start + (to - from)); rows = rows₂; queue = []; store = [] })
    follows used r = record {
      state_is = λ i. record { set = sets i; items = counts i; used = used };
      items_are = p.items_are ∙ ap (λ (b : ℕ). ending items b new) p.start_is;
      starts_are =
          ap₂ (λ (x : List ℕ) (n : ℕ). set x n (start + (to - from))) p.starts_are at
          ∙ padded-set (length starts) (take (last_kept e m + 2) starts) (start + (to - from)) (omega (arith, kept-long, h.starts_fit))
          ∙ ap (λ (n : ℕ). padded (length starts) (take (last_kept e m + 2) starts ++ (n ∷ []))) counts;
      rows_are =
          r
          ∙ ap₂ (λ (x : List ℕ) (is : List Item). with_row row_words x (kept + 1) (predictions rs table is)) p.rows_are now_new
          ∙ row-behind row_words (length rows) (kept_rows e m rows) (kept + 1) rows_long rows_fit (predictions rs table new) wide;
    }
      where
        sets : kept + 1 ≡ last_kept e m + 1
        sets = omega (arith, k)

        counts : start + (to - from) ≡ get_or starts (last_kept e m + 1) 0 + length new
        counts = omega (arith, p.start_is, many)

        kept-long : length (take (last_kept e m + 2) starts) ≡ last_kept e m + 2
        kept-long = length-take-le (last_kept e m + 2) starts (omega (arith, h.starts_fit))

        at : kept + 2 ≡ length (take (last_kept e m + 2) starts)
        at = omega (arith, k, kept-long)

        wide : length (predictions rs table new) ≡ row_words
        wide =
            predictions_wide rs table new h.shape
            (items-all (λ (i : Item). second_of rs i < max_symbols) items from (to - from)
            (λ q a b. omega (arith, second_in_lem rules count (item_at items q) (h.held.rules q a (omega (arith, h.prunable.runs))), h.seconds q a (omega (arith, h.prunable.runs)))))
