-- The words behind a step: what steps 5 and 6 keep of them, and where the new set stands.
use Rattle.std.proofs.Common.{◌≡◌, refl, sym, ap, ap₂, ◌∙◌, List, [], ◌∷◌, ◌++◌, ℕ, ◌+◌, ◌-◌, ◌*◌, ◌/◌, ◌≤◌, ◌<◌, arith, length, get_or, take, drop, replicate, length-append, length-take, length-take-le, get_or-take, get_or-append-add}
use native.Mathlib.Decide.{dec_lt}
use lib.ListN.{length-replicate, get_or-append, get_or-eq_default}
use lib.Seq.{get_or_at}
use Rattle.laws.specs.Bits.{Holds, row_of}
use Rattle.laws.proofs.Bits.{zeros_hold}
use Rattle.laws.proofs.Rows.{row_word, row_words_lem}
use Rattle.bits.specs.Width.{row_words}
use Rattle.item.specs.Item.{Item, item_words, item_at}
use Rattle.parse.specs.declared.State.{State}
use Rattle.parse.specs.Words.{Words, start_of}
use Rattle.parse.proofs.Capacities.{SameSizes}
use Rattle.advance.specs.Advance.{last_kept, kept_rows, next_words}
use Rattle.advance.proofs.Placed.{no_item, item_eq}
use Rattle.laws.proofs.Lists.{zeros_word}
use Rattle.parse.proofs.Padded.{padded-length, padded-word}
use Rattle.advance.proofs.Pruning.{kept_pruned, rows_pruned, rows_all}
use Rattle.advance.proofs.Following.{ending-length, ending_at, ending-before, kept_low, kept_rows-length}

-- New items and a row fit behind the sets that are kept.
pub record Movable (s : State) (v : Words) (m : ℕ) (new : List Item) (row : List ℕ) : Type 0 where
  pub starts_fit : length v.starts ≡ length v.rows / row_words + 1
  pub latest_fits : s.set < length v.rows / row_words
  pub set_fits : last_kept s.set m + 1 < length v.rows / row_words
  pub reaches : m ≤ s.set
  pub items_fit : item_words * (start_of v (last_kept s.set m + 1) + length new) ≤ length v.items
  pub row_wide : length row ≡ row_words

module _ {s : State} {v : Words} {m : ℕ} {new : List Item} {row : List ℕ} (h : Movable s v m new row) where
  abbrev e : ℕ
  e = s.set

  abbrev kept : ℕ
  kept = last_kept e m

  abbrev base : ℕ
  base = start_of v (kept + 1)

  abbrev u : Words
  u = next_words e m v new row

  pub kept-below : kept ≤ e
  kept-below = kept_low e m h.reaches

  starts-front : length (take (kept + 2) v.starts) ≡ kept + 2
  starts-front = length-take-le (kept + 2) v.starts (omega (arith, h.starts_fit, h.set_fits))

  -- The sets that are kept start where they started, the new one where the first that is dropped did.
  pub start-kept : (k : ℕ) → k ≤ kept + 1 → start_of u k ≡ start_of v k
  start-kept k l =
      padded-word (length v.starts) (take (kept + 2) v.starts ++ ((base + length new) ∷ [])) k
      ∙ get_or-append (take (kept + 2) v.starts) ((base + length new) ∷ []) 0 k (omega (arith, starts-front))
      ∙ get_or-take (kept + 2) v.starts k 0 (omega arith)

  pub start-last : (k : ℕ) → k ≡ kept + 2 → start_of u k ≡ base + length new
  start-last k l =
      padded-word (length v.starts) (take (kept + 2) v.starts ++ ((base + length new) ∷ [])) k
      ∙ get_or_at (take (kept + 2) v.starts) (base + length new) [] 0 k (omega (arith, starts-front))

  -- Their items are as they were,
  pub item_kept : (p : ℕ) → p < base → item_at u.items p ≡ item_at v.items p
  item_kept p l =
      item_eq u.items v.items p p
      (ending-before v.items base new h.items_fit (item_words * p) (omega arith))
      (ending-before v.items base new h.items_fit (item_words * p + 1) (omega arith))
      (ending-before v.items base new h.items_fit (item_words * p + 2) (omega arith))

  -- and the new items stand behind them.
  pub item_new : (q : ℕ) → q < length new → item_at u.items (base + q) ≡ get_or new q no_item
  item_new q l = ending_at v.items base new h.items_fit q l

  rows-front : length (kept_rows e m v.rows) ≡ row_words * (kept + 1)
  rows-front = kept_rows-length e m v.rows h.reaches (omega (arith, h.latest_fits))

  row_at : (i : ℕ) → get_or u.rows i 0 ≡ get_or (kept_rows e m v.rows ++ row) i 0
  row_at i = padded-word (length v.rows) (kept_rows e m v.rows ++ row) i

  row-front : (k i : ℕ) → k ≤ kept → i < row_words → get_or u.rows (row_words * k + i) 0 ≡ get_or (kept_rows e m v.rows) (row_words * k + i) 0
  row-front k i l b = row_at (row_words * k + i) ∙ get_or-append (kept_rows e m v.rows) row 0 (row_words * k + i) (omega (arith, rows-front))

  front_long : length (take (row_words * (m + 1)) v.rows) ≡ row_words * (m + 1)
  front_long = length-take-le (row_words * (m + 1)) v.rows (omega (arith, h.reaches, h.latest_fits))

  -- A row that is kept has the words that it had, ..
  row_same : (k : ℕ) → k ≤ kept → ((i : ℕ) → i < row_words → get_or (kept_rows e m v.rows) (row_words * k + i) 0 ≡ get_or v.rows (row_words * k + i) 0)
      → (i : ℕ) → get_or (row_of row_words u.rows k) i 0 ≡ get_or (row_of row_words v.rows k) i 0
  row_same k l f =
      row_words_lem row_words u.rows k (row_of row_words v.rows k) (omega (arith, length-take row_words (drop (row_words * k) v.rows)))
      (λ i b. row-front k i l b ∙ f i b ∙ sym (row_word row_words v.rows k i b))

  pub row_kept : (k : ℕ) → k < kept → (i : ℕ) → get_or (row_of row_words u.rows k) i 0 ≡ get_or (row_of row_words v.rows k) i 0
  row_kept k l = row_same k (omega arith) (λ i b. elim (dec_lt 1 (e - m)) [
    | no a ↦
        ap (λ (x : List ℕ). get_or x (row_words * k + i) 0) (rows_all e m v.rows (omega arith))
        ∙ get_or-take (row_words * (e + 1)) v.rows (row_words * k + i) 0 (omega (arith, kept-below))
    | yes a ↦
        ap (λ (x : List ℕ). get_or x (row_words * k + i) 0) (rows_pruned e m v.rows a)
        ∙ get_or-append (take (row_words * (m + 1)) v.rows) (replicate row_words 0) 0 (row_words * k + i) (omega (arith, front_long, kept_pruned e m a))
        ∙ get_or-take (row_words * (m + 1)) v.rows (row_words * k + i) 0 (omega (arith, kept_pruned e m a))
  ])

  -- .. and so has the last, where no set is dropped.
  pub row_latest : e - m ≤ 1 → (i : ℕ) → get_or (row_of row_words u.rows kept) i 0 ≡ get_or (row_of row_words v.rows kept) i 0
  row_latest a = row_same kept (omega arith) (λ i b.
      ap (λ (x : List ℕ). get_or x (row_words * kept + i) 0) (rows_all e m v.rows a)
      ∙ get_or-take (row_words * (e + 1)) v.rows (row_words * kept + i) 0 (omega (arith, kept-below)))

  -- Where sets are dropped the last is cleared.
  pub row_cleared : 1 < e - m → (x : ℕ) → Holds (row_of row_words u.rows kept) x → ⊥
  row_cleared a x held = zeros_hold (row_of row_words u.rows kept) x (row_words_lem row_words u.rows kept [] (omega arith) (λ i b. row-front kept i (omega arith) b ∙ zero i b)) held
    where
      zero : (i : ℕ) → i < row_words → get_or (kept_rows e m v.rows) (row_words * kept + i) 0 ≡ 0
      zero i b =
          let at : row_words * kept + i ≡ length (take (row_words * (m + 1)) v.rows) + i = omega (arith, front_long, kept_pruned e m a) in
          ap₂ (λ (x : List ℕ) (j : ℕ). get_or x j 0) (rows_pruned e m v.rows a) at
          ∙ get_or-append-add (take (row_words * (m + 1)) v.rows) (replicate row_words 0) i 0
          ∙ zeros_word row_words i

  -- The new row stands behind them.
  pub row_new : (k : ℕ) → k ≡ kept + 1 → (i : ℕ) → get_or (row_of row_words u.rows k) i 0 ≡ get_or row i 0
  row_new k l =
      row_words_lem row_words u.rows k row (omega (arith, h.row_wide))
      (λ i b.
      let at : row_words * k + i ≡ length (kept_rows e m v.rows) + i = omega (arith, rows-front) in
      row_at (row_words * k + i) ∙ ap (λ (j : ℕ). get_or (kept_rows e m v.rows ++ row) j 0) at ∙ get_or-append-add (kept_rows e m v.rows) row i 0)

  -- Behind them all is 0.
  pub start_spare : (i : ℕ) → kept + 3 ≤ i → get_or u.starts i 0 ≡ 0
  start_spare i l =
      padded-word (length v.starts) (take (kept + 2) v.starts ++ ((base + length new) ∷ [])) i
      ∙ get_or-eq_default (take (kept + 2) v.starts ++ ((base + length new) ∷ [])) 0 {n = i}
      (omega (arith, length-append (take (kept + 2) v.starts) ((base + length new) ∷ []), starts-front))

  rows-used : length (kept_rows e m v.rows ++ row) ≡ row_words * (kept + 2)
  rows-used = omega (arith, length-append (kept_rows e m v.rows) row, rows-front, h.row_wide)

  pub row_spare : (i : ℕ) → row_words * (kept + 2) ≤ i → get_or u.rows i 0 ≡ 0
  row_spare i l = row_at i ∙ get_or-eq_default (kept_rows e m v.rows ++ row) 0 {n = i} (omega (arith, rows-used))

  -- There are as many words as there were.
  pub moved_sizes : SameSizes u v
  moved_sizes = record {
    items = ending-length v.items base new h.items_fit;
    starts =
        padded-length (length v.starts) (take (kept + 2) v.starts ++ ((base + length new) ∷ []))
        (omega (arith, length-append (take (kept + 2) v.starts) ((base + length new) ∷ []), starts-front, h.starts_fit, h.set_fits));
    rows =
        padded-length (length v.rows) (kept_rows e m v.rows ++ row)
        (omega (arith, rows-used, h.set_fits));
    queue = length-replicate (length v.queue) 0;
    store = refl;
  }
