-- Laws of words that hold rows of `w` words one behind the other.
use mathlib.Core.Path.{◌≡◌, sym, ap, subst, ◌∙◌}
use mathlib.Core.Logic.{◌⊎◌, inl, inr}
use mathlib.Core.List.{List}
use Prim.Native.Nat.{ℕ, suc, ◌+◌, ◌-◌, ◌*◌, ◌^◌, ◌≤◌, ◌<◌}
use native.Mathlib.Nat.{mul-le-mul_left, mul-suc}
use native.Mathlib.Decide.{dec_lt}
use native.Mathlib.Omega.{arith}
use lib.ListN.{length, get_or, take, drop, length-append, length-take, length-drop, get_or-append, get_or-eq_default}
use lib.Seq.{ext_get_or, length-take-le, get_or-take, get_or-drop, get_or-append-add}
use lib.Pow.{pow_pos}
use Rattle.laws.specs.Bits.{word_bits, Row, row_of, with_row}

-- A row of words has its width.
pub row_wide : (w : ℕ) (words : List ℕ) (k : ℕ) → w * k + w ≤ length words → length (row_of w words k) ≡ w
row_wide w words k fits = simp (length-take, length-drop) (omega arith)

-- A word of row `k` stands behind the rows before it.
pub row_word : (w : ℕ) (words : List ℕ) (k i : ℕ) → i < w → get_or (row_of w words k) i 0 ≡ get_or words (w * k + i) 0
row_word w words k i l = get_or-take w _ i 0 l ∙ get_or-drop (w * k) words i 0

-- Row `k` has the words of `row` where the words behind the rows before it are those.
pub row_words_lem : (w : ℕ) (words : List ℕ) (k : ℕ) (row : List ℕ) → length row ≤ w → ((i : ℕ) → i < w → get_or words (w * k + i) 0 ≡ get_or row i 0)
    → (i : ℕ) → get_or (row_of w words k) i 0 ≡ get_or row i 0
row_words_lem w words k row l h i = elim (dec_lt i w) [
  | yes m ↦ row_word w words k i m ∙ h i m
  | no m ↦
      get_or-eq_default (row_of w words k) 0 {n = i} (omega (arith, length-take w (drop (w * k) words)))
      ∙ sym (get_or-eq_default row 0 {n = i} (omega arith))
]

-- Rows of words are rows.
pub words_row : (w : ℕ) (words : List ℕ) (k : ℕ) → w * k + w ≤ length words → ((i : ℕ) → get_or words i 0 < 2 ^ word_bits) → Row w (row_of w words k)
words_row w words k fits small = record {
  width_is = row_wide w words k fits;
  fits = λ i. elim (dec_lt i w) [
    | yes l ↦ subst (λ (x : ℕ). x < 2 ^ word_bits) (sym (row_word w words k i l)) (small (w * k + i))
    | no n ↦ subst (λ (x : ℕ). x < 2 ^ word_bits) (sym (get_or-eq_default (row_of w words k) 0 {n = i} (omega (arith, row_wide w words k fits)))) (pow_pos word_bits)
  ];
}

-- Rows stand apart.
apart : (w j k i : ℕ) → (j ≡ k → ⊥) → i < w → (w * j + i < w * k) ⊎ (w * k + w ≤ w * j + i)
apart w j k i n l = elim (dec_lt j k) [
  | yes m ↦ inl (let h : w * suc j ≤ w * k = mul-le-mul_left w m in omega (arith, mul-suc w j))
  | no g ↦ inr (let h : w * suc k ≤ w * j = mul-le-mul_left w (above g) in omega (arith, mul-suc w k))
]
  where
    above : (j < k → ⊥) → k < j
    above g = omega arith

module _ (w : ℕ) (words : List ℕ) (k : ℕ) (row : List ℕ) (wide : length row ≡ w) (fits : w * k + w ≤ length words) where
  front : length (take (w * k) words) ≡ w * k
  front = length-take-le (w * k) words (omega arith)

  -- Another row `k`: as many words, ..
  pub with_row-length : length (with_row w words k row) ≡ length words
  with_row-length = simp (length-append, length-take, length-drop) (omega arith)

  -- .. the row's words at its place, ..
  pub with_row-inside : (i : ℕ) → i < w → get_or (with_row w words k row) (w * k + i) 0 ≡ get_or row i 0
  with_row-inside i l =
      ap (λ (m : ℕ). get_or (with_row w words k row) (m + i) 0) (sym front)
      ∙ get_or-append-add (take (w * k) words) _ i 0 ∙ get_or-append row _ 0 i (omega arith)

  -- .. and elsewhere the words that stood there.
  pub with_row_outside : (j : ℕ) → (j < w * k) ⊎ (w * k + w ≤ j) → get_or (with_row w words k row) j 0 ≡ get_or words j 0
  with_row_outside j (inl l) = get_or-append (take (w * k) words) _ 0 j (omega (arith, front)) ∙ get_or-take (w * k) words j 0 l
  with_row_outside j (inr l) =
      let i : ℕ = j - (w * k + w) in
      let e : j ≡ length (take (w * k) words) + (length row + i) = omega (arith, front) in
      let f : w * k + w + i ≡ j = omega arith in
      ap (λ (m : ℕ). get_or (with_row w words k row) m 0) e ∙ get_or-append-add (take (w * k) words) _ (length row + i) 0
      ∙ get_or-append-add row _ i 0 ∙ get_or-drop (w * k + w) words i 0 ∙ ap (λ (m : ℕ). get_or words m 0) f

  -- Words that hold the row at row `k`, and elsewhere what stood there, are those.
  pub with_row_ext : (new : List ℕ) → length new ≡ length words
      → ((i : ℕ) → i < w → get_or new (w * k + i) 0 ≡ get_or row i 0)
      → ((j : ℕ) → (j < w * k) ⊎ (w * k + w ≤ j) → get_or new j 0 ≡ get_or words j 0)
      → new ≡ with_row w words k row
  with_row_ext new long inside outside =
      ext_get_or 0 new (with_row w words k row) (long ∙ sym with_row-length) (λ j l. at j (dec_lt j (w * k)) (dec_lt j (w * k + w)))
    where
      at : (j : ℕ) → Dec (j < w * k) → Dec (j < w * k + w) → get_or new j 0 ≡ get_or (with_row w words k row) j 0
      at j (yes l) d = outside j (inl l) ∙ sym (with_row_outside j (inl l))
      at j (no n) (yes l) =
          let i : ℕ = j - w * k in
          let e : j ≡ w * k + i = omega arith in
          ap (λ (m : ℕ). get_or new m 0) e ∙ inside i (omega arith) ∙ sym (ap (λ (m : ℕ). get_or (with_row w words k row) m 0) e ∙ with_row-inside i (omega arith))
      at j (no n) (no m) = let l : w * k + w ≤ j = omega arith in outside j (inr l) ∙ sym (with_row_outside j (inr l))

  -- Row `k` is the new row, and every other row is as it was.
  pub with_row-same : row_of w (with_row w words k row) k ≡ row
  with_row-same =
      ext_get_or 0 (row_of w (with_row w words k row) k) row (here ∙ sym wide)
      (λ i l. row_word w (with_row w words k row) k i (omega (arith, here)) ∙ with_row-inside i (omega (arith, here)))
    where
      here : length (row_of w (with_row w words k row) k) ≡ w
      here = row_wide w (with_row w words k row) k (omega (arith, with_row-length))

  pub with_row-other : (j : ℕ) → (j ≡ k → ⊥) → w * j + w ≤ length words → row_of w (with_row w words k row) j ≡ row_of w words j
  with_row-other j n there =
      ext_get_or 0 (row_of w (with_row w words k row) j) (row_of w words j) (here ∙ sym (row_wide w words j there))
      (λ i l. row_word w (with_row w words k row) j i (omega (arith, here))
      ∙ with_row_outside (w * j + i) (apart w j k i n (omega (arith, here)))
      ∙ sym (row_word w words j i (omega (arith, here))))
    where
      here : length (row_of w (with_row w words k row) j) ≡ w
      here = row_wide w (with_row w words k row) j (omega (arith, with_row-length))
