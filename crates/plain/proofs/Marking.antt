-- What a mark changes: one bit.
use Rattle.std.proofs.Common.{◌≡◌, sym, ap, subst, ◌∙◌, ◌⊎◌, ⊎_elim, List, ℕ, ◌+◌, ◌*◌, ◌/◌, ◌%◌, ◌^◌, ◌≤◌, ◌<◌, arith, length, get_or, set, length-set, get_or-set_same, get_or-set_other, bit_or}
use native.Mathlib.Decide.{ℕ_discrete}
use lib.Bits.{or_lt}
use lib.Pow.{pow-lt}
use Rattle.laws.specs.Bits.{word_bits, Holds, adding, row_of, with_row}
use Rattle.laws.proofs.Bits.{one_shifted, adding-new, adding-kept, adding_one}
use Rattle.laws.proofs.Rows.{row_wide, row_word, with_row-length, with_row_ext, with_row-same, with_row-other}
use Rattle.laws.proofs.Lists.{set-either}
use Rattle.plain.specs.Table.{row_words}
use Rattle.plain.specs.inner.Filling.{BitThere}

-- A store into a row gives the words with that row.
row-set : (w : ℕ) (words : List ℕ) (k i a : ℕ) → w * k + w ≤ length words → i < w → set words (w * k + i) a ≡ with_row w words k (set (row_of w words k) i a)
row-set w words k i a fits l =
    with_row_ext w words k (set (row_of w words k) i a) (length-set (row_of w words k) i a ∙ row_wide w words k fits) fits
    (set words (w * k + i) a) (length-set words (w * k + i) a) inside outside
  where
    inside : (j : ℕ) → j < w → get_or (set words (w * k + i) a) (w * k + j) 0 ≡ get_or (set (row_of w words k) i a) j 0
    inside j m = elim (ℕ_discrete j i) [
      | yes e ↦
          ap (λ (q : ℕ). get_or (set words (w * k + i) a) (w * k + q) 0) e
          ∙ get_or-set_same words (w * k + i) a 0 (omega arith)
          ∙ sym (ap (λ (q : ℕ). get_or (set (row_of w words k) i a) q 0) e ∙ get_or-set_same (row_of w words k) i a 0 (omega (arith, row_wide w words k fits)))
      | no n ↦
          get_or-set_other words (w * k + i) (w * k + j) a 0 (λ (e : w * k + j ≡ w * k + i). n (omega arith))
          ∙ sym (get_or-set_other (row_of w words k) i j a 0 n ∙ row_word w words k j m)
    ]

    outside : (j : ℕ) → (j < w * k) ⊎ (w * k + w ≤ j) → get_or (set words (w * k + i) a) j 0 ≡ get_or words j 0
    outside j o = get_or-set_other words (w * k + i) j a 0
        (⊎_elim (λ (b : j < w * k) (e : j ≡ w * k + i). omega arith) (λ (b : w * k + w ≤ j) (e : j ≡ w * k + i). omega arith) o)

-- The word in which the bit of `s` in row `k` stands.
abbrev word_of : ℕ → ℕ → ℕ
word_of k s = row_words * k + s / word_bits

module _ (table : List ℕ) (k s : ℕ) (bit : BitThere table k s) where
  word-narrow : s / word_bits < row_words
  word-narrow = omega (arith, bit.narrow)

  -- The store that a mark is.
  pub mark_stores : set table (word_of k s) (bit_or (get_or table (word_of k s) 0) (1 * 2 ^ (s % word_bits) % 2 ^ word_bits)) ≡ with_row row_words table k (adding (row_of row_words table k) s)
  mark_stores =
      ap (λ (p : ℕ). set table (word_of k s) (bit_or (get_or table (word_of k s) 0) p)) (one_shifted (s % word_bits) (omega arith))
      ∙ row-set row_words table k (s / word_bits) _ bit.there word-narrow
      ∙ ap (λ (x : ℕ). with_row row_words table k (set (row_of row_words table k) (s / word_bits) (bit_or x (2 ^ (s % word_bits))))) (sym (row_word row_words table k (s / word_bits) word-narrow))

-- The table with the bit of `s` in row `k` set.
pub record Marked (table : List ℕ) (k s : ℕ) (marked : List ℕ) : Type 0 where
  pub long : length marked ≡ length table
  pub other : (j : ℕ) → (j ≡ k → ⊥) → row_words * j + row_words ≤ length table → row_of row_words marked j ≡ row_of row_words table j
  pub new : Holds (row_of row_words marked k) s
  pub kept : (x : ℕ) → Holds (row_of row_words table k) x → Holds (row_of row_words marked k) x
  pub one : (x : ℕ) → Holds (row_of row_words marked k) x → (x ≡ s) ⊎ Holds (row_of row_words table k) x
  pub outside : (j : ℕ) → row_words * k + row_words ≤ j → get_or marked j 0 ≡ get_or table j 0
  pub fits : (end : ℕ) → row_words * k + row_words ≤ end → ((j : ℕ) → j < end → get_or table j 0 < 2 ^ word_bits) → (j : ℕ) → j < end → get_or marked j 0 < 2 ^ word_bits

pub is_marked : (table : List ℕ) (k s : ℕ) → BitThere table k s → (marked : List ℕ) → marked ≡ with_row row_words table k (adding (row_of row_words table k) s) → Marked table k s marked
is_marked table k s bit marked e = record {
  long = ap length e ∙ with_row-length row_words table k row wide bit.there;
  other = λ j n there. ap (λ (m : List ℕ). row_of row_words m j) e ∙ with_row-other row_words table k row wide bit.there j n there;
  new = subst (λ (r : List ℕ). Holds r s) (sym here) (adding-new (row_of row_words table k) s long);
  kept = λ x h. subst (λ (r : List ℕ). Holds r x) (sym here) (adding-kept (row_of row_words table k) s x long h);
  one = λ x h. adding_one (row_of row_words table k) s x long (subst (λ (r : List ℕ). Holds r x) here h);
  outside = λ j behind. ap (λ (m : List ℕ). get_or m j 0) stored ∙ get_or-set_other table (word_of k s) j _ 0 (apart j behind);
  fits = λ end inside small j l.
      subst (λ (m : List ℕ). get_or m j 0 < 2 ^ word_bits) (sym stored)
      (set-either (λ (x : ℕ). x < 2 ^ word_bits) table (word_of k s) _ j 0 (or_lt word_bits _ _ (small (word_of k s) (below end inside)) (power (s % word_bits) (omega arith))) (small j l));
}
  where
    row : List ℕ
    row = adding (row_of row_words table k) s

    wide : length row ≡ row_words
    wide = length-set (row_of row_words table k) (s / word_bits) _ ∙ row_wide row_words table k bit.there

    here : row_of row_words marked k ≡ row
    here = ap (λ (m : List ℕ). row_of row_words m k) e ∙ with_row-same row_words table k row wide bit.there

    long : s / word_bits < length (row_of row_words table k)
    long = omega (arith, row_wide row_words table k bit.there, word-narrow table k s bit)

    stored : marked ≡ set table (word_of k s) (bit_or (get_or table (word_of k s) 0) (1 * 2 ^ (s % word_bits) % 2 ^ word_bits))
    stored = e ∙ sym (mark_stores table k s bit)

    below : (end : ℕ) → row_words * k + row_words ≤ end → word_of k s < end
    below end inside = omega (arith, word-narrow table k s bit)

    apart : (j : ℕ) → row_words * k + row_words ≤ j → j ≡ word_of k s → ⊥
    apart j behind is = omega (arith, word-narrow table k s bit)

    power : (b : ℕ) → b < word_bits → 1 * 2 ^ b % 2 ^ word_bits < 2 ^ word_bits
    power b l = subst (λ (x : ℕ). x < 2 ^ word_bits) (sym (one_shifted b l)) (pow-lt l)
