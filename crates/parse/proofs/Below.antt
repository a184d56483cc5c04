-- Rows without a bit at n or above, word by word, over any width.
use mathlib.Core.Path.{◌≡◌, sym, ap, ◌∙◌}
use mathlib.Core.List.{List}
use Prim.Native.Nat.{ℕ, ◌+◌, ◌-◌, ◌*◌, ◌/◌, ◌%◌, ◌^◌, ◌≤◌, ◌<◌}
use native.Mathlib.Nat.{div-eq_of_lt, div-one}
use native.Mathlib.Decide.{ℕ_discrete, dec_lt}
use native.Mathlib.Omega.{arith}
use lib.ListN.{length, get_or, length-take}
use lib.Pow.{shr-shr, shr_le, pow-lt, pow_pos}
use Rattle.laws.specs.Bits.{word_bits, bit, bit_at, Holds, row_of, Below}
use Rattle.laws.proofs.Bits.{bit_small, bit-zero, bit-place, word_ext, past_end}
use Rattle.laws.proofs.Rows.{row_word}
use Rattle.parse.specs.inner.Parts.{WordBelow}

-- A word whose bits from k on are 0 is 0 when shifted by k.
pub shifted_out : (w k : ℕ) → w < 2 ^ word_bits → ((b : ℕ) → b < word_bits → k ≤ b → bit w b ≡ 0) → w / 2 ^ k ≡ 0
shifted_out w k l h = word_ext word_bits (w / 2 ^ k) 0 (omega (arith, shr_le w k)) (pow_pos word_bits) (λ j m. at j ∙ sym (bit-zero j))
  where
    -- A bit past the word is 0.
    over : (b : ℕ) → word_bits ≤ b → bit w b ≡ 0
    over b m = elim (ℕ_discrete b word_bits) [
      | yes e ↦ ap (λ (n : ℕ). n % 2) (div-eq_of_lt (omega (arith, ap (λ (n : ℕ). 2 ^ n) e)))
      | no n ↦ ap (λ (n : ℕ). n % 2) (div-eq_of_lt (omega (arith, pow-lt {i = word_bits} {j = b} (omega arith))))
    ]

    at : (j : ℕ) → bit (w / 2 ^ k) j ≡ 0
    at j = ap (λ (n : ℕ). n % 2) (shr-shr w k j) ∙ elim (dec_lt (k + j) word_bits) [ yes m ↦ h (k + j) m (omega arith) | no n ↦ over (k + j) (omega arith) ]

-- A word that is 0 when shifted by k has no bit from k on.
pub no_bit : (w k b : ℕ) → w / 2 ^ k ≡ 0 → k ≤ b → bit w b ≡ 0
no_bit w k b e l =
    let up : b ≡ k + (b - k) = omega arith in
    ap (bit w) up ∙ ap (λ (n : ℕ). n % 2) (sym (shr-shr w k (b - k))) ∙ ap (λ (n : ℕ). n / 2 ^ (b - k) % 2) e ∙ bit-zero (b - k)

module _ (n i word : ℕ) where
  -- A word for symbols below n only may hold anything.
  pub low_word : i < n / word_bits → WordBelow n i word
  low_word l = record { none_above = λ b m a. absurd (omega arith) }

  -- A word for symbols from n on must be 0.
  pub high_word : n / word_bits < i → word ≡ 0 → WordBelow n i word
  high_word l e = record { none_above = λ b m a. ap (λ (w : ℕ). bit w b) e ∙ bit-zero b }

  pub high_word_is : n / word_bits < i → word < 2 ^ word_bits → WordBelow n i word → word ≡ 0
  high_word_is l f h = sym (div-one word) ∙ shifted_out word 0 f (λ b m a. h.none_above b m (omega arith))

  -- In the word of symbol n the bits from that symbol's on must be 0.
  pub mid_word : i ≡ n / word_bits → word / 2 ^ (n % word_bits) ≡ 0 → WordBelow n i word
  mid_word s e = record { none_above = λ b m a. no_bit word (n % word_bits) b e (omega arith) }

  pub mid_word_is : i ≡ n / word_bits → word < 2 ^ word_bits → WordBelow n i word → word / 2 ^ (n % word_bits) ≡ 0
  mid_word_is s f h = shifted_out word (n % word_bits) f (λ b m a. h.none_above b m (omega arith))

-- Word i of row k has no bit for the symbol n or one above.
abbrev pub WordIn : ℕ → ℕ → List ℕ → ℕ → ℕ → Type 0
WordIn width n words k i = WordBelow n i (get_or words (width * k + i) 0)

-- A row has no bit at n or above exactly when none of its words has one.
module _ (width n : ℕ) (words : List ℕ) (k : ℕ) where
  pub words-below : ((i : ℕ) → i < width → WordIn width n words k i) → Below n (row_of width words k)
  words-below h = record { none_above = λ s l p. elim (dec_lt (s / word_bits) width) [ yes m ↦ inside s l p m | no m ↦ past_end (row_of width words k) s (outside s m) p ] }
    where
      inside : (s : ℕ) → n ≤ s → Holds (row_of width words k) s → s / word_bits < width → ⊥
      inside s l p m =
          let zero : bit (get_or words (width * k + s / word_bits) 0) (s % word_bits) ≡ 0 = (h (s / word_bits) m).none_above (s % word_bits) (omega arith) (omega arith) in
          let same : bit_at (row_of width words k) s ≡ bit (get_or words (width * k + s / word_bits) 0) (s % word_bits) = ap (λ (w : ℕ). bit w (s % word_bits)) (row_word width words k (s / word_bits) m) in
          omega (arith, p.is_set, same, zero)

      outside : (s : ℕ) → (s / word_bits < width → ⊥) → word_bits * length (row_of width words k) ≤ s
      outside s m = simp length-take (omega arith)

  pub below-words : Below n (row_of width words k) → (i : ℕ) → i < width → WordIn width n words k i
  below-words h i l = record { none_above = λ b m a. elim (ℕ_discrete (bit (get_or words (width * k + i) 0) b) 1) [ yes e ↦ absurd (h.none_above (i * word_bits + b) (omega arith) (record { is_set = at b m ∙ e })) | no x ↦ small b x ] }
    where
      at : (b : ℕ) → b < word_bits → bit_at (row_of width words k) (i * word_bits + b) ≡ bit (get_or words (width * k + i) 0) b
      at b m = bit-place (row_of width words k) i b m ∙ ap (λ (w : ℕ). bit w b) (row_word width words k i l)

      small : (b : ℕ) → (bit (get_or words (width * k + i) 0) b ≡ 1 → ⊥) → bit (get_or words (width * k + i) 0) b ≡ 0
      small b x = omega (arith, bit_small (get_or words (width * k + i) 0) b)
