-- Rows: lists of 64-bit words that hold a set of symbols, over any width.
-- Symbol s is bit s % 64, from the low end, of word s / 64 of its row.
use Rattle.std.specs.Prelude.{◌≡◌, Bool, List, [], ◌∷◌, ◌++◌, ℕ, ◌+◌, ◌*◌, ◌/◌, ◌%◌, ◌^◌, ◌≤◌, ◌<◌, eqb, length, get_or, set, take, drop}
use Rattle.std.specs.Int.Bits.{bit_or}

-- The bits of a word.
abbrev pub word_bits : ℕ
word_bits = 64

-- Bit `k` of a word, from the low end: 0 or 1.
abbrev pub bit : ℕ → ℕ → ℕ
bit word k = word / 2 ^ k % 2

-- The bit of symbol `s` in a row. Past the row's end it is 0.
abbrev pub bit_at : List ℕ → ℕ → ℕ
bit_at row s = bit (get_or row (s / word_bits) 0) (s % word_bits)

-- The row holds the symbol `s`.
pub record Holds (row : List ℕ) (s : ℕ) : Type 0 where
  pub is_set : bit_at row s ≡ 1

-- The same as a test.
abbrev pub holds : List ℕ → ℕ → Bool
holds row s = eqb (bit_at row s) 1

-- A row of `width` words.
pub record Row (width : ℕ) (row : List ℕ) : Type 0 where
  pub width_is : length row ≡ width
  pub fits : (i : ℕ) → get_or row i 0 < 2 ^ word_bits

-- No bit at `n` or above.
pub record Below (n : ℕ) (row : List ℕ) : Type 0 where
  pub none_above : (s : ℕ) → n ≤ s → Holds row s → ⊥

-- The union of two rows, word by word.
unfoldable pub union : List ℕ → List ℕ → List ℕ
union [] b = b
union (x ∷ xs) [] = x ∷ xs
union (x ∷ xs) (y ∷ ys) = bit_or x y ∷ union xs ys

-- The row with the symbol `s` added.
abbrev pub adding : List ℕ → ℕ → List ℕ
adding row s = set row (s / word_bits) (bit_or (get_or row (s / word_bits) 0) (2 ^ (s % word_bits)))

-- Row `k` of words that hold one row of `width` words behind the other.
abbrev pub row_of : ℕ → List ℕ → ℕ → List ℕ
row_of width words k = take width (drop (width * k) words)

-- The same words with another row `k`.
abbrev pub with_row : ℕ → List ℕ → ℕ → List ℕ → List ℕ
with_row width words k row = take (width * k) words ++ (row ++ drop (width * k + width) words)
