-- How the table is filled: stretch by stretch, and of one stretch rule by rule, falling.
use Rattle.std.specs.Prelude.{◌≡◌, ◌↔◌, List, [], ◌∷◌, ℕ, ◌+◌, ◌-◌, ◌*◌, ◌^◌, ◌≤◌, ◌<◌, length, get_or}
use Rattle.laws.specs.Bits.{word_bits, Holds, row_of}
use Rattle.grammar.specs.Rules.{Grammar, none}
use Rattle.grammar.specs.Accepted.{Accepted, max_rules}
use Rattle.grammar.specs.Sentences.{Derives}
use Rattle.grammar.specs.inner.Decoded.{first_in, second_in}
use Rattle.plain.specs.Table.{max_tokens, row_words, Stretch, stretch, stretches_up_to, place, needed}
use Rattle.plain.specs.Calls.{Ordinary}

-- The row of a stretch of `n` tokens holds the symbol `x`.
abbrev pub Held : List ℕ → ℕ → ℕ → ℕ → ℕ → Type 0
Held table n l i x = Holds (row_of row_words table (place n l i)) x

-- The table of `n` tokens has room.
pub record Room (n : ℕ) (table : List ℕ) : Type 0 where
  pub few : n ≤ max_tokens
  pub there : needed n ≤ length table

-- Row `k` is there, and `x` has a bit in it.
pub record BitThere (table : List ℕ) (k x : ℕ) : Type 0 where
  pub there : row_words * k + row_words ≤ length table
  pub narrow : x < word_bits * row_words

-- The first `end` words are 0, and the others are as they were.
pub record Cleared (end : ℕ) (before after : List ℕ) : Type 0 where
  pub long : length after ≡ length before
  pub zero : (j : ℕ) → j < end → get_or after j 0 ≡ 0
  pub behind : (j : ℕ) → end ≤ j → get_or after j 0 ≡ get_or before j 0

-- The first part of some cut of the stretch holds `b`, and the rest holds `c`.
pub record Splits (table : List ℕ) (n l i b c : ℕ) : Type 0 where
  pub middle : ℕ
  pub some : 0 < middle
  pub less : middle < l
  pub first : Held table n middle i b
  pub second : Held table n (l - middle) (i + middle) c

-- By what the table holds, the right side of rule `r` derives the stretch.
pub data Fires (words table : List ℕ) (n l i r : ℕ) : Type 0 where
  alone : second_in words r ≡ none → Held table n l i (first_in words r) → Fires words table n l i r
  two : (second_in words r ≡ none → ⊥) → Splits table n l i (first_in words r) (second_in words r) → Fires words table n l i r

-- The symbols on the right of rule `r` have bits.
pub record Narrow (words : List ℕ) (r : ℕ) : Type 0 where
  pub there : r < max_rules
  pub first : first_in words r < word_bits * row_words
  pub second : (second_in words r ≡ none → ⊥) → second_in words r < word_bits * row_words

-- The first `k` rows hold their tokens, and nothing else is held.
pub record Seeded (ts table : List ℕ) (k : ℕ) : Type 0 where
  pub fits : (j : ℕ) → j < needed (length ts) → get_or table j 0 < 2 ^ word_bits
  pub only : (j x : ℕ) → j < stretches_up_to (length ts) (length ts) → Holds (row_of row_words table j) x → (j < k) × (x ≡ get_or ts j 0)
  pub all : (j : ℕ) → j < k → Holds (row_of row_words table j) (get_or ts j 0)

-- Stretches whose row stands before row `p` are settled; every other row holds its token alone, where it has one token.
pub record Filling (g : Grammar) (ts table : List ℕ) (p : ℕ) : Type 0 where
  pub fits : (j : ℕ) → j < needed (length ts) → get_or table j 0 < 2 ^ word_bits
  pub settled :
      (l i x : ℕ) → Stretch (length ts) l i → place (length ts) l i < p
      → Held table (length ts) l i x ↔ Derives g x (stretch ts l i)
  pub seeded :
      (l i x : ℕ) → Stretch (length ts) l i → p ≤ place (length ts) l i
      → Held table (length ts) l i x ↔ (stretch ts l i ≡ x ∷ [])

-- The grammar is accepted, the tokens are its own, and the table has room.
pub record Given (g : Grammar) (ts table : List ℕ) : Type 0 where
  pub accepted : Accepted g
  pub ordinary : Ordinary g.tokens ts
  pub room : Room (length ts) table

-- As long as it was, and the words behind the table as they were.
pub record Kept (n : ℕ) (before after : List ℕ) : Type 0 where
  pub long : length after ≡ length before
  pub behind : (j : ℕ) → needed n ≤ j → get_or after j 0 ≡ get_or before j 0
