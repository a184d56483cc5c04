-- The table: a row for each stretch of the tokens, by length and then by beginning, and in it a bit for each symbol.
use Rattle.std.specs.Prelude.{◌≡◌, ◌↔◌, List, ℕ, zero, suc, ◌+◌, ◌-◌, ◌*◌, ◌^◌, ◌≤◌, ◌<◌, length, get_or, take, drop}
use Rattle.laws.specs.Bits.{word_bits, Holds, row_of}
use Rattle.grammar.specs.Rules.{Grammar}
use Rattle.grammar.specs.Sentences.{Derives}

-- The most tokens.
abbrev pub max_tokens : ℕ
max_tokens = 64

-- The words of a row.
abbrev pub row_words : ℕ
row_words = 8

-- Of `n` tokens, `l` stand behind the first `i`: a stretch.
pub record Stretch (n l i : ℕ) : Type 0 where
  pub some : 0 < l
  pub inside : i + l ≤ n

-- Its tokens.
abbrev pub stretch : List ℕ → ℕ → ℕ → List ℕ
stretch ts l i = take l (drop i ts)

-- How many stretches of `n` tokens have at most `m` tokens: n have one, n - 1 have two, and so on.
unfoldable pub stretches_up_to : ℕ → ℕ → ℕ
stretches_up_to n zero = 0
stretches_up_to n (suc m) = stretches_up_to n m + (n - m)

-- The row of a stretch stands behind those of all shorter ones, and behind those of its length that begin before it.
abbrev pub place : ℕ → ℕ → ℕ → ℕ
place n l i = stretches_up_to n (l - 1) + i

-- The words of all rows.
abbrev pub needed : ℕ → ℕ
needed n = row_words * stretches_up_to n n

-- The words are the table of the tokens `ts`: a bit is set exactly when the symbol derives the stretch.
pub record TableOf (g : Grammar) (ts words : List ℕ) : Type 0 where
  pub long : length words ≡ needed (length ts)
  pub fits : (j : ℕ) → get_or words j 0 < 2 ^ word_bits
  pub exact :
      (l i x : ℕ) → Stretch (length ts) l i
      → Holds (row_of row_words words (place (length ts) l i)) x ↔ Derives g x (stretch ts l i)
