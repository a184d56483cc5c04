-- What the call answers and leaves, of any bytes, tokens and words: its number, the count of words that it tells, and the words as it leaves them.
use Rattle.std.specs.Prelude.{◌≡◌, Bool, true, false, ◌↔◌, List, ◌++◌, ℕ, ◌≤◌, ◌<◌, length, get_or, drop}
use Rattle.laws.specs.Fills.{too_short}
use Rattle.grammar.specs.Rules.{Grammar}
use Rattle.grammar.specs.Accepted.{Accepted}
use Rattle.grammar.specs.Sentences.{Sentence}
use Rattle.grammar.specs.File.{Malformed, grammar_of}
use Rattle.plain.specs.Table.{max_tokens, needed, TableOf}

-- Every token is one of the `end` ordinary ones.
pub record Ordinary (end : ℕ) (ts : List ℕ) : Type 0 where
  pub below : (i : ℕ) → i < length ts → get_or ts i 0 < end

-- Under an accepted grammar.
pub data Settles (g : Grammar) (ts before : List ℕ) : ℕ → ℕ → List ℕ → Type 0 where
  -- Some token is T or above.
  no_token_lem : (Ordinary g.tokens ts → ⊥) → Settles g ts before 5 0 before
  -- More than 64 tokens.
  too_many : Ordinary g.tokens ts → max_tokens < length ts → Settles g ts before 22 0 before
  -- The slice is too short: nothing is written, and the count is the number of words needed.
  short :
      Ordinary g.tokens ts → length ts ≤ max_tokens → length before < needed (length ts)
      → Settles g ts before too_short (needed (length ts)) before
  -- Done: the table stands in front, and the words behind it are as they were. Of no tokens it has no words.
  done :
      {words : List ℕ} → Ordinary g.tokens ts → length ts ≤ max_tokens → needed (length ts) ≤ length before → TableOf g ts words
      → Settles g ts before 0 (needed (length ts)) (words ++ drop (needed (length ts)) before)

-- Of any bytes: 1, 2, or what the grammar that they give settles.
pub data Tables (file ts before : List ℕ) : ℕ → ℕ → List ℕ → Type 0 where
  malformed : Malformed file → Tables file ts before 1 0 before
  broken : (Malformed file → ⊥) → (Accepted (grammar_of file) → ⊥) → Tables file ts before 2 0 before
  accepted :
      {number count : ℕ} {left : List ℕ} → (Malformed file → ⊥) → Accepted (grammar_of file)
      → Settles (grammar_of file) ts before number count left → Tables file ts before number count left

-- Yes exactly on sentences; no where it is refused.
pub record Tells (g : Grammar) (ts : List ℕ) (number : ℕ) (yes : Bool) : Type 0 where
  pub sentence : number ≡ 0 → (yes ≡ true) ↔ Sentence g ts
  pub refused : (number ≡ 0 → ⊥) → yes ≡ false
